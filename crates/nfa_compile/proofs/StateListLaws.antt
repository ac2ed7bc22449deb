-- The list of states, state by state and stage by stage.
use Rattle.std.proofs.Common.{◌≡◌, sym, ◌∙◌, ap, ℕ, zero, suc, ◌+◌, arith, List, [], ◌∷◌, ◌++◌, append_assoc, map}
use Rattle.std.specs.List.{range_with_len, flat_map}
use Rattle.std.proofs.lemmas.List.{map-append, append-nil}
use Rattle.std.proofs.lemmas.List.FromFn.{map-range_with_len_more}
use Rattle.cep_plan.specs.declared.plan.Plan.{Plan}
use Rattle.nfa_compile.specs.declared.state.State.{State}
use Rattle.nfa_compile.specs.State.{states_at}
use Rattle.nfa_compile.specs.Automaton.{took_of}

-- one more count of a stage
pub counts_more : (plan : Plan) (stage n : ℕ)
    → map (took_of plan) (map (λ count. record { stage = stage; count = count }) (range_with_len 1 (n + 1)))
    ≡ map (took_of plan) (map (λ count. record { stage = stage; count = count }) (range_with_len 1 n))
    ++ took_of plan (record { stage = stage; count = n + 1 }) ∷ []
counts_more plan stage n =
    let make : ℕ → State = λ count. record { stage = stage; count = count } in
    ap (map (took_of plan)) (map-range_with_len_more make 1 n (n + 1) (omega arith))
    ∙ map-append (took_of plan) (map make (range_with_len 1 n)) (make (n + 1) ∷ [])

-- what one more number of a range adds
pub flat_range_more : {X : Type 0} (f : ℕ → List X) (from n : ℕ) → flat_map f (range_with_len from (n + 1)) ≡ flat_map f (range_with_len from n) ++ f (from + n)
flat_range_more f from n = ap (λ m. flat_map f (range_with_len from m)) one ∙ stepped from n where
  one : n + 1 ≡ suc n
  one = omega arith

  stepped : (from n : ℕ) → flat_map f (range_with_len from (suc n)) ≡ flat_map f (range_with_len from n) ++ f (from + n)
  stepped from zero = append-nil (f from) ∙ ap f (let same : from ≡ from + 0 = omega arith in same)
  stepped from (suc n) =
      ap (λ xs. f from ++ xs) (stepped (from + 1) n) ∙ append_assoc' from n where
        append_assoc' : (from n : ℕ)
            → f from ++ (flat_map f (range_with_len (from + 1) n) ++ f (from + 1 + n)) ≡ (f from ++ flat_map f (range_with_len (from + 1) n))
            ++ f (from + suc n)
        append_assoc' from n =
            sym (append_assoc (f from) (flat_map f (range_with_len (from + 1) n)) (f (from + 1 + n)))
            ∙ ap (λ m. (f from ++ flat_map f (range_with_len (from + 1) n)) ++ f m) (let same : from + 1 + n ≡ from + suc n = omega arith in same)

pub flat_from_zero : {X : Type 0} (f : ℕ → List X) (n : ℕ) → flat_map f (range_with_len 0 (n + 1)) ≡ flat_map f (range_with_len 0 n) ++ f n
flat_from_zero f n = flat_range_more f 0 n ∙ ap (λ m. flat_map f (range_with_len 0 n) ++ f m) (let same : 0 + n ≡ n = omega arith in same)

-- the states of one more stage
pub stages_more : (plan : Plan) (n : ℕ)
    → map (took_of plan) (flat_map (states_at plan) (range_with_len 0 (n + 1)))
    ≡ map (took_of plan) (flat_map (states_at plan) (range_with_len 0 n)) ++ map (took_of plan) (states_at plan n)
stages_more plan n =
    ap (map (took_of plan)) (flat_range_more (states_at plan) 0 n
    ∙ ap (λ m. flat_map (states_at plan) (range_with_len 0 n) ++ states_at plan m) (let same : 0 + n ≡ n = omega arith in same))
    ∙ map-append (took_of plan) (flat_map (states_at plan) (range_with_len 0 n)) (states_at plan n)
