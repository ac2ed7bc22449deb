-- Ranges of numbers.
use Rattle.std.proofs.Common.{◌≡◌, refl, sym, ◌∙◌, ap, ℕ, zero, suc, ◌+◌, ◌-◌, ◌≤◌, ◌<◌, arith, Bool, true, false, ◌&&◌, ◌||◌, ◌⊎◌, inl, inr, nat_lt, cond, List, [], ◌∷◌, ◌++◌, append_assoc, map}
use Rattle.std.specs.Prelude.{filter}
use Rattle.std.specs.List.{range_with_len, list_all}
use Rattle.std.proofs.lemmas.Bool.{lt-ltb, le-ltb, cases_lt}
use Rattle.std.proofs.lemmas.List.{map-append}
use Rattle.std.proofs.lemmas.List.Elements.{filter-append}
use Rattle.std.proofs.lemmas.List.Folds.{list_all-append}
use Rattle.cep_plan.specs.declared.plan.Plan.{Plan}
use Rattle.cep_plan.specs.Follow.{all_optional}
use Rattle.nfa_compile.specs.Passing.{optional_at}

counted : (from n : ℕ) → (k : ℕ) → n ≡ suc k → range_with_len from n ≡ from ∷ range_with_len (from + 1) k
counted from n k e = ap (range_with_len from) e

-- the first of a range
pub range-first : (from to : ℕ) → from < to → range_with_len from (to - from) ≡ from ∷ range_with_len (from + 1) (to - (from + 1))
range-first from to lt = counted from (to - from) (to - (from + 1)) (omega (arith, lt))

pub range-nil : (from to : ℕ) → to ≤ from → range_with_len from (to - from) ≡ []
range-nil from to le = let none : to - from ≡ 0 = omega (arith, le) in ap (range_with_len from) none

-- one more number of a range, which the test keeps or not
pub kept_range-step : (test : ℕ → Bool) (from to : ℕ) → from < to → (xs : List ℕ) (kept : Bool) → test from ≡ kept
    → xs ++ filter test (range_with_len from (to - from)) ≡ cond kept (xs ++ from ∷ []) xs ++ filter test (range_with_len (from + 1) (to - (from + 1)))
kept_range-step test from to lt xs kept is =
    ap (λ r. xs ++ filter test r) (range-first from to lt)
    ∙ ap (λ b. xs
    ++ cond b (from ∷ filter test (range_with_len (from + 1) (to - (from + 1)))) (filter test (range_with_len (from + 1) (to - (from + 1))))) is
    ∙ by_test kept where
      by_test : (b : Bool)
          → xs
          ++ cond b (from ∷ filter test (range_with_len (from + 1) (to - (from + 1)))) (filter test (range_with_len (from + 1) (to - (from + 1))))
          ≡ cond b (xs ++ from ∷ []) xs ++ filter test (range_with_len (from + 1) (to - (from + 1)))
      by_test true = sym (append_assoc xs (from ∷ []) (filter test (range_with_len (from + 1) (to - (from + 1)))))
      by_test false = refl

-- one more number at the end of a range
pub range-end : (from n : ℕ) → range_with_len from (suc n) ≡ range_with_len from n ++ (from + n) ∷ []
range-end from zero = ap (λ m. m ∷ []) (let same : from ≡ from + 0 = omega arith in same)
range-end from (suc n) = ap (λ xs. from ∷ xs) (range-end (from + 1) n)
    ∙ ap (λ m. from ∷ (range_with_len (from + 1) n ++ m ∷ [])) (let same : from + 1 + n ≡ from + suc n = omega arith in same)

-- what is made of those that pass, with one number more
pub filter_range_end : {X : Type 0} (make : ℕ → X) (test : ℕ → Bool) (n : ℕ)
    → map make (filter test (range_with_len 0 (n + 1))) ≡ map make (filter test (range_with_len 0 n)) ++ map make (filter test (n ∷ []))
filter_range_end make test n =
    ap (λ m. map make (filter test (range_with_len 0 m))) (let one : n + 1 ≡ suc n = omega arith in one)
    ∙ ap (λ xs. map make (filter test xs)) (range-end 0 n ∙ ap (λ m. range_with_len 0 n ++ m ∷ []) (let same : 0 + n ≡ n = omega arith in same))
    ∙ ap (map make) (filter-append test (range_with_len 0 n) (n ∷ [])) ∙ map-append make (filter test (range_with_len 0 n)) (filter test (n ∷ []))

all_end : (test : ℕ → Bool) (from n : ℕ) → list_all test (range_with_len from (suc n)) ≡ (list_all test (range_with_len from n) && test (from + n))
all_end test from n =
    ap (list_all test) (range-end from n) ∙ list_all-append test (range_with_len from n) ((from + n) ∷ [])
    ∙ ap (λ b. list_all test (range_with_len from n) && b) (and-true (test (from + n))) where
      and-true : (b : Bool) → (b && true) ≡ b
      and-true true = refl
      and-true false = refl

-- whether all stages up to the next one are optional
pub optional_more : (plan : Plan) (from stage : ℕ)
    → all_optional plan from (stage + 1) ≡ (all_optional plan from stage && (nat_lt stage from || optional_at plan stage))
optional_more plan from stage = by_order (cases_lt stage from) where
  none : (to : ℕ) → to ≤ from → all_optional plan from to ≡ true
  none to le = ap (list_all (optional_at plan)) (range-nil from to le)

  by_order : (stage < from) ⊎ (from ≤ stage)
      → all_optional plan from (stage + 1) ≡ (all_optional plan from stage && (nat_lt stage from || optional_at plan stage))
  by_order (inl below) =
      none (stage + 1) (omega (arith, below)) ∙ sym (λ i. none stage (omega (arith, below)) i && (lt-ltb stage from below i || optional_at plan stage))
  by_order (inr above) =
      let more : stage + 1 - from ≡ suc (stage - from) = omega (arith, above) in
      let last : from + (stage - from) ≡ stage = omega (arith, above) in
      ap (λ n. list_all (optional_at plan) (range_with_len from n)) more ∙ all_end (optional_at plan) from (stage - from)
      ∙ ap (λ s. all_optional plan from stage && optional_at plan s) last
      ∙ sym (ap (λ b. all_optional plan from stage && (b || optional_at plan stage)) (le-ltb stage from above))
