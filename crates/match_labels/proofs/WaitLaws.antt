-- How the digits of a step are counted along the automaton: among the waits of a list's state, those that branch off.
use Rattle.std.proofs.Common.{◌≡◌, refl, sym, ◌∙◌, ap, ℕ, zero, suc, ◌+◌, ◌-◌, ◌≤◌, arith, Bool, true, false, cond, not, ◌&&◌, List, [], ◌∷◌, ◌++◌, map, get_or, drop, inl, inr}
use Rattle.std.specs.Prelude.{filter}
use Rattle.std.specs.List.{count_by, range_with_len}
use Rattle.std.proofs.lemmas.Bool.{cases_Bool}
use Rattle.std.proofs.lemmas.List.Sums.{sum_by-append}
use Rattle.cep_plan.specs.declared.plan.Plan.{Plan}
use Rattle.cep_plan.specs.Follow.{end_stage, may_follow}
use Rattle.nfa_compile.specs.declared.nfa.Wait.{Wait}
use Rattle.nfa_compile.specs.Automaton.{wait_for, waits_of}
use Rattle.match_labels.specs.Label.{stays, branches, branches_off, branches_below, branches_in}

split : {X : Type 0} (test : X → Bool) (x : X) (xs : List X) → count_by test (x ∷ xs) ≡ (0 + cond (test x) 1 0) + count_by test xs
split test x xs = sum_by-append (λ y. cond (test y) 1 0) (x ∷ []) xs

nothing-more : (k : ℕ) → k ≡ (0 + 0) + k
nothing-more k = omega arith

module _ (follows apart : ℕ → Bool) (wait : ℕ → Wait) (named : (stage : ℕ) → (wait stage).stage ≡ stage)
    (told : (stage : ℕ) → branches (wait stage) ≡ apart stage) where
  abbrev both : ℕ → Bool
  both stage = follows stage && apart stage

  -- all waits
  all-counted : (from n : ℕ) → count_by branches (map wait (filter follows (range_with_len from n))) ≡ count_by both (range_with_len from n)
  all-counted from zero = refl
  all-counted from (suc n) = elim (cases_Bool (follows from)) [
    | inl here ↦
        ap (λ (b : Bool). count_by branches (map wait
        (cond b (from ∷ filter follows (range_with_len (from + 1) n)) (filter follows (range_with_len (from + 1) n))))) here
        ∙ split branches (wait from) (map wait (filter follows (range_with_len (from + 1) n)))
        ∙ (λ i. (0 + cond (told from i) 1 0) + all-counted (from + 1) n i)
        ∙ ap (λ (b : Bool). (0 + cond (b && apart from) 1 0) + count_by both (range_with_len (from + 1) n)) (sym here)
        ∙ sym (split both from (range_with_len (from + 1) n))
    | inr none ↦
        ap (λ (b : Bool). count_by branches (map wait
        (cond b (from ∷ filter follows (range_with_len (from + 1) n)) (filter follows (range_with_len (from + 1) n))))) none
        ∙ all-counted (from + 1) n
        ∙ nothing-more (count_by both (range_with_len (from + 1) n))
        ∙ ap (λ (b : Bool). (0 + cond (b && apart from) 1 0) + count_by both (range_with_len (from + 1) n)) (sym none)
        ∙ sym (split both from (range_with_len (from + 1) n))
  ]

  -- the waits in front of one
  front-counted : (from n : ℕ) (front back : List Wait) (w : Wait) → map wait (filter follows (range_with_len from n)) ≡ front ++ w ∷ back
      → (from ≤ w.stage) × (count_by branches front ≡ count_by both (range_with_len from (w.stage - from)))
  front-counted from zero [] back w is = cc is
  front-counted from zero (v ∷ front) back w is = cc is
  front-counted from (suc n) front back w is = by_test (follows from) refl front is (λ front. front-counted (from + 1) n front back w) where
    rest : List Wait
    rest = map wait (filter follows (range_with_len (from + 1) n))

    -- the range up to a later stage begins with this one
    begun : (stage : ℕ) → from + 1 ≤ stage
        → count_by both (range_with_len from (stage - from))
        ≡ (0 + cond (both from) 1 0) + count_by both (range_with_len (from + 1) (stage - (from + 1)))
    begun stage le =
        let size : stage - from ≡ suc (stage - (from + 1)) = omega (arith, le) in
        ap (λ k. count_by both (range_with_len from k)) size ∙ split both from (range_with_len (from + 1) (stage - (from + 1)))

    by_test : (b : Bool) → follows from ≡ b → (front : List Wait)
        → map wait (cond (follows from) (from ∷ filter follows (range_with_len (from + 1) n)) (filter follows (range_with_len (from + 1) n))) ≡ front
        ++ w ∷ back
        → ((front : List Wait) → rest ≡ front ++ w ∷ back → (from + 1 ≤ w.stage)
        × (count_by branches front ≡ count_by both (range_with_len (from + 1) (w.stage - (from + 1)))))
        → (from ≤ w.stage) × (count_by branches front ≡ count_by both (range_with_len from (w.stage - from)))
    by_test true here [] h more =
        let whole : wait from ∷ rest ≡ w ∷ back = ap (λ (b : Bool). map wait (cond b (from ∷ filter follows (range_with_len (from + 1) n)) (filter follows (range_with_len (from + 1) n)))) (sym here) ∙ h in
        let stage : from ≡ w.stage = sym (named from) ∙ ap (λ (l : List Wait). (get_or l 0 w).stage) whole in
        let size : w.stage - from ≡ 0 = omega (arith, stage) in
        (omega (arith, stage), ap (λ k. count_by both (range_with_len from k)) (sym size))
    by_test true here (v ∷ front) h more =
        let whole : wait from ∷ rest ≡ v ∷ (front ++ w ∷ back) = ap (λ (b : Bool). map wait (cond b (from ∷ filter follows (range_with_len (from + 1) n)) (filter follows (range_with_len (from + 1) n)))) (sym here) ∙ h in
        let first : wait from ≡ v = ap (λ (l : List Wait). get_or l 0 v) whole in
        let later = more front (ap (drop 1) whole) in
        let digit : branches v ≡ both from = ap branches (sym first) ∙ told from ∙ ap (λ (b : Bool). b && apart from) (sym here) in
        (omega (arith, later.0), split branches v front ∙ (λ i. (0 + cond (digit i) 1 0) + later.1 i) ∙ sym (begun w.stage later.0))
    by_test false none front h more =
        let later = more front (ap (λ (b : Bool). map wait (cond b (from ∷ filter follows (range_with_len (from + 1) n)) (filter follows (range_with_len (from + 1) n)))) (sym none) ∙ h) in (
          omega (arith, later.0),
          later.1
              ∙ nothing-more (count_by both (range_with_len (from + 1) (w.stage - (from + 1))))
              ∙ ap (λ (b : Bool). (0 + cond (b && apart from) 1 0) + count_by both (range_with_len (from + 1) (w.stage - (from + 1)))) (sym none)
              ∙ sym (begun w.stage later.0),
        )

-- as many waits of a list branch off as stages do
pub branches_in-waits : (plan : Plan) (so_far : List ℕ) → count_by branches (waits_of plan so_far) ≡ branches_in plan so_far
unfolding branches_below waits_of wait_for
branches_in-waits plan so_far =
    all-counted (may_follow plan so_far) (λ stage. not (stays plan so_far stage)) (wait_for plan so_far) (λ stage. refl) (λ stage. refl) 0 (end_stage plan + 1)

-- and as many in front of a wait as there are stages below its own that do
pub branches_below-waits : (plan : Plan) (so_far : List ℕ) (front back : List Wait) (wait : Wait) → waits_of plan so_far ≡ front ++ wait ∷ back
    → count_by branches front ≡ branches_below plan so_far wait.stage
unfolding branches_below waits_of wait_for
branches_below-waits plan so_far front back wait is =
    let size : wait.stage - 0 ≡ wait.stage = omega arith in
    (front-counted (may_follow plan so_far) (λ stage. not (stays plan so_far stage)) (wait_for plan so_far) (λ stage. refl) (λ stage. refl) 0
    (end_stage plan + 1) front back wait is).1
    ∙ ap (λ k. count_by (branches_off plan so_far) (range_with_len 0 k)) size
