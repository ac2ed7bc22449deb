-- The length of labels: two digits at most for each stage that is entered, and for each further event of a stage that allows combinations.
use Rattle.std.proofs.Common.{◌≡◌, refl, ◌∙◌, ap, ℕ, suc, ◌+◌, ◌*◌, ◌≤◌, ◌==◌, arith, Bool, true, false, cond, not, ◌&&◌, List, [], ◌∷◌, ◌++◌}
use Rattle.std.proofs.Common.{length, length-append, Option, Some, None}
use Rattle.std.specs.Prelude.{option_map}
use Rattle.std.specs.List.{last_or}
use Rattle.cep_event.specs.declared.event.Event.{Event}
use Rattle.cep_plan.specs.declared.plan.Plan.{Plan}
use Rattle.cep_plan.specs.Entry.{Entry, stages_of}
use Rattle.cep_plan.specs.Gap.{contiguity_of}
use Rattle.live_laws.proofs.LastLaws.{last_or-map, last_or-push}
use Rattle.nfa_compile.specs.Automaton.{is_chaining, is_same_chain, mode_behind}
use Rattle.match_labels.specs.Label.{Mark, no_mark, stays, earlier_takes, step_digits, mark_behind, mark_from, label_of, branches_in}
use Rattle.sharing_laws.specs.Versions.{is_entered, is_combined, count_behind, digits_within}

-- 1 where the test passes
abbrev one_if : Bool → ℕ
one_if b = cond b 1 0

module _ (plan : Plan) where
  -- a step that doesn't stay in its chain enters a stage, or is one of combinations
  branch_counts : (last : Option ℕ) (stage : ℕ) → is_same_chain plan last stage ≡ false
      → 1 ≤ one_if (is_entered last stage) + one_if (is_combined plan last stage)
  branch_counts None stage is = omega arith
  branch_counts (Some last) stage is = by_tests (last == stage) (is_chaining (contiguity_of plan last stage)) is where
    by_tests : (same chains : Bool) → (same && chains) ≡ false → 1 ≤ one_if (not same) + one_if (same && not chains)
    by_tests true true both = let no : true ≡ false = both in absurd cc
    by_tests true false both = omega arith
    by_tests false chains both = omega arith

  module _ (events : List Event) where
    -- a step appends at most two digits
    digits_few : (list : List Entry) (next : Entry) (digit : ℕ) → length (step_digits plan events list next digit) ≤ 2
    digits_few list next digit = by_mode (is_chaining (mode_behind plan (last_or None (stages_of list)) next.stage)) where
      by_mode : (chains : Bool) → suc (length (cond chains [] (earlier_takes plan events list next ∷ []))) ≤ 2
      by_mode true = omega arith
      by_mode false = omega arith

    step_short : (list : List Entry) (mark : Mark) (next : Entry)
        → length (mark_behind plan events list mark next).label
        ≤ length mark.label + 2 *
        (one_if (is_entered (last_or None (stages_of list)) next.stage) + one_if (is_combined plan (last_or None (stages_of list)) next.stage))
    unfolding mark_behind
    step_short list mark next = by_test (stays plan (stages_of list) next.stage) refl where
      cost : ℕ
      cost = one_if (is_entered (last_or None (stages_of list)) next.stage) + one_if (is_combined plan (last_or None (stages_of list)) next.stage)

      by_test : (stay : Bool) → stays plan (stages_of list) next.stage ≡ stay
          → length (cond {A = Mark} stay (record { label = mark.label; next = mark.next + branches_in plan (stages_of list) })
          (record { label = mark.label ++ step_digits plan events list next mark.next; next = 0 })).label
          ≤ length mark.label + 2 * cost
      by_test true is = omega arith
      by_test false is =
          omega (
            arith,
            length-append mark.label (step_digits plan events list next mark.next),
            digits_few list next mark.next,
            branch_counts (last_or None (stages_of list)) next.stage is,
          )

    last_stage : (list : List Entry) (next : Entry) → last_or None (stages_of (list ++ next ∷ [])) ≡ Some next.stage
    last_stage list next =
        last_or-map (λ (e : Entry). e.stage) None (list ++ next ∷ []) ∙ ap (option_map (λ (e : Entry). e.stage)) (last_or-push None list next)

    from_short : (list : List Entry) (mark : Mark) (later : List Entry)
        → length (mark_from plan events list mark later).label
        ≤ length mark.label +
        (2 * count_behind is_entered (last_or None (stages_of list)) (stages_of later) + 2 * count_behind (is_combined plan)
        (last_or None (stages_of list)) (stages_of later))
    from_short list mark [] = omega arith
    from_short list mark (next ∷ later) =
        omega (
          arith,
          step_short list mark next,
          from_short (list ++ next ∷ []) (mark_behind plan events list mark next) later,
          ap (λ o. count_behind is_entered o (stages_of later)) (last_stage list next),
          ap (λ o. count_behind (is_combined plan) o (stages_of later)) (last_stage list next),
        )

    -- The label of a list is short.
    pub label_short : (list : List Entry) → length (label_of plan events list) ≤ digits_within plan (stages_of list)
    label_short list = omega (arith, from_short [] no_mark list)
