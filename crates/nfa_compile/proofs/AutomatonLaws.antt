-- What a run over the automaton may rely on: at the number of a list's state it finds what the list waits for, and a take leads to the number of the
-- longer list's state.
use Rattle.std.proofs.Common.{◌≡◌, refl, sym, ◌∙◌, ap, ℕ, zero, suc, ◌+◌, ◌-◌, ◌≤◌, ◌<◌, min, arith, Bool, true, false, ◌&&◌, ◌||◌, cond, ◌⊎◌, inl, inr, List, [], ◌∷◌, ◌++◌, length, map}
use Rattle.std.specs.Prelude.{Option, Some, None, ◌==◌, filter, slice_get}
use Rattle.std.specs.List.{last_or, list_any, range_with_len, AllByRecursion as Each}
use Rattle.std.specs.Option.{option_map_or}
use Rattle.std.proofs.lemmas.Bool.{and_from, and_right, or_left, or_right, eqb-true, eq-eqb, cases_order}
use Rattle.cep_event.specs.declared.event.Event.{Event}
use Rattle.cep_plan.specs.declared.plan.Plan.{Plan}
use Rattle.cep_plan.specs.Entry.{Entry, stages_of}
use Rattle.cep_plan.specs.Follow.{count_for, end_stage, may_follow, is_full}
use Rattle.cep_plan.specs.Gap.{contiguity_of}
use Rattle.cep_plan.specs.Partial.{may_grow}
use Rattle.nfa_compile.specs.declared.state.State.{State}
use Rattle.nfa_compile.specs.declared.nfa.Wait.{Wait}
use Rattle.nfa_compile.specs.declared.nfa.Took.{Took}
use Rattle.nfa_compile.specs.State.{greatest_at, states_before, number_of_state, count_in, state_of, state_behind, stages_at, stages_behind, IsCompilable}
use Rattle.nfa_compile.specs.Automaton.{mode_behind, negations_behind, wait_for, waits_of, took_of, automaton_of, negations_between, number_of_list, waits_in}
use Rattle.nfa_compile.proofs.EndLaws.{stage_awaited, target_inside}
use Rattle.nfa_compile.proofs.ReachLaws.{IsInOrder, last_or-push, order-grows}
use Rattle.nfa_compile.proofs.WaitLaws.{some_event, waits_of_state, is_full_state}
use Rattle.nfa_compile.proofs.StateNumberLaws.{took_at_number}

of_took : (plan : Plan) (state : State) → (took_of plan state).proceed ≡ waits_of plan (stages_at state)
unfolding took_of
of_took plan state = refl

start_waits : (plan : Plan) → (automaton_of plan).start ≡ waits_of plan []
unfolding automaton_of
start_waits plan = refl

-- ---- the waits for one stage

any_cond : (f : ℕ → Wait) (stage : ℕ) (b : Bool) (x : ℕ) (rest : List ℕ)
    → list_any (λ w. w.stage == stage) (map f (cond b (x ∷ rest) rest))
    ≡ cond b (((f x).stage == stage) || list_any (λ w. w.stage == stage) (map f rest)) (list_any (λ w. w.stage == stage) (map f rest))
any_cond f stage true x rest = refl
any_cond f stage false x rest = refl

any_step : (b same any passes later : Bool) → (same ≡ true → b ≡ passes) → later ≡ (any && passes) → cond b (same || later) later ≡ ((same || any) && passes)
any_step true true any passes later h k = h refl
any_step false true any passes later h k = k ∙ and_right any passes (sym (h refl)) ∙ h refl
any_step true false any passes later h k = k
any_step false false any passes later h k = k

any_kept : (f : ℕ → Wait) (test : ℕ → Bool) (stage : ℕ) → ((t : ℕ) → (f t).stage ≡ t) → (xs : List ℕ)
    → list_any (λ w. w.stage == stage) (map f (filter test xs)) ≡ (list_any (λ x. x == stage) xs && test stage)
any_kept f test stage same [] = refl
any_kept f test stage same (x ∷ xs) =
    any_cond f stage (test x) x (filter test xs)
    ∙ ap (λ e. cond (test x) ((e == stage) || list_any (λ w. w.stage == stage) (map f (filter test xs)))
    (list_any (λ w. w.stage == stage) (map f (filter test xs)))) (same x)
    ∙ any_step (test x) (x == stage) (list_any (λ y. y == stage) xs) (test stage) (list_any (λ w. w.stage == stage) (map f (filter test xs)))
    (λ e. ap test (eqb-true x stage e)) (any_kept f test stage same xs)

any_range : (from n stage : ℕ) → from ≤ stage → stage < from + n → list_any (λ x. x == stage) (range_with_len from n) ≡ true
any_range from zero stage h k = absurd (omega (arith, h, k))
any_range from (suc n) stage h k = by_order (cases_order from stage) (any_range (from + 1) n stage) where
  by_order : (from ≡ stage) ⊎ ((from < stage) ⊎ (stage < from))
      → (from + 1 ≤ stage → stage < from + 1 + n → list_any (λ x. x == stage) (range_with_len (from + 1) n) ≡ true)
      → ((from == stage) || list_any (λ x. x == stage) (range_with_len (from + 1) n)) ≡ true
  by_order (inl e) later = or_left (from == stage) (list_any (λ x. x == stage) (range_with_len (from + 1) n)) (eq-eqb from stage e)
  by_order (inr (inl l)) later =
      or_right (from == stage) (list_any (λ x. x == stage) (range_with_len (from + 1) n)) (later (omega (arith, l)) (omega (arith, k)))
  by_order (inr (inr l)) later = absurd (omega (arith, l, h))

stage_of_wait : (plan : Plan) (so_far : List ℕ) (stage : ℕ) → (wait_for plan so_far stage).stage ≡ stage
unfolding wait_for
stage_of_wait plan so_far stage = refl

-- A list has a wait for a stage just where the stage may follow.
pub wait_where_follows : (plan : Plan) (so_far : List ℕ) (stage : ℕ) → list_any (λ w. w.stage == stage) (waits_of plan so_far) ≡ may_follow plan so_far stage
unfolding waits_of
wait_where_follows plan so_far stage =
    any_kept (wait_for plan so_far) (may_follow plan so_far) stage (stage_of_wait plan so_far) (range_with_len 0 (end_stage plan + 1))
    ∙ by_test (may_follow plan so_far stage) refl where
      by_test : (b : Bool) → may_follow plan so_far stage ≡ b → (list_any (λ x. x == stage) (range_with_len 0 (end_stage plan + 1)) && b) ≡ b
      by_test true is =
          and_from (list_any (λ x. x == stage) (range_with_len 0 (end_stage plan + 1))) true
          (let below = stage_awaited plan so_far stage is in any_range 0 (end_stage plan + 1) stage (omega arith) (omega (arith, below))) refl
      by_test false is = and_right (list_any (λ x. x == stage) (range_with_len 0 (end_stage plan + 1))) false refl

-- Each wait of a list is the one for its stage, which may follow.
pub each_wait : (plan : Plan) (so_far : List ℕ)
    → Each (λ w. (may_follow plan so_far w.stage ≡ true) × (w ≡ wait_for plan so_far w.stage)) (waits_of plan so_far)
unfolding waits_of
each_wait plan so_far = all (range_with_len 0 (end_stage plan + 1)) where
  one : (stage : ℕ) (b : Bool) (rest : List ℕ) → may_follow plan so_far stage ≡ b
      → Each (λ w. (may_follow plan so_far w.stage ≡ true) × (w ≡ wait_for plan so_far w.stage)) (map (wait_for plan so_far) rest)
      → Each (λ w. (may_follow plan so_far w.stage ≡ true) × (w ≡ wait_for plan so_far w.stage)) (map (wait_for plan so_far) (cond b (stage ∷ rest) rest))
  one stage true rest is later =
      let same = stage_of_wait plan so_far stage in
      ((ap (may_follow plan so_far) same ∙ is, ap (wait_for plan so_far) (sym same)), later)
  one stage false rest is later = later

  all : (xs : List ℕ)
      → Each (λ w. (may_follow plan so_far w.stage ≡ true) × (w ≡ wait_for plan so_far w.stage))
      (map (wait_for plan so_far) (filter (may_follow plan so_far) xs))
  all [] = tt
  all (x ∷ xs) = one x (may_follow plan so_far x) (filter (may_follow plan so_far) xs) refl (all xs)

-- The contiguity of a wait, and the negations between, are those of the step from the last stage to that of the wait.
pub mode_of_wait : (plan : Plan) (so_far : List ℕ) (last stage : ℕ) → last_or None so_far ≡ Some last
    → (wait_for plan so_far stage).mode ≡ contiguity_of plan last stage
unfolding wait_for
mode_of_wait plan so_far last stage ends = ap (λ o. mode_behind plan o stage) ends

pub negations_of_wait : (plan : Plan) (so_far : List ℕ) (last stage : ℕ) → last_or None so_far ≡ Some last
    → (wait_for plan so_far stage).negations ≡ negations_between plan last stage
unfolding wait_for
negations_of_wait plan so_far last stage ends = ap (λ o. negations_behind plan o stage) ends

-- ---- takes

-- A list that takes an event for a stage has the state that the wait for the stage leads to.
pub state_after_take : (plan : Plan) (so_far : List ℕ) (stage : ℕ)
    → state_of plan (so_far ++ stage ∷ []) ≡ Some (record { stage = stage; count = (wait_for plan so_far stage).count })
unfolding state_of wait_for
state_after_take plan so_far stage = ap (state_behind plan (so_far ++ stage ∷ [])) (last_or-push None so_far stage)

pub number_after_take : (plan : Plan) (so_far : List ℕ) (stage : ℕ) → stage < length plan.stages
    → number_of_list plan (so_far ++ stage ∷ []) ≡ (wait_for plan so_far stage).state
unfolding wait_for
number_after_take plan so_far stage inside =
    ap (λ o. option_map_or (λ state. number_of_state plan state.stage state.count) o 0) (state_after_take plan so_far stage)
    ∙ sym (target_inside plan so_far stage inside)

-- ---- lookups

module _ (plan : Plan) (fit : IsCompilable plan) (so_far : List ℕ) (order : IsInOrder plan so_far) where
  -- The state of a list that isn't empty stands at its number.
  pub took_of_last : (last : ℕ) → last_or None so_far ≡ Some last
      → slice_get (automaton_of plan).took (states_before plan last + (count_in plan so_far last - 1))
      ≡ Some (took_of plan (record { stage = last; count = count_in plan so_far last }))
  took_of_last last ends =
      let some = some_event plan fit so_far order last ends in
      let back : 1 + (count_in plan so_far last - 1) ≡ count_in plan so_far last = omega (arith, some) in
      let most : count_in plan so_far last - 1 < greatest_at plan last = below (count_for last so_far) (greatest_at plan last) some in
      took_at_number plan last (count_in plan so_far last - 1) (order.known last ends) most
      ∙ ap (λ n. Some (took_of plan (record { stage = last; count = n }))) back where
        below : (n g : ℕ) → 1 ≤ min n g → min n g - 1 < g
        below n g h = omega (arith, h)

  waits_at_last : (last : ℕ) → last_or None so_far ≡ Some last
      → waits_in (automaton_of plan) (states_before plan last + count_in plan so_far last)
      ≡ waits_of plan (stages_at (record { stage = last; count = count_in plan so_far last }))
  waits_at_last last ends =
      let some = some_event plan fit so_far order last ends in
      let number : states_before plan last + count_in plan so_far last ≡ suc (states_before plan last + (count_in plan so_far last - 1)) = omega (arith, some) in
      ap (waits_in (automaton_of plan)) number
      ∙ ap (λ o. option_map_or (λ (took : Took). took.proceed) o []) (took_of_last last ends)
      ∙ of_took plan (record { stage = last; count = count_in plan so_far last })

  -- At the number of a list's state the automaton has just what the list waits for.
  pub waits_in_automaton : waits_in (automaton_of plan) (number_of_list plan so_far) ≡ waits_of plan so_far
  unfolding state_of
  waits_in_automaton = cases (last_or None so_far) refl ∙ waits_of_state plan fit so_far order where
    cases : (o : Option ℕ) → last_or None so_far ≡ o
        → waits_in (automaton_of plan) (option_map_or (λ state. number_of_state plan state.stage state.count) (state_behind plan so_far o) 0)
        ≡ waits_of plan (stages_behind (state_behind plan so_far o))
    cases None is = start_waits plan
    cases (Some last) is = waits_at_last last is

  -- At the number of its state the automaton has whether the list is full.
  pub full_in_automaton : (last : ℕ) → last_or None so_far ≡ Some last
      → (took_of plan (record { stage = last; count = count_in plan so_far last })).full ≡ is_full plan so_far
  unfolding took_of state_of
  full_in_automaton last ends = ap (λ o. is_full plan (stages_behind (state_behind plan so_far o))) (sym ends) ∙ is_full_state plan fit so_far order

-- ---- lists of events

module _ (plan : Plan) (fit : IsCompilable plan) (events : List Event) (list : List Entry) (grows : may_grow plan events list ≡ true) where
  -- A list that may grow finds at the number of its state just the waits for the stages that may follow it.
  pub waits_of_list : waits_in (automaton_of plan) (number_of_list plan (stages_of list)) ≡ waits_of plan (stages_of list)
  waits_of_list = waits_in_automaton plan fit (stages_of list) (order-grows plan events list grows)

  pub followers_of_list : (stage : ℕ)
      → list_any (λ w. w.stage == stage) (waits_in (automaton_of plan) (number_of_list plan (stages_of list)))
      ≡ may_follow plan (stages_of list) stage
  followers_of_list stage = ap (list_any (λ w. w.stage == stage)) waits_of_list ∙ wait_where_follows plan (stages_of list) stage
