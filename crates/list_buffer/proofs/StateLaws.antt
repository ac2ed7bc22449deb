-- The number of a list's state tells its last stage, and a list rises to its end.
use Rattle.std.proofs.Common.{◌≡◌, refl, sym, ◌∙◌, ap, subst, ℕ, ◌+◌, ◌-◌, ◌<◌, arith, true, List, [], ◌∷◌, ◌++◌, length, Option, Some, None}
use Rattle.std.specs.Prelude.{slice_get, option_map}
use Rattle.std.specs.List.{last_or}
use Rattle.std.specs.Option.{option_map_or}
use Rattle.cep_event.specs.declared.event.Event.{Event}
use Rattle.cep_plan.specs.declared.plan.Plan.{Plan}
use Rattle.cep_plan.specs.Entry.{Entry, last_entry, stages_of}
use Rattle.cep_plan.specs.Partial.{is_partial}
use Rattle.cep_plan.proofs.RisingLaws.{IsRising}
use Rattle.live_laws.proofs.LastLaws.{last_or-map}
use Rattle.live_laws.proofs.PartialLaws.{is_partial-may_grow, may_grow-rising}
use Rattle.nfa_compile.specs.State.{IsCompilable, states_before, number_of_state, count_in, state_of, state_behind}
use Rattle.nfa_compile.specs.declared.nfa.Took.{Took}
use Rattle.nfa_compile.specs.Automaton.{number_of_list, took_of, automaton_of}
use Rattle.nfa_compile.proofs.ReachLaws.{IsInOrder, order-grows}
use Rattle.nfa_compile.proofs.WaitLaws.{some_event}
use Rattle.nfa_compile.proofs.AutomatonLaws.{took_of_last}

-- the number of the state of a list with a last stage
number_with_last : (plan : Plan) (so_far : List ℕ) (last : ℕ) → last_or None so_far ≡ Some last
    → number_of_list plan so_far ≡ states_before plan last + count_in plan so_far last
unfolding state_of
number_with_last plan so_far last is = ap (λ o. option_map_or (λ state. number_of_state plan state.stage state.count) (state_behind plan so_far o) 0) is

took_stage : (plan : Plan) (stage count : ℕ)
    → option_map (λ (took : Took). took.stage) (Some (took_of plan (record { stage = stage; count = count }))) ≡ Some stage
unfolding took_of
took_stage plan stage count = refl

module _ (plan : Plan) (fit : IsCompilable plan) where
  stage_at_number : (so_far : List ℕ) → IsInOrder plan so_far → (last : ℕ) → last_or None so_far ≡ Some last
      → option_map (λ (took : Took). took.stage) (slice_get (automaton_of plan).took (number_of_list plan so_far - 1)) ≡ Some last
  stage_at_number so_far order last is =
      let some = some_event plan fit so_far order last is in
      let number = number_with_last plan so_far last is in
      let place : number_of_list plan so_far - 1 ≡ states_before plan last + (count_in plan so_far last - 1) = omega (arith, number, some) in
      ap (λ k. option_map (λ (took : Took). took.stage) (slice_get (automaton_of plan).took k)) place
      ∙ ap (option_map (λ (took : Took). took.stage)) (took_of_last plan fit so_far order last is)
      ∙ took_stage plan last (count_in plan so_far last)

  -- Lists of one state end at one stage.
  pub same_stage : (events : List Event) (a b : List Entry) (x y : Entry) → is_partial plan events a ≡ true → is_partial plan events b ≡ true
      → last_entry a ≡ Some x → last_entry b ≡ Some y → number_of_list plan (stages_of a) ≡ number_of_list plan (stages_of b) → x.stage ≡ y.stage
  same_stage events a b x y pa pb ea eb same =
      let last_a : last_or None (stages_of a) ≡ Some x.stage = last_or-map (λ (e : Entry). e.stage) None a ∙ ap (option_map (λ (e : Entry). e.stage)) ea in
      let last_b : last_or None (stages_of b) ≡ Some y.stage = last_or-map (λ (e : Entry). e.stage) None b ∙ ap (option_map (λ (e : Entry). e.stage)) eb in
      let at_a = stage_at_number (stages_of a) (order-grows plan events a (is_partial-may_grow plan events a pa)) x.stage last_a in
      let at_b = stage_at_number (stages_of b) (order-grows plan events b (is_partial-may_grow plan events b pb)) y.stage last_b in
      let both : Some x.stage ≡ Some y.stage =
      sym at_a ∙ ap (λ k. option_map (λ (took : Took). took.stage) (slice_get (automaton_of plan).took (k - 1))) same ∙ at_b in
      cc

-- ---- rising

rising_behind : (stages from to : ℕ) (front : List Entry) (o : Option Entry) (last end : Entry) → IsRising stages from to (front ++ end ∷ [])
    → ((e : Entry) → o ≡ Some e → e.position < from)
    → last_or o front ≡ Some last → last.position < end.position
rising_behind stages from to [] o last end rises low is = let below = low last is in omega (arith, below, rises.1)
rising_behind stages from to (x ∷ front) o last end rises low is =
    rising_behind stages (x.position + 1) to front (Some x) last end rises.3
    (λ e same. let it : x ≡ e = cc in let p : x.position ≡ e.position = ap (λ (y : Entry). y.position) it in omega (arith, p)) is

-- the end of a partial match stands behind the end of what is in front of it
pub front_lower : (plan : Plan) (events : List Event) (list front : List Entry) (last end : Entry) → is_partial plan events list ≡ true
    → list ≡ front ++ end ∷ [] → last_entry front ≡ Some last → last.position < end.position
front_lower plan events list front last end partial parts is =
    rising_behind (length plan.stages) 0 (length events) front None last end
    (subst (IsRising (length plan.stages) 0 (length events)) parts (may_grow-rising plan events list (is_partial-may_grow plan events list partial)))
    (λ e no. absurd cc) is
