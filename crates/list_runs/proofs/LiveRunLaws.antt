-- The open lists of a due by their runs: those that are told as timeouts, and those that are told as matches. Lists in order, each once, that are just
-- those of such runs are `waiting_at`, or `closing_at`.
use Rattle.std.proofs.Common.{◌≡◌, refl, sym, ◌∙◌, ap, subst, ℕ, Bool, true, false, not, ◌&&◌, List, [], ◌∷◌, length, map}
use Rattle.std.specs.Prelude.{Contains, filter}
use Rattle.std.specs.List.Sorted.{IsStrictlySortedBy}
use Rattle.std.proofs.lemmas.Bool.{and_parts, and_from}
use Rattle.cep_event.specs.declared.event.Event.{Event}
use Rattle.cep_plan.specs.declared.plan.Plan.{Plan}
use Rattle.cep_plan.specs.declared.item.Taken.{Taken}
use Rattle.cep_plan.specs.declared.item.Due.{Due}
use Rattle.cep_plan.specs.declared.item.Due.TheVariants.{Start, Last}
use Rattle.cep_plan.specs.Entry.{Entry, taken_of, entries_in, stages_of, stages_in}
use Rattle.cep_plan.specs.Follow.{end_stage, is_full}
use Rattle.cep_plan.specs.Order.{list_cmp}
use Rattle.cep_plan.specs.Partial.{may_grow, is_partial, is_live, is_open_for, waits}
use Rattle.cep_plan.specs.History.{lists_within}
use Rattle.cep_plan.proofs.RisingLaws.{IsRisingList}
use Rattle.cep_plan.proofs.FilteredLaws.{filtered_unique}
use Rattle.list_runs.specs.Runs.{ListRun, StandsFor, run_of}
use Rattle.live_laws.specs.Starts.{Scope, is_open, is_due_of, is_unfinished, is_closing_list, waiting_at, closing_at}
use Rattle.live_laws.proofs.LastLaws.{entries_in-taken_of, stages_in-taken_of}
use Rattle.live_laws.proofs.LiveLaws.{is_live-waits, waits-is_live}
use Rattle.live_laws.proofs.MemberLaws.{map_back, Contains-map, Contains-from_map, Each-from_contains}
use Rattle.live_laws.proofs.PartialLaws.{is_partial-may_grow, is_partial-rising}
use Rattle.live_laws.proofs.WaitLaws.{waits-may_grow}

-- Lists in order that are just the partial ones that pass a test.
told-unique : (plan : Plan) (events : List Event) (passes : List Entry → Bool) (xs : List (List Taken)) → IsStrictlySortedBy list_cmp (map entries_in xs)
    → ((z : List Taken) → Contains xs z → (list : List Entry) × (z ≡ taken_of events list) × (is_partial plan events list ≡ true) × (passes list ≡ true))
    → ((list : List Entry) → passes list ≡ true → Contains xs (taken_of events list))
    → xs ≡ map (taken_of events) (filter passes (lists_within plan (length events)))
told-unique plan events passes xs sorted sound complete =
    sym (map_back entries_in (taken_of events) xs
    (Each-from_contains (λ z. taken_of events (entries_in z) ≡ z) xs
    (λ z q. let known = sound z q in ap (taken_of events) (entries z known.0 known.1) ∙ sym known.1)))
    ∙ ap (map (taken_of events)) (filtered_unique passes (length plan.stages) (length events) (map entries_in xs) sorted sound_entries
    (λ list rising h. subst (Contains (map entries_in xs)) (entries_in-taken_of events list)
    (Contains-map entries_in xs (taken_of events list) (complete list h)))) where
      entries : (z : List Taken) (list : List Entry) → z ≡ taken_of events list → entries_in z ≡ list
      entries z list is = ap entries_in is ∙ entries_in-taken_of events list

      sound_entries : (list : List Entry) → Contains (map entries_in xs) list
          → IsRisingList (length plan.stages) 0 (length events) list × (passes list ≡ true)
      sound_entries list q =
          let found = Contains-from_map entries_in xs list q in
          let known = sound found.0 found.1 in
          let is : known.0 ≡ list = sym (entries found.0 known.0 known.1) ∙ found.2 in
          (subst (IsRisingList (length plan.stages) 0 (length events)) is (is_partial-rising plan events known.0 known.2), sym (ap passes is) ∙ known.3)

-- no due is the empty list's
due-partial : (plan : Plan) (events : List Event) (due : Due) (list : List Entry) (stage : ℕ) → is_due_of due list ≡ true
    → waits plan events list stage ≡ true → is_partial plan events list ≡ true
unfolding is_partial
due-partial plan events due (first ∷ later) stage h k = waits-may_grow plan events (first ∷ later) stage k
due-partial plan events (Start position) [] stage h k = let no : false ≡ true = h in absurd cc
due-partial plan events (Last position) [] stage h k = let no : false ≡ true = h in absurd cc

module _ (plan : Plan) (events : List Event) (scope : Scope) (runs : List ListRun) (stands : StandsFor plan events scope runs) (due : Due) where
  -- the run of the taken events that waits for the end
  abbrev ending : List Taken → ListRun
  ending list = record { stage = end_stage plan; list = list }

  -- an open list has a run that waits for the end where it waits for it
  ending-contains : (list : List Entry) → is_partial plan events list ≡ true → is_open scope list ≡ true
      → is_open_for plan events list (end_stage plan) ≡ true → Contains runs (ending (taken_of events list))
  unfolding waits
  ending-contains list partial open_now h =
      stands.complete list (end_stage plan)
      (and_from (may_grow plan events list) (is_open_for plan events list (end_stage plan)) (is_partial-may_grow plan events list partial) h) open_now

  ending-open : (list : List Entry) → Contains runs (ending (taken_of events list))
      → (waits plan events list (end_stage plan) ≡ true) × (is_open scope list ≡ true)
  ending-open list q =
      let known = stands.sound (ending (taken_of events list)) q in
      let is : known.0 ≡ list =
      sym (entries_in-taken_of events known.0) ∙ sym (ap (λ (r : ListRun). entries_in r.list) known.1) ∙ entries_in-taken_of events list in
      (sym (ap (λ l. waits plan events l (end_stage plan)) is) ∙ known.2, sym (ap (is_open scope) is) ∙ known.3)

  waits-open : (list : List Entry) → waits plan events list (end_stage plan) ≡ true → is_open_for plan events list (end_stage plan) ≡ true
  unfolding waits
  waits-open list h = (and_parts (may_grow plan events list) (is_open_for plan events list (end_stage plan)) h).1

  -- the taken events of the list stand in the due
  due_of-taken : (list : List Entry) → is_due_of due (entries_in (taken_of events list)) ≡ is_due_of due list
  due_of-taken list = ap (is_due_of due) (entries_in-taken_of events list)

  -- Those that are told as timeouts: the lists of the due that have a run, aren't full, and have no run that waits for the end.
  pub waiting_at-lists : (xs : List (List Taken)) → IsStrictlySortedBy list_cmp (map entries_in xs)
      → ((z : List Taken) → Contains xs z → (run : ListRun) × Contains runs run × (run.list ≡ z) × (is_due_of due (entries_in z) ≡ true)
      × (is_full plan (stages_in z) ≡ false) × (Contains runs (ending z) → ⊥))
      → ((run : ListRun) → Contains runs run → is_due_of due (entries_in run.list) ≡ true → is_full plan (stages_in run.list) ≡ false
      → (Contains runs (ending run.list) → ⊥) → Contains xs run.list)
      → xs ≡ map (taken_of events) (waiting_at plan events scope due)
  unfolding waiting_at
  waiting_at-lists xs sorted sound complete = told-unique plan events passes xs sorted sound_list complete_list where
    passes : List Entry → Bool
    passes list = is_open scope list && is_due_of due list && is_unfinished plan events list

    sound_list : (z : List Taken) → Contains xs z
        → (list : List Entry) × (z ≡ taken_of events list) × (is_partial plan events list ≡ true) × (passes list ≡ true)
    sound_list z q =
        let found = sound z q in
        let known = stands.sound found.0 found.1 in
        let list : List Entry = known.0 in
        let is : z ≡ taken_of events list = sym found.2 ∙ ap (λ r. r.list) known.1 in
        let in_due : is_due_of due list ≡ true = sym (due_of-taken list) ∙ sym (ap (λ l. is_due_of due (entries_in l)) is) ∙ found.3 in
        let partial = due-partial plan events due list found.0.stage in_due known.2 in
        let part_full : is_full plan (stages_of list) ≡ false =
        sym (ap (is_full plan) (stages_in-taken_of events list)) ∙ sym (ap (λ l. is_full plan (stages_in l)) is) ∙ found.4 in
        let closed : is_open_for plan events list (end_stage plan) ≡ false =
        by_end list (λ h. found.5 (subst (λ l. Contains runs (ending l)) (sym is) (ending-contains list partial known.3 h))) in (
          list,
          is,
          partial,
          and_from (is_open scope list && is_due_of due list) (is_unfinished plan events list)
              (and_from (is_open scope list) (is_due_of due list) known.3 in_due)
              (and_from (is_live plan events list && not (is_full plan (stages_of list))) (not (is_open_for plan events list (end_stage plan)))
              (and_from (is_live plan events list) (not (is_full plan (stages_of list))) (is_live-waits plan events list found.0.stage partial known.2)
              (ap not part_full))
              (ap not closed)),
        ) where
          by_end : (list : List Entry) → (is_open_for plan events list (end_stage plan) ≡ true → ⊥) → is_open_for plan events list (end_stage plan) ≡ false
          by_end list never = by_test (is_open_for plan events list (end_stage plan)) refl where
            by_test : (b : Bool) → is_open_for plan events list (end_stage plan) ≡ b → is_open_for plan events list (end_stage plan) ≡ false
            by_test true is = absurd (never is)
            by_test false is = is

    complete_list : (list : List Entry) → passes list ≡ true → Contains xs (taken_of events list)
    complete_list list h =
        let both = and_parts (is_open scope list && is_due_of due list) (is_unfinished plan events list) h in
        let first = and_parts (is_open scope list) (is_due_of due list) both.0 in
        let unfinished = and_parts (is_live plan events list && not (is_full plan (stages_of list)))
        (not (is_open_for plan events list (end_stage plan))) both.1 in
        let part = and_parts (is_live plan events list) (not (is_full plan (stages_of list))) unfinished.0 in
        let waiting = waits-is_live plan events list part.0 in
        complete (run_of events list waiting.1.0) (stands.complete list waiting.1.0 waiting.1.1 first.0) (due_of-taken list ∙ first.1)
        (ap (is_full plan) (stages_in-taken_of events list) ∙ turned (is_full plan (stages_of list)) part.1)
        (λ q. differ (is_open_for plan events list (end_stage plan)) (waits-open list (ending-open list q).0) unfinished.1) where
          turned : (b : Bool) → not b ≡ true → b ≡ false
          turned true k = let no : false ≡ true = k in absurd cc
          turned false k = refl

          differ : (b : Bool) → b ≡ true → not b ≡ true → ⊥
          differ true k l = let no : false ≡ true = l in cc
          differ false k l = let no : false ≡ true = k in cc

  -- Those that are told as matches: the lists of the due that have a run which waits for the end.
  pub closing_at-lists : (xs : List (List Taken)) → IsStrictlySortedBy list_cmp (map entries_in xs)
      → ((z : List Taken) → Contains xs z → Contains runs (ending z) × (is_due_of due (entries_in z) ≡ true))
      → ((z : List Taken) → Contains runs (ending z) → is_due_of due (entries_in z) ≡ true → Contains xs z)
      → xs ≡ map (taken_of events) (closing_at plan events scope due)
  unfolding closing_at
  closing_at-lists xs sorted sound complete = told-unique plan events passes xs sorted sound_list complete_list where
    passes : List Entry → Bool
    passes list = is_open scope list && is_due_of due list && is_closing_list plan events list

    sound_list : (z : List Taken) → Contains xs z
        → (list : List Entry) × (z ≡ taken_of events list) × (is_partial plan events list ≡ true) × (passes list ≡ true)
    sound_list z q =
        let found = sound z q in
        let known = stands.sound (ending z) found.0 in
        let list : List Entry = known.0 in
        let is : z ≡ taken_of events list = ap (λ (r : ListRun). r.list) known.1 in
        let in_due : is_due_of due list ≡ true = sym (due_of-taken list) ∙ sym (ap (λ l. is_due_of due (entries_in l)) is) ∙ found.1 in
        let partial = due-partial plan events due list (end_stage plan) in_due known.2 in (
          list,
          is,
          partial,
          and_from (is_open scope list && is_due_of due list) (is_closing_list plan events list)
              (and_from (is_open scope list) (is_due_of due list) known.3 in_due)
              (and_from (is_partial plan events list) (is_open_for plan events list (end_stage plan)) partial (waits-open list known.2)),
        )

    complete_list : (list : List Entry) → passes list ≡ true → Contains xs (taken_of events list)
    complete_list list h =
        let both = and_parts (is_open scope list && is_due_of due list) (is_closing_list plan events list) h in
        let first = and_parts (is_open scope list) (is_due_of due list) both.0 in
        let part = and_parts (is_partial plan events list) (is_open_for plan events list (end_stage plan)) both.1 in
        complete (taken_of events list) (ending-contains list part.0 first.0 part.1) (due_of-taken list ∙ first.1)
