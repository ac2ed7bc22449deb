-- The groups pass an event, one after the other.
use Rattle.std.proofs.Common.{◌≡◌, refl, sym, ◌∙◌, ap, subst, ℕ, zero, suc, ◌+◌, ◌<◌, ◌≤◌, arith, Bool, true, not, List, [], ◌∷◌, ◌++◌, append_assoc, length, map, get_or, set, take, drop}
use Rattle.std.specs.Prelude.{filter}
use Rattle.std.specs.List.{AllByRecursion as Each}
use Rattle.std.proofs.lemmas.List.{append-nil, map-append, get_or-drop, take_more_set, drop_more}
use Rattle.std.proofs.lemmas.Grind.{flat_map-append}
use Rattle.cep_event.specs.declared.event.Event.{Event}
use Rattle.cep_plan.specs.declared.plan.Plan.{Plan}
use Rattle.cep_plan.specs.Partial.{waits}
use Rattle.nfa_compile.specs.declared.nfa.Nfa.{Nfa}
use Rattle.list_buffer.specs.Held.{Holder}
use Rattle.run_step.specs.declared.runs.Run.{Run}
use Rattle.run_step.specs.declared.passing.Passing.{Passing as PassingRow}
use Rattle.run_step.specs.Content.{Staged, Grouped, staged, in_group, in_groups}
use Rattle.run_step.specs.Runs.{Waiter, holder_of, AreRunsOf}
use Rattle.run_step.specs.Taking.{AreTakesOf}
use Rattle.run_step.specs.Passing.{goes_on, is_taking}
use Rattle.run_step.specs.Putting.{AreHeldRuns}
use Rattle.run_step.specs.Noting.{CanPassGroup, CanPassGroupSome, GroupPassed, CanPassGroups, GroupsPassed, PassingGroups}
use Rattle.run_step.proofs.StepLaws.{filter-of_append}
use Rattle.run_step.proofs.StandLaws.{AreRunsOf-append}
use Rattle.run_step.proofs.GroupPassLaws.{AreTakesOf-append, AreHeldRuns-append}

module _ (plan : Plan) (events : List Event) (event : Event) where
  abbrev whole : List Event
  whole = events ++ event ∷ []

  abbrev goes : Waiter → Bool
  goes = goes_on plan events event

  abbrev ends : Waiter → Bool
  ends w = not (goes_on plan events event w)

  groups_join : (ws vs : List Waiter) (runs : List Staged) (stage : ℕ) (more : List Run) (old mid new : PassingRow)
      → GroupsPassed plan events event ws runs old mid → GroupPassed plan events event stage vs more mid new
      → GroupsPassed plan events event (ws ++ vs) (runs ++ map (staged stage) more) old new
  groups_join ws vs runs stage more old mid new a b = record {
    runs_are = subst (λ (l : List Waiter). AreRunsOf plan whole l (runs ++ map (staged stage) more)) (sym (filter-of_append goes ws vs))
        (AreRunsOf-append plan whole (filter goes ws) (filter goes vs) runs (map (staged stage) more) a.runs_are b.runs_are);
    takes = a.takes ++ b.takes;
    takes_are =
        subst (λ (l : List Waiter). AreTakesOf plan whole (length events) l (a.takes ++ b.takes))
        (sym (filter-of_append (is_taking plan events event) ws vs))
        (AreTakesOf-append plan whole (length events) (filter (is_taking plan events event) ws) (filter (is_taking plan events event) vs) a.takes
        b.takes a.takes_are b.takes_are);
    takes_added = b.takes_added ∙ ap (λ l. l ++ b.takes) a.takes_added ∙ append_assoc old.takes.items a.takes b.takes;
    ended = a.ended ++ b.ended;
    ended_are =
        subst (λ (l : List Holder). AreHeldRuns plan whole l (a.ended ++ b.ended))
        (sym (ap (map holder_of) (filter-of_append ends ws vs) ∙ map-append holder_of (filter ends ws) (filter ends vs)))
        (AreHeldRuns-append plan whole (map holder_of (filter ends ws)) (map holder_of (filter ends vs)) a.ended b.ended a.ended_are b.ended_are);
    ended_added = b.ended_added ∙ ap (λ l. l ++ b.ended) a.ended_added ∙ append_assoc old.ended.items a.ended b.ended;
  }

  record Split (ws : List Waiter) (xs ys : List Staged) : Type 0 where
    these : List Waiter
    others : List Waiter
    parts : ws ≡ these ++ others
    these_wait : Each (λ w. waits plan events w.list w.stage ≡ true) these
    others_wait : Each (λ w. waits plan events w.list w.stage ≡ true) others
    these_are : AreRunsOf plan events these xs
    others_are : AreRunsOf plan events others ys

  split : (ws : List Waiter) (xs ys : List Staged) → Each (λ w. waits plan events w.list w.stage ≡ true) ws → AreRunsOf plan events ws (xs ++ ys)
      → Split ws xs ys
  split ws [] ys waiting are = record { these = []; others = ws; parts = refl; these_wait = tt; others_wait = waiting; these_are = tt; others_are = are }
  split [] (x ∷ xs) ys waiting are = absurd are
  split (w ∷ ws) (x ∷ xs) ys waiting are =
      let rest = split ws xs ys waiting.1 are.1 in
      record {
        these = w ∷ rest.these;
        others = rest.others;
        parts = ap (λ l. w ∷ l) rest.parts;
        these_wait =
            (waiting.0, rest.these_wait);
        others_wait = rest.others_wait;
        these_are = (are.0, rest.these_are);
        others_are = rest.others_are;
      }

  module _ (position : ℕ) (nfa : Nfa) (waiters : List Waiter) (all : List Grouped) (can : CanPassGroups plan events position waiters nfa (in_groups all)) where
    pub groups_none : (passing : PassingRow) → PassingGroups plan events event waiters (in_groups all) [] passing passing
    groups_none passing = record {
      done = [];
      rest = waiters;
      parts = refl;
      waiting = can.waiting;
      rest_are = can.runs_are;
      passed =
          record {
            runs_are = tt;
            takes = [];
            takes_are = tt;
            takes_added = sym (append-nil passing.takes.items);
            ended = [];
            ended_are =
                tt;
            ended_added = sym (append-nil passing.ended.items);
          };
    }

    module _ (items : List Grouped) (place : ℕ) (group : Grouped) (sized : length items ≡ length all) (rest : drop place items ≡ drop place all)
        (within : place < length all) (at : group ≡ get_or items place group) (old mid : PassingRow)
        (so_far : PassingGroups plan events event waiters (in_groups (drop place all)) (in_groups (take place items)) old mid) where
      left : in_groups (drop place all) ≡ in_group group ++ in_groups (drop (place + 1) all)
      left =
          let zero_more : place + 0 ≡ place = omega arith in
          let in_all = at ∙ sym (get_or-drop place items 0 group ∙ ap (λ k. get_or items k group) zero_more) ∙ ap (λ l. get_or l 0 group) rest ∙ get_or-drop place all 0 group ∙ ap (λ k. get_or all k group) zero_more in
          ap in_groups (drop_more all place group within ∙ ap (λ g. g ∷ drop (place + 1) all) (sym in_all))

      parted : Split so_far.rest (in_group group) (in_groups (drop (place + 1) all))
      parted =
          split so_far.rest (in_group group) (in_groups (drop (place + 1) all)) so_far.waiting
          (subst (AreRunsOf plan events so_far.rest) left so_far.rest_are)

      group_can : CanPassGroup plan events position group.stage parted.these nfa group.runs
      group_can = record { fit = can.fit; automaton = can.automaton; at = can.at; small = can.small; waiting = parted.these_wait; runs_are = parted.these_are }

      pub group_some : CanPassGroupSome plan position group.stage nfa group.runs
      group_some = record { events = events; waiters = parted.these; can = group_can }

      pub groups_turn : (after : Grouped) (new : PassingRow) → after.stage ≡ group.stage
          → ((es : List Event) (ws : List Waiter) → CanPassGroup plan es position group.stage ws nfa group.runs
          → GroupPassed plan es event group.stage ws after.runs mid new)
          → PassingGroups plan events event waiters (in_groups (drop (place + 1) all)) (in_groups (take (place + 1) (set items place after))) old new
      groups_turn after new named told =
          let passed = told events parted.these group_can in
          let more : in_groups (take (place + 1) (set items place after)) ≡ in_groups (take place items) ++ map (staged group.stage) after.runs =
          ap in_groups (take_more_set items place after (omega (arith, within, sized))) ∙ flat_map-append in_group (take place items) (after ∷ [])
          ∙ ap (λ l. in_groups (take place items) ++ l) (append-nil (in_group after))
          ∙ ap (λ s. in_groups (take place items) ++ map (staged s) after.runs) named in
          record {
            done = so_far.done ++ parted.these;
            rest = parted.others;
            parts = so_far.parts ∙ ap (λ l. so_far.done ++ l) parted.parts ∙ sym (append_assoc so_far.done parted.these parted.others);
            waiting = parted.others_wait;
            rest_are = parted.others_are;
            passed =
                subst (λ (rs : List Staged). GroupsPassed plan events event (so_far.done ++ parted.these) rs old new) (sym more)
                (groups_join so_far.done parted.these (in_groups (take place items)) group.stage after.runs old mid new so_far.passed passed);
          }

    none_left : (ws : List Waiter) → AreRunsOf plan events ws [] → ws ≡ []
    none_left [] are = refl
    none_left (w ∷ ws) are = absurd are

    drop-over : (gs : List Grouped) (n : ℕ) → length gs ≤ n → drop n gs ≡ []
    drop-over [] zero le = refl
    drop-over [] (suc n) le = refl
    drop-over (g ∷ gs) zero le = absurd (omega (arith, le))
    drop-over (g ∷ gs) (suc n) le = drop-over gs n (omega (arith, le))

    take-over : (gs : List Grouped) (n : ℕ) → length gs ≤ n → take n gs ≡ gs
    take-over [] zero le = refl
    take-over [] (suc n) le = refl
    take-over (g ∷ gs) zero le = absurd (omega (arith, le))
    take-over (g ∷ gs) (suc n) le = ap (λ l. g ∷ l) (take-over gs n (omega (arith, le)))

    pub groups_all : (items : List Grouped) (place : ℕ) → length items ≡ length all → length all ≤ place → (old new : PassingRow)
        → PassingGroups plan events event waiters (in_groups (drop place all)) (in_groups (take place items)) old new
        → GroupsPassed plan events event waiters (in_groups items) old new
    groups_all items place sized le old new so_far =
        let nothing = none_left so_far.rest (subst (AreRunsOf plan events so_far.rest) (ap in_groups (drop-over all place le)) so_far.rest_are) in
        let whole_of : so_far.done ≡ waiters = sym (append-nil so_far.done) ∙ sym (ap (λ l. so_far.done ++ l) nothing) ∙ sym so_far.parts in
        subst (λ (ws : List Waiter). GroupsPassed plan events event ws (in_groups items) old new) whole_of
        (subst (λ (gs : List Grouped). GroupsPassed plan events event so_far.done (in_groups gs) old new)
        (take-over items place (omega (arith, sized, le))) so_far.passed)
