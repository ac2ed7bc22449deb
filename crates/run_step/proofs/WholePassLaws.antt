-- The whole pass: the empty list's takes, and those of the groups.
use Rattle.std.proofs.Common.{◌≡◌, refl, sym, ◌∙◌, ap, subst, ℕ, ◌-◌, ◌<◌, ◌^◌, arith, not, List, [], ◌∷◌, ◌++◌, length, map}
use Rattle.std.specs.Prelude.{filter}
use Rattle.cep_event.specs.declared.event.Event.{Event}
use Rattle.cep_plan.specs.declared.plan.Plan.{Plan}
use Rattle.nfa_compile.specs.declared.nfa.Wait.{Wait}
use Rattle.nfa_compile.specs.declared.nfa.Nfa.{Nfa}
use Rattle.nfa_compile.specs.Automaton.{automaton_of, waits_of}
use Rattle.cond_sums.specs.Kept.{Summed}
use Rattle.run_judge.specs.Fate.{AreSumsOf}
use Rattle.run_step.specs.declared.passing.Take.{Take}
use Rattle.run_step.specs.declared.passing.Passing.{Passing as PassingRow}
use Rattle.run_step.specs.Content.{Content, Staged}
use Rattle.run_step.specs.Runs.{Waiter, holder_of, AreRunsOf}
use Rattle.run_step.specs.Taking.{AreTakesOf}
use Rattle.run_step.specs.Passing.{first_waiters, goes_on, is_taking}
use Rattle.run_step.specs.Putting.{AreHeldRuns}
use Rattle.run_step.specs.Noting.{CanBeginFirst, FirstsNoted, CanPassGroups, GroupsPassed}
use Rattle.run_step.specs.Stepping.{CanPass, PassedTo}
use Rattle.run_step.proofs.StepLaws.{filter-of_append}
use Rattle.run_step.proofs.GroupPassLaws.{AreTakesOf-append}

start_of_automaton : (plan : Plan) → (automaton_of plan).start ≡ waits_of plan []
unfolding automaton_of
start_of_automaton plan = refl

module _ (plan : Plan) (events : List Event) (waiters : List Waiter) (nfa : Nfa) (old : Content) (can : CanPass plan events waiters nfa old) where
  pub firsts_can : (position : ℕ) (waiting : List Wait) (bumps : List ℕ) (empty : Summed) → position ≡ old.position → waiting ≡ nfa.start
      → bumps ≡ old.bumps → empty ≡ old.empty → CanBeginFirst plan events position waiting bumps empty
  firsts_can position waiting bumps empty p w b e = record {
    fit = can.fit;
    at = p ∙ can.counted;
    waits_are = w ∙ ap (λ (n : Nfa). n.start) can.automaton ∙ start_of_automaton plan;
    bumps_are = b ∙ can.bumps;
    empty_is = subst (AreSumsOf plan []) (sym e) can.empty;
  }

  pub groups_can : (position : ℕ) (runs : List Staged) → position ≡ old.position → runs ≡ old.runs → old.position < 2 ^ 32 - 1
      → CanPassGroups plan events position waiters nfa runs
  groups_can position runs p r small = record {
    fit = can.fit;
    automaton = can.automaton;
    at = p ∙ can.counted;
    small = omega (arith, p, small);
    waiting = can.waiting;
    runs_are = subst (AreRunsOf plan events waiters) (sym r) can.runs;
  }

  pub whole_passed : (event : Event) (bumps : List ℕ) (empty takes : List Take) → empty ≡ [] → FirstsNoted plan events event bumps empty takes
      → (mid new : PassingRow) → mid.takes.items ≡ takes → mid.ended.items ≡ [] → (runs : List Staged) → GroupsPassed plan events event waiters runs mid new
      → (position : ℕ) (none_taken : Summed) → position ≡ old.position → none_taken ≡ old.empty
      → PassedTo plan events event waiters old (record { runs = runs; bumps = bumps; position = position; empty = none_taken }) new.takes.items new.ended.items
  whole_passed event bumps empty takes none firsts mid new mid_takes mid_ended runs groups position none_taken p same =
      let all : new.takes.items ≡ firsts.more ++ groups.takes = groups.takes_added ∙ ap (λ l. l ++ groups.takes) (mid_takes ∙ firsts.added ∙ ap (λ l. l ++ firsts.more) none) in
      let gone : new.ended.items ≡ groups.ended = groups.ended_added ∙ ap (λ l. l ++ groups.ended) mid_ended in
      record {
        passed = record {
          takes_are =
              subst (λ (l : List Take). AreTakesOf plan (events ++ event ∷ []) (length events)
              (filter (is_taking plan events event) (first_waiters plan ++ waiters)) l) (sym all)
              (subst (λ (ws : List Waiter). AreTakesOf plan (events ++ event ∷ []) (length events) ws (firsts.more ++ groups.takes))
              (sym (filter-of_append (is_taking plan events event) (first_waiters plan) waiters))
              (AreTakesOf-append plan (events ++ event ∷ []) (length events) (filter (is_taking plan events event) (first_waiters plan))
              (filter (is_taking plan events event) waiters) firsts.more groups.takes firsts.takes_are groups.takes_are));
          ended_are =
              subst (AreHeldRuns plan (events ++ event ∷ []) (map holder_of (filter (λ w. not (goes_on plan events event w)) waiters))) (sym gone)
              groups.ended_are;
          runs_are = groups.runs_are;
          bumps_are = firsts.bumps_are;
        };
        position_is = p;
        empty_is = same;
      }
