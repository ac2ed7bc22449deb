-- What a step leaves. (This project's own.)
use Rattle.std.specs.Prelude.{ℕ, ◌≡◌, true, not, IsTrue, List, [], ◌∷◌, ◌++◌, length, map, filter, Some}
use Rattle.std.specs.List.Sorted.{IsPermutation, IsSortedBy}
use Rattle.cep_event.specs.declared.event.Event.{Event}
use Rattle.cep_plan.specs.declared.plan.Plan.{Plan}
use Rattle.cep_plan.specs.Entry.{taken_of}
use Rattle.cep_plan.specs.declared.item.Taken.{Taken}
use Rattle.cep_plan.specs.History.{matches_at}
use Rattle.std.specs.List.{AllByRecursion as Each}
use Rattle.cep_plan.specs.Partial.{waits}
use Rattle.nfa_compile.specs.State.{IsCompilable}
use Rattle.nfa_compile.specs.declared.nfa.Nfa.{Nfa}
use Rattle.nfa_compile.specs.Automaton.{automaton_of}
use Rattle.live_laws.specs.Starts.{Scope, begins_in, comes_earlier}
use Rattle.list_runs.specs.Runs.{Admits}
use Rattle.shared_buffer.specs.Slots.{slot_at}
use Rattle.shared_buffer.specs.Content.{Content as BufferContent}
use Rattle.shared_buffer.specs.declared.node.Standing.{Standing}
use Rattle.list_buffer.specs.Held.{Holder}
use Rattle.run_judge.specs.Fate.{AreSumsOf}
use Rattle.run_step.specs.declared.runs.Tip.{Tip}
use Rattle.run_step.specs.Content.{Content, Staged}
use Rattle.run_step.specs.declared.runs.Run.{Run}
use Rattle.run_step.specs.declared.passing.Take.{Take}
use Rattle.run_step.specs.Runs.{Waiter, holder_of, bumps_of, Stands, StandsSomehow, AreRunsOf, AreTipsOf}
use Rattle.run_step.specs.Taking.{AreTakesOf}
use Rattle.run_step.specs.Putting.{AreHeldRuns}
use Rattle.run_step.specs.Passing.{first_waiters, goes_on, is_taking}

-- the event stands with a pin, at the position
pub record HasEvent (buffer : BufferContent) (key position : ℕ) : Type 0 where
  pub row : Standing
  pub found : slot_at buffer.events key ≡ Some row
  pub position_is : row.position ≡ position
  pub pinned : IsTrue row.pinned

-- some plan, events and scope, for which the runs and the buffer stand
pub record StandsForSome (content : Content) (buffer : BufferContent) : Type 0 where
  pub plan : Plan
  pub somehow : StandsSomehow plan content buffer

-- The event was taken in: the lists of the tips, put in order, are the matches that end at it and begin at an open start, each once, and they are held
-- besides.
pub record HasStepped (plan : Plan) (events : List Event) (event : Event) (scope : Scope) (tips : List Holder) (shown : List Tip) (content : Content) (buffer : BufferContent) : Type 0 where
  pub holders : List Holder
  pub matches :
      (made : List (List Taken)) → IsPermutation (map (λ holder. taken_of (events ++ event ∷ []) holder.list) holders) made → IsSortedBy comes_earlier made
      → made ≡ map (taken_of (events ++ event ∷ [])) (filter (begins_in scope.starts) (matches_at plan events event))
  pub shown_are : AreTipsOf plan (events ++ event ∷ []) holders shown
  pub stands : Stands plan (events ++ event ∷ []) scope (holders ++ tips) content buffer
  pub none_ahead : stands.ahead ≡ []

-- What the event makes of the runs, before the buffer knows of it: the takes are those of the waiters that take it, of the empty list first; the
-- ended runs are those of the waiters that don't go on, and the others stay in their order.
pub record HasPassed (plan : Plan) (events : List Event) (event : Event) (waiters : List Waiter) (takes : List Take) (ended : List Run) (runs : List Staged) (bumps : List ℕ) : Type 0 where
  pub takes_are : AreTakesOf plan (events ++ event ∷ []) (length events) (filter (is_taking plan events event) (first_waiters plan ++ waiters)) takes
  pub ended_are : AreHeldRuns plan (events ++ event ∷ []) (map holder_of (filter (λ w. not (goes_on plan events event w)) waiters)) ended
  pub runs_are : AreRunsOf plan (events ++ event ∷ []) (filter (goes_on plan events event) waiters) runs
  pub bumps_are : bumps ≡ bumps_of plan (events ++ event ∷ [])

-- The runs are those of these waiters, which wait after the events, over the plan's automaton, and the sums of no event are kept.
pub record CanPass (plan : Plan) (events : List Event) (waiters : List Waiter) (nfa : Nfa) (content : Content) : Type 0 where
  pub fit : IsCompilable plan
  pub automaton : nfa ≡ automaton_of plan
  pub counted : content.position ≡ length events
  pub bumps : content.bumps ≡ bumps_of plan events
  pub empty : AreSumsOf plan [] content.empty
  pub waiting : Each (λ w. waits plan events w.list w.stage ≡ true) waiters
  pub runs : AreRunsOf plan events waiters content.runs

pub record CanPassSome (plan : Plan) (nfa : Nfa) (content : Content) : Type 0 where
  pub events : List Event
  pub waiters : List Waiter
  pub can : CanPass plan events waiters nfa content

-- what a pass leaves of the set of runs
pub record PassedTo (plan : Plan) (events : List Event) (event : Event) (waiters : List Waiter) (old new : Content) (takes : List Take) (ended : List Run) : Type 0 where
  pub passed : HasPassed plan events event waiters takes ended new.runs new.bumps
  pub position_is : new.position ≡ old.position
  pub empty_is : new.empty ≡ old.empty

-- The runs and the buffer stand for some events and scope that the event under the key may come next to, and no tip is held.
pub record CanStep (plan : Plan) (key : ℕ) (content : Content) (buffer : BufferContent) : Type 0 where
  pub events : List Event
  pub scope : Scope
  pub admits : (row : Standing) → slot_at buffer.events key ≡ Some row → Admits plan events scope row.event
  pub stands : Stands plan events scope [] content buffer
