-- What a pass makes of one run and of a group of runs. (This project's own.)
use Rattle.std.specs.Prelude.{ℕ, ◌≡◌, ◌-◌, ◌<◌, ◌^◌, Some, slice_get, Bool, true, not, List, [], ◌∷◌, ◌++◌, length, map, filter}
use Rattle.std.specs.List.{AllByRecursion as Each}
use Rattle.cep_event.specs.declared.event.Event.{Event}
use Rattle.cep_plan.specs.declared.plan.Plan.{Plan}
use Rattle.cep_plan.specs.Partial.{waits}
use Rattle.nfa_compile.specs.State.{IsCompilable}
use Rattle.nfa_compile.specs.declared.nfa.Nfa.{Nfa}
use Rattle.nfa_compile.specs.Automaton.{automaton_of, wait_for, waits_of}
use Rattle.nfa_compile.specs.declared.nfa.Wait.{Wait}
use Rattle.cond_sums.specs.Kept.{Summed}
use Rattle.run_judge.specs.Fate.{AreSumsOf}
use Rattle.run_step.specs.declared.runs.Run.{Run}
use Rattle.run_step.specs.declared.passing.Take.{Take}
use Rattle.run_step.specs.declared.passing.Passing.{Passing as PassingRow}
use Rattle.run_step.specs.Content.{Staged, staged}
use Rattle.run_step.specs.Runs.{Waiter, holder_of, takes_so_far, bumps_of, IsRunOf, AreRunsOf}
use Rattle.run_step.specs.Taking.{AreTakesOf, CanTakeRun}
use Rattle.run_step.specs.Passing.{first_waiters, goes_on, is_taking}
use Rattle.run_step.specs.Putting.{AreHeldRuns}

-- the run after the event, and its take where it takes it
pub record IsNoted (plan : Plan) (events : List Event) (event : Event) (waiter : Waiter) (run : Run) (old new : List Take) : Type 0 where
  pub run_is : IsRunOf plan (events ++ event ∷ []) waiter run
  pub more : List Take
  pub takes_are : AreTakesOf plan (events ++ event ∷ []) (length events) (filter (is_taking plan events event) (waiter ∷ [])) more
  pub added : new ≡ old ++ more

-- the runs of a group, and what waits
pub record CanPassGroup (plan : Plan) (events : List Event) (position stage : ℕ) (waiters : List Waiter) (nfa : Nfa) (runs : List Run) : Type 0 where
  pub fit : IsCompilable plan
  pub automaton : nfa ≡ automaton_of plan
  pub at : position ≡ length events
  pub small : position < 2 ^ 32 - 1
  pub waiting : Each (λ w. waits plan events w.list w.stage ≡ true) waiters
  pub runs_are : AreRunsOf plan events waiters (map (staged stage) runs)

-- what a pass leaves of a group: the runs that go on, in their order; the takes and the ended runs are added behind those so far
pub record GroupPassed (plan : Plan) (events : List Event) (event : Event) (stage : ℕ) (waiters : List Waiter) (runs : List Run) (old new : PassingRow) : Type 0 where
  pub runs_are : AreRunsOf plan (events ++ event ∷ []) (filter (goes_on plan events event) waiters) (map (staged stage) runs)
  pub takes : List Take
  pub takes_are : AreTakesOf plan (events ++ event ∷ []) (length events) (filter (is_taking plan events event) waiters) takes
  pub takes_added : new.takes.items ≡ old.takes.items ++ takes
  pub ended : List Run
  pub ended_are : AreHeldRuns plan (events ++ event ∷ []) (map holder_of (filter (λ w. not (goes_on plan events event w)) waiters)) ended
  pub ended_added : new.ended.items ≡ old.ended.items ++ ended

-- the run of some waiter takes the event or doesn't
pub record CanNote (plan : Plan) (events : List Event) (event : Event) (position : ℕ) (waiter : Waiter) (run : Run) (nfa : Nfa) (taken : Bool) : Type 0 where
  pub can : CanTakeRun plan events position waiter run nfa
  pub taken_is : taken ≡ is_taking plan events event waiter

pub record CanNoteSome (plan : Plan) (event : Event) (position : ℕ) (run : Run) (nfa : Nfa) (taken : Bool) : Type 0 where
  pub events : List Event
  pub waiter : Waiter
  pub can : CanNote plan events event position waiter run nfa taken

pub record CanPassGroupSome (plan : Plan) (position stage : ℕ) (nfa : Nfa) (runs : List Run) : Type 0 where
  pub events : List Event
  pub waiters : List Waiter
  pub can : CanPassGroup plan events position stage waiters nfa runs

-- what is left once the tail of a group has passed behind the runs of the front
pub record TailPassed (plan : Plan) (events : List Event) (event : Event) (stage : ℕ) (front waiters : List Waiter) (runs : List Run) (old new : PassingRow) : Type 0 where
  pub front_runs : List Run
  pub tail_runs : List Run
  pub parts : runs ≡ front_runs ++ tail_runs
  pub front_are : AreRunsOf plan (events ++ event ∷ []) front (map (staged stage) front_runs)
  pub tail : GroupPassed plan events event stage waiters tail_runs old new

-- in the midst of a tail: the waiters so far have passed, and these runs are those of the ones that are left
pub record PassingTail (plan : Plan) (events : List Event) (event : Event) (stage : ℕ) (waiters : List Waiter) (left before runs : List Run) (old new : PassingRow) : Type 0 where
  pub done : List Waiter
  pub rest : List Waiter
  pub parts : waiters ≡ done ++ rest
  pub waiting : Each (λ w. waits plan events w.list w.stage ≡ true) rest
  pub rest_are : AreRunsOf plan events rest (map (staged stage) left)
  pub kept : List Run
  pub runs_is : runs ≡ before ++ kept
  pub passed : GroupPassed plan events event stage done kept old new

-- ---- all groups

pub record CanPassGroups (plan : Plan) (events : List Event) (position : ℕ) (waiters : List Waiter) (nfa : Nfa) (runs : List Staged) : Type 0 where
  pub fit : IsCompilable plan
  pub automaton : nfa ≡ automaton_of plan
  pub at : position ≡ length events
  pub small : position < 2 ^ 32 - 1
  pub waiting : Each (λ w. waits plan events w.list w.stage ≡ true) waiters
  pub runs_are : AreRunsOf plan events waiters runs

pub record CanPassGroupsSome (plan : Plan) (position : ℕ) (nfa : Nfa) (runs : List Staged) : Type 0 where
  pub events : List Event
  pub waiters : List Waiter
  pub can : CanPassGroups plan events position waiters nfa runs

-- the same as `GroupPassed`, of runs with their stages
pub record GroupsPassed (plan : Plan) (events : List Event) (event : Event) (waiters : List Waiter) (runs : List Staged) (old new : PassingRow) : Type 0 where
  pub runs_are : AreRunsOf plan (events ++ event ∷ []) (filter (goes_on plan events event) waiters) runs
  pub takes : List Take
  pub takes_are : AreTakesOf plan (events ++ event ∷ []) (length events) (filter (is_taking plan events event) waiters) takes
  pub takes_added : new.takes.items ≡ old.takes.items ++ takes
  pub ended : List Run
  pub ended_are : AreHeldRuns plan (events ++ event ∷ []) (map holder_of (filter (λ w. not (goes_on plan events event w)) waiters)) ended
  pub ended_added : new.ended.items ≡ old.ended.items ++ ended

-- in the midst of the groups
pub record PassingGroups (plan : Plan) (events : List Event) (event : Event) (waiters : List Waiter) (left runs : List Staged) (old new : PassingRow) : Type 0 where
  pub done : List Waiter
  pub rest : List Waiter
  pub parts : waiters ≡ done ++ rest
  pub waiting : Each (λ w. waits plan events w.list w.stage ≡ true) rest
  pub rest_are : AreRunsOf plan events rest left
  pub passed : GroupsPassed plan events event done runs old new

-- ---- the empty list

-- what waits for the stage at the start
abbrev pub first_waiter : ℕ → Waiter
first_waiter stage = record { list = []; stage = stage; node = 0 }

-- the wait with the number is that of the start for the stage, and was taken so often; the sums are those of no event
pub record CanTakeFirst (plan : Plan) (events : List Event) (position : ℕ) (waits : List Wait) (number stage bump : ℕ) (empty : Summed) : Type 0 where
  pub fit : IsCompilable plan
  pub at : position ≡ length events
  pub waits_are : waits ≡ waits_of plan []
  pub found : slice_get waits number ≡ Some (wait_for plan [] stage)
  pub bump_is : bump ≡ takes_so_far plan events [] stage
  pub empty_is : AreSumsOf plan [] empty

pub record CanTakeFirstSome (plan : Plan) (position : ℕ) (waits : List Wait) (number bump : ℕ) (empty : Summed) : Type 0 where
  pub events : List Event
  pub stage : ℕ
  pub can : CanTakeFirst plan events position waits number stage bump empty

-- the take of the start, where the event is taken
pub record IsFirstNoted (plan : Plan) (events : List Event) (event : Event) (stage bump : ℕ) (old new : List Take) : Type 0 where
  pub more : List Take
  pub takes_are : AreTakesOf plan (events ++ event ∷ []) (length events) (filter (is_taking plan events event) (first_waiter stage ∷ [])) more
  pub added : new ≡ old ++ more
  pub bump_is : bump ≡ takes_so_far plan (events ++ event ∷ []) [] stage

-- the start waits for these, and each was taken so often; the sums are those of no event
pub record CanBeginFirst (plan : Plan) (events : List Event) (position : ℕ) (waits : List Wait) (bumps : List ℕ) (empty : Summed) : Type 0 where
  pub fit : IsCompilable plan
  pub at : position ≡ length events
  pub waits_are : waits ≡ waits_of plan []
  pub bumps_are : bumps ≡ bumps_of plan events
  pub empty_is : AreSumsOf plan [] empty

pub record CanBeginFirstSome (plan : Plan) (position : ℕ) (waits : List Wait) (bumps : List ℕ) (empty : Summed) : Type 0 where
  pub events : List Event
  pub can : CanBeginFirst plan events position waits bumps empty

-- the takes of the start are added
pub record FirstsNoted (plan : Plan) (events : List Event) (event : Event) (bumps : List ℕ) (old new : List Take) : Type 0 where
  pub more : List Take
  pub takes_are : AreTakesOf plan (events ++ event ∷ []) (length events) (filter (is_taking plan events event) (first_waiters plan)) more
  pub added : new ≡ old ++ more
  pub bumps_are : bumps ≡ bumps_of plan (events ++ event ∷ [])
