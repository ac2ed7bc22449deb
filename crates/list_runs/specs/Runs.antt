-- Runs: lists that wait, what a step makes of them, and what they stand for. (This project's own.)
use Rattle.std.specs.Prelude.{ℕ, ◌≡◌, ◌+◌, true, List, [], ◌∷◌, ◌++◌, length, map, filter, flat_map, Contains}
use Rattle.std.specs.List.{range_with_len}
use Rattle.cep_event.specs.declared.event.Event.{Event}
use Rattle.cep_plan.specs.declared.plan.Plan.{Plan}
use Rattle.cep_plan.specs.declared.item.Taken.{Taken}
use Rattle.cep_plan.specs.Entry.{Entry, taken_of, stages_in}
use Rattle.cep_plan.specs.Follow.{end_stage, may_follow, is_full}
use Rattle.cep_plan.specs.Partial.{waits}
use Rattle.live_laws.specs.Survival.{survives, takes}
use Rattle.live_laws.specs.Starts.{AllApart, Scope, is_open, IsTooLate}

-- a list of taken events that waits for a stage
pub record ListRun : Type 0 where
  pub stage : ℕ
  pub list : List Taken

-- ---- the step, which sees the event and its position alone

-- one run for each stage that may follow the list, the end stage among them
abbrev pub runs_of : Plan → List Taken → List ListRun
runs_of plan list = map (λ stage. record { stage = stage; list = list }) (filter (may_follow plan (stages_in list)) (range_with_len 0 (end_stage plan + 1)))

-- the list of the run, with the event
abbrev pub with_event : Event → ℕ → ListRun → List Taken
with_event event position run = run.list ++ record { stage = run.stage; position = position; event = event } ∷ []

-- the lists that end at the event, from the runs that take it
unfoldable pub grown : Plan → List ListRun → Event → ℕ → List (List Taken)
grown plan runs event position = map (with_event event position) (filter (λ run. takes plan run.list run.stage event position) runs)

-- the runs after the event: those that survive it, and those of the lists that end at it
unfoldable pub stepped : Plan → List ListRun → Event → ℕ → List ListRun
stepped plan runs event position =
    filter (λ run. survives plan run.list run.stage event position) runs ++ flat_map (runs_of plan) (grown plan runs event position)

-- the lists that end at the event and are full
unfoldable pub completed : Plan → List ListRun → Event → ℕ → List (List Taken)
completed plan runs event position = filter (λ list. is_full plan (stages_in list)) (grown plan runs event position)

-- ---- what runs stand for

abbrev pub run_of : List Event → List Entry → ℕ → ListRun
run_of events list stage = record { stage = stage; list = taken_of events list }

-- The runs are those of the lists that wait after the events and are open, one for each stage that a list waits for. The empty list has its runs too,
-- since it waits for the stages that may come first.
pub record StandsFor (plan : Plan) (events : List Event) (scope : Scope) (runs : List ListRun) : Type 0 where
  pub sound : (run : ListRun) → Contains runs run → (list : List Entry) × (run ≡ run_of events list run.stage)
      × (waits plan events list run.stage ≡ true) × (is_open scope list ≡ true)
  pub complete : (list : List Entry) (stage : ℕ) → waits plan events list stage ≡ true → is_open scope list ≡ true → Contains runs (run_of events list stage)
  pub once : AllApart runs

-- The event may come next: the lists that begin or end at it are open, and it comes too late for those that aren't because of their last position. So each
-- list that takes it is open.
pub record Admits (plan : Plan) (events : List Event) (scope : Scope) (event : Event) : Type 0 where
  pub start_open : scope.starts (length events) ≡ true
  pub last_open : scope.lasts (length events) ≡ true
  pub late : IsTooLate plan events scope.lasts event
