-- Waiters that take the next event, and those that go on waiting. (This project's own.)
use Rattle.std.specs.Prelude.{Bool, List, [], length, map}
use Rattle.cep_event.specs.declared.event.Event.{Event}
use Rattle.cep_plan.specs.declared.plan.Plan.{Plan}
use Rattle.cep_plan.specs.Entry.{taken_of}
use Rattle.nfa_compile.specs.Automaton.{waits_of}
use Rattle.live_laws.specs.Survival.{survives, takes}
use Rattle.run_step.specs.Runs.{Waiter}

-- the waits of the start, as waiters of the empty list
abbrev pub first_waiters : Plan → List Waiter
first_waiters plan = map (λ wait. record { list = []; stage = wait.stage; node = 0 }) (waits_of plan [])

abbrev pub goes_on : Plan → List Event → Event → Waiter → Bool
goes_on plan events event waiter = survives plan (taken_of events waiter.list) waiter.stage event (length events)

abbrev pub is_taking : Plan → List Event → Event → Waiter → Bool
is_taking plan events event waiter = takes plan (taken_of events waiter.list) waiter.stage event (length events)
