-- The runs so far go on waiting and have passed, and the others are as they were.
use Rattle.std.proofs.Common.{◌≡◌, List, length, take, drop}
use Rattle.cep_event.specs.declared.event.Event.{Event}
use Rattle.run_step.specs.Content.{IsOrdered}
use Rattle.run_step.specs.Runs.{Waiter}
use Rattle.run_step.specs.Noting.{CanPassGroup, GroupPassed}
use Rattle.run_step.proofs.group.pass_front.Given as goal

abbrev pub invariant-loop-place : goal.invariant-loop-place
invariant-loop-place l = record {
  sized : length l.runs.items ≡ length l.initial.runs.items;
  rest : drop l.place l.runs.items ≡ drop l.place l.initial.runs.items;
  order : IsOrdered l.initial.runs.items → IsOrdered l.runs.items;
  passed : (events : List Event) (waiters : List Waiter) → CanPassGroup l.plan events l.position l.at.stage waiters l.nfa l.initial.runs.items
      → GroupPassed l.plan events l.event l.at.stage (take l.place waiters) (take l.place l.runs.items) l.initial.passing l.passing;
}
