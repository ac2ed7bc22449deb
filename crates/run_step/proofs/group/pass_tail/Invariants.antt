-- The runs so far have passed, and all are in order.
use Rattle.std.proofs.Common.{◌≡◌, List, length, ◌++◌}
use Rattle.cep_event.specs.declared.event.Event.{Event}
use Rattle.run_step.specs.Content.{IsOrdered}
use Rattle.run_step.specs.Runs.{Waiter}
use Rattle.run_step.specs.Noting.{CanPassGroup, PassingTail}
use Rattle.run_step.proofs.group.pass_tail.Given as goal

abbrev pub invariant-loop-run : goal.invariant-loop-run
invariant-loop-run l = record {
  counted : length l.run-iterator.rest.items ≡ l.run-iterator.rest.len;
  order : IsOrdered (l.initial.runs.items ++ l.fn.tail.items) → IsOrdered (l.runs.items ++ l.run-iterator.rest.items);
  passed : (events : List Event) (waiters : List Waiter) → CanPassGroup l.plan events l.position l.at.stage waiters l.nfa l.fn.tail.items
      → PassingTail l.plan events l.event l.at.stage waiters l.run-iterator.rest.items l.initial.runs.items l.runs.items l.initial.passing l.passing;
}
