-- The takes so far are put, and those that are left can be.
use Rattle.std.proofs.Common.{◌≡◌, ℕ, List, length}
use Rattle.cep_plan.specs.declared.plan.Plan.{Plan}
use Rattle.cep_event.specs.declared.event.Event.{Event}
use Rattle.list_buffer.specs.Held.{Holds}
use Rattle.run_step.specs.Runs.{Waiter}
use Rattle.run_step.specs.Taking.{AreTakesOf}
use Rattle.run_step.specs.Pins.{KeepsPins}
use Rattle.run_step.specs.Putting.{CanPutAll, PuttingSome}
use Rattle.run_step.proofs.put.put_takes.Given as goal

abbrev pub invariant-loop-take : goal.invariant-loop-take
invariant-loop-take l = record {
  counted : length l.take-iterator.rest.items ≡ l.take-iterator.rest.len;
  putting : (plan : Plan) (events : List Event) (position : ℕ) (waiters : List Waiter) (held : Holds)
      → CanPutAll plan events position l.event waiters held l.initial.buffer → AreTakesOf plan events position waiters l.fn.takes.items
      → PuttingSome plan events position l.event waiters held l.grown.items l.take-iterator.rest.items l.buffer;
  pins : KeepsPins l.initial.buffer l.buffer;
}
