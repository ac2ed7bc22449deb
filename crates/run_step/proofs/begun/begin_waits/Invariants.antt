-- A run was begun for each wait so far.
use Rattle.std.proofs.Common.{◌≡◌, List, take}
use Rattle.cep_plan.specs.declared.plan.Plan.{Plan}
use Rattle.cep_event.specs.declared.event.Event.{Event}
use Rattle.list_buffer.specs.Held.{Holder, Holds}
use Rattle.run_step.specs.Pins.{KeepsPins}
use Rattle.run_step.specs.Beginning.{CanBeginWaits, HasBegunWaits}
use Rattle.run_step.proofs.begun.begin_waits.Given as goal

abbrev pub invariant-loop-wait : goal.invariant-loop-wait
invariant-loop-wait l = record {
  counted : l.number ≡ l.wait-index;
  begun : (plan : Plan) (events : List Event) (holder : Holder) (held : Holds)
      → CanBeginWaits plan events holder held l.one l.fn.waits l.initial.buffer
      → HasBegunWaits plan events holder held (take l.wait-index l.fn.waits) l.initial.fresh.items l.fresh.items l.buffer;
  pins : KeepsPins l.initial.buffer l.buffer;
}
