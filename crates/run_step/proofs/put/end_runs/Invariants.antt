-- The runs that are left can end.
use Rattle.std.proofs.Common.{◌≡◌, List, length}
use Rattle.cep_plan.specs.declared.plan.Plan.{Plan}
use Rattle.cep_event.specs.declared.event.Event.{Event}
use Rattle.list_buffer.specs.Held.{Holder, Holds}
use Rattle.run_step.specs.Pins.{KeepsPins}
use Rattle.run_step.specs.Putting.{CanEndAll, Ending}
use Rattle.run_step.proofs.put.end_runs.Given as goal

abbrev pub invariant-loop-run : goal.invariant-loop-run
invariant-loop-run l = record {
  counted : length l.run-iterator.rest.items ≡ l.run-iterator.rest.len;
  ending : (plan : Plan) (events : List Event) (holders : List Holder) (held : Holds)
      → CanEndAll plan events holders held l.fn.ended.items l.initial.buffer → Ending plan events held l.run-iterator.rest.items l.buffer;
  pins : KeepsPins l.initial.buffer l.buffer;
}
