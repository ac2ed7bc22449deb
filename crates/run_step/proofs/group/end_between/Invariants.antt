-- The runs that are left can end.
use Rattle.std.proofs.Common.{List, take, drop, ◌-◌}
use Rattle.cep_plan.specs.declared.plan.Plan.{Plan}
use Rattle.cep_event.specs.declared.event.Event.{Event}
use Rattle.list_buffer.specs.Held.{Holder, Holds}
use Rattle.run_step.specs.Pins.{KeepsPins}
use Rattle.run_step.specs.Putting.{CanEndAll, Ending}
use Rattle.run_step.proofs.group.end_between.Given as goal

abbrev pub invariant-loop-place : goal.invariant-loop-place
invariant-loop-place l = record {
  ending : (plan : Plan) (events : List Event) (holders : List Holder) (held : Holds)
      → CanEndAll plan events holders held (take (l.end - l.first) (drop l.first l.runs.items)) l.initial.buffer
      → Ending plan events held (take (l.end - l.place) (drop l.place l.runs.items)) l.buffer;
  pins : KeepsPins l.initial.buffer l.buffer;
}
