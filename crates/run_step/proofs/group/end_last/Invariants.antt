-- The runs that are left can end.
use Rattle.std.proofs.Common.{List, drop, ◌==◌}
use Rattle.std.specs.Prelude.{filter}
use Rattle.cep_plan.specs.declared.plan.Plan.{Plan}
use Rattle.cep_event.specs.declared.event.Event.{Event}
use Rattle.list_buffer.specs.Held.{Holder, Holds}
use Rattle.run_step.specs.declared.runs.Run.{Run}
use Rattle.run_step.specs.Pins.{KeepsPins}
use Rattle.run_step.specs.Putting.{CanEndAll, Ending}
use Rattle.run_step.proofs.group.end_last.Given as goal

abbrev pub invariant-loop-place : goal.invariant-loop-place
invariant-loop-place l = record {
  ending : (plan : Plan) (events : List Event) (holders : List Holder) (held : Holds)
      → CanEndAll plan events holders held (filter (λ (run : Run). run.last.position == l.last) l.runs.items) l.initial.buffer
      → Ending plan events held (filter (λ (run : Run). run.last.position == l.last) (drop l.place l.runs.items)) l.buffer;
  pins : KeepsPins l.initial.buffer l.buffer;
}
