-- The groups so far are cut, and the runs that are left to go can end.
use Rattle.std.proofs.Common.{◌≡◌, List, ◌++◌, map, take, drop}
use Rattle.cep_plan.specs.declared.plan.Plan.{Plan}
use Rattle.cep_event.specs.declared.event.Event.{Event}
use Rattle.list_buffer.specs.Held.{Holder, Holds}
use Rattle.run_step.specs.Pins.{KeepsPins}
use Rattle.run_step.specs.Putting.{CanEndAll, Ending}
use Rattle.run_step.specs.Content.{is_in_due}
use Rattle.run_step.proofs.CutLaws.{cut_of, cut_group}
use Rattle.run_step.proofs.groups.expire_groups.Given as goal

abbrev pub invariant-loop-place : goal.invariant-loop-place
invariant-loop-place l = record {
  groups : l.groups.items ≡ map (cut_group (is_in_due l.due)) (take l.place l.initial.groups.items) ++ drop l.place l.initial.groups.items;
  ending : (plan : Plan) (events : List Event) (holders : List Holder) (held : Holds)
      → CanEndAll plan events holders held (cut_of (is_in_due l.due) l.initial.groups.items) l.initial.buffer
      → Ending plan events held (cut_of (is_in_due l.due) (drop l.place l.initial.groups.items)) l.buffer;
  pins : KeepsPins l.initial.buffer l.buffer;
}
