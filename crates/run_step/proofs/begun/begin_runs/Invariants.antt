-- The lists so far have their runs, and those that are left can get them.
use Rattle.std.proofs.Common.{◌≡◌, List, length}
use Rattle.cep_plan.specs.declared.plan.Plan.{Plan}
use Rattle.cep_event.specs.declared.event.Event.{Event}
use Rattle.list_buffer.specs.Held.{Holder, Holds}
use Rattle.run_step.specs.Pins.{KeepsPins}
use Rattle.run_step.specs.Beginning.{CanBeginAll, BeginningSome}
use Rattle.run_step.proofs.begun.begin_runs.Given as goal

abbrev pub invariant-loop-one : goal.invariant-loop-one
invariant-loop-one l = record {
  counted : length l.one-iterator.rest.items ≡ l.one-iterator.rest.len;
  begun : (plan : Plan) (events : List Event) (holders : List Holder) (held : Holds)
      → CanBeginAll plan events l.nfa holders held l.fn.grown.items l.initial.buffer
      → BeginningSome plan events holders held l.fresh.items l.tips l.one-iterator.rest.items l.buffer;
  pins : KeepsPins l.initial.buffer l.buffer;
}
