use Rattle.std.proofs.Common.{◌≡◌, drop}
use Rattle.cep_plan.specs.Aggregate.{taken_for, first_event}
use Rattle.cond_eval.proofs.aggregate.first_event.Given as goal

abbrev pub invariant-loop-taken : goal.invariant-loop-taken
invariant-loop-taken l = first_event (taken_for l.stage l.list) ≡ first_event (taken_for l.stage (drop l.taken-index l.list))
