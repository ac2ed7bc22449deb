use Rattle.std.proofs.Common.{◌≡◌, take}
use Rattle.std.specs.Prelude.{filter_map}
use Rattle.std.specs.List.{reduce}
use Rattle.cep_plan.specs.Aggregate.{lesser}
use Rattle.cond_eval.specs.Known.{number_taken}
use Rattle.cond_eval.proofs.aggregate.least_for.Given as goal

abbrev pub invariant-loop-taken : goal.invariant-loop-taken
invariant-loop-taken l = l.least ≡ reduce lesser (filter_map (number_taken l.types l.stage l.field) (take l.taken-index l.list))
