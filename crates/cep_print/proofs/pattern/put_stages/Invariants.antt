use Rattle.std.proofs.Common.{◌≡◌, ◌++◌, string_bytes, map, take}
use Rattle.std.specs.Prelude.{◌==◌}
use Rattle.cep_print.specs.Expression.{chained}
use Rattle.cep_print.specs.File as spec
use Rattle.cep_print.proofs.pattern.put_stages.Given as goal

abbrev pub invariant-loop-stage : goal.invariant-loop-stage
invariant-loop-stage l = record {
  text : string_bytes l.out ≡ string_bytes l.fn.out ++ chained (map spec.stage_part (take l.stage-index l.stages));
  first : l.is_first ≡ (l.stage-index == 0);
}
