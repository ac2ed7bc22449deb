use Rattle.std.proofs.Common.{◌≡◌, ◌++◌, string_bytes, map, take}
use Rattle.std.specs.Prelude.{◌==◌}
use Rattle.cep_print.specs.Expression.{chained}
use Rattle.cep_print.specs.File as spec
use Rattle.cep_print.proofs.tail.put_shown.Given as goal

abbrev pub invariant-loop-expr : goal.invariant-loop-expr
invariant-loop-expr l = record {
  text : string_bytes l.out ≡ string_bytes l.fn.out ++ chained (map spec.shown_part (take l.expr-index l.shown));
  first : l.is_first ≡ (l.expr-index == 0);
}
