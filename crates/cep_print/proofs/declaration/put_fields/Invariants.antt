use Rattle.std.proofs.Common.{◌≡◌, ◌++◌, string_bytes, map, take}
use Rattle.std.specs.Prelude.{◌==◌}
use Rattle.cep_print.specs.Expression.{chained}
use Rattle.cep_print.specs.File as spec
use Rattle.cep_print.proofs.declaration.put_fields.Given as goal

abbrev pub invariant-loop-field : goal.invariant-loop-field
invariant-loop-field l = record {
  text : string_bytes l.out ≡ string_bytes l.fn.out ++ chained (map spec.field_part (take l.field-index l.fields));
  first : l.is_first ≡ (l.field-index == 0);
}
