use Rattle.std.proofs.Common.{◌≡◌, ◌++◌, string_bytes, map, take}
use Rattle.std.specs.Prelude.{◌==◌}
use Rattle.cep_print.specs.Expression as spec
use Rattle.cep_print.proofs.expression.+expression.Given as goal

abbrev pub invariant-put_parts-loop-part : goal.invariant-put_parts-loop-part
invariant-put_parts-loop-part l = record {
  text : string_bytes l.out ≡ string_bytes l.fn.out ++ spec.chained (map (spec.part_of l.between l.around) (take l.part-index l.parts));
  first : l.is_first ≡ (l.part-index == 0);
}

abbrev pub invariant-put_terms-loop-term : goal.invariant-put_terms-loop-term
invariant-put_terms-loop-term l = record {
  text : string_bytes l.out ≡ string_bytes l.fn.out ++ spec.chained (map spec.term_of (take l.term-index l.terms));
  first : l.is_first ≡ (l.term-index == 0);
}

abbrev pub invariant-put_factors-loop-factor : goal.invariant-put_factors-loop-factor
invariant-put_factors-loop-factor l = record {
  text : string_bytes l.out ≡ string_bytes l.fn.out ++ spec.chained (map spec.factor_of (take l.factor-index l.factors));
  first : l.is_first ≡ (l.factor-index == 0);
}
