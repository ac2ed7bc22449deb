use Rattle.std.proofs.Common.{◌≡◌, map, take}
use Rattle.cep_print.specs.Same as spec
use Rattle.cep_print.proofs.same_expression.+same_expression.Given as goal

abbrev pub invariant-same_parts-loop-place : goal.invariant-same_parts-loop-place
invariant-same_parts-loop-place l = map spec.unplaced (take l.place l.parts) ≡ map spec.unplaced (take l.place l.others)

abbrev pub invariant-same_terms-loop-place : goal.invariant-same_terms-loop-place
invariant-same_terms-loop-place l = map spec.unplaced_term (take l.place l.terms) ≡ map spec.unplaced_term (take l.place l.others)

abbrev pub invariant-same_factors-loop-place : goal.invariant-same_factors-loop-place
invariant-same_factors-loop-place l = map spec.unplaced_factor (take l.place l.factors) ≡ map spec.unplaced_factor (take l.place l.others)
