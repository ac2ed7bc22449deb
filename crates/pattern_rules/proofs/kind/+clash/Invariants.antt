use Rattle.std.proofs.Common.{◌≡◌, drop}
use Rattle.pattern_rules.specs.First.{first_some}
use Rattle.pattern_rules.specs.Kinds.{clash_unless}
use Rattle.pattern_rules.specs.declared.kind.Sort.TheVariants as sort
use Rattle.pattern_rules.specs.declared.kind.Wanted.TheVariants as want
use Rattle.pattern_rules.proofs.kind.+clash.Given as goal

abbrev pub invariant-clash_in_parts-loop-part : goal.invariant-clash_in_parts-loop-part
invariant-clash_in_parts-loop-part l =
    first_some (clash_unless l.fields l.wanted) (drop l.part-index l.parts) ≡ first_some (clash_unless l.fields l.wanted) l.parts

abbrev pub invariant-clash_in_terms-loop-term : goal.invariant-clash_in_terms-loop-term
invariant-clash_in_terms-loop-term l =
    first_some (λ term. clash_unless l.fields (want.Only sort.Int) term.expr) (drop l.term-index l.terms)
    ≡ first_some (λ term. clash_unless l.fields (want.Only sort.Int) term.expr) l.terms

abbrev pub invariant-clash_in_factors-loop-factor : goal.invariant-clash_in_factors-loop-factor
invariant-clash_in_factors-loop-factor l =
    first_some (λ factor. clash_unless l.fields (want.Only sort.Int) factor.expr) (drop l.factor-index l.factors)
    ≡ first_some (λ factor. clash_unless l.fields (want.Only sort.Int) factor.expr) l.factors
