use Rattle.std.proofs.Common.{◌≡◌, map, take}
use Rattle.pattern_check.specs.Translated.{expr_of, term_of, factor_of}
use Rattle.pattern_check.proofs.expression.+translation.Given as goal

abbrev pub invariant-exprs_of-loop-part : goal.invariant-exprs_of-loop-part
invariant-exprs_of-loop-part l = l.made ≡ map (expr_of l.fields l.openers) (take l.part-index l.parts)

abbrev pub invariant-terms_of-loop-term : goal.invariant-terms_of-loop-term
invariant-terms_of-loop-term l = l.made ≡ map (term_of l.fields l.openers) (take l.term-index l.terms)

abbrev pub invariant-factors_of-loop-factor : goal.invariant-factors_of-loop-factor
invariant-factors_of-loop-factor l = l.made ≡ map (factor_of l.fields l.openers) (take l.factor-index l.factors)
