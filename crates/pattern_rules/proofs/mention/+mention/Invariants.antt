use Rattle.std.proofs.Common.{◌≡◌, drop}
use Rattle.pattern_rules.specs.First.{first_some}
use Rattle.pattern_rules.specs.Mentioned.{bad_expression}
use Rattle.pattern_rules.proofs.mention.+mention.Given as goal

abbrev pub invariant-bad_part-loop-part : goal.invariant-bad_part-loop-part
invariant-bad_part-loop-part l =
    first_some (bad_expression l.rule l.file l.fields l.site) (drop l.part-index l.parts)
    ≡ first_some (bad_expression l.rule l.file l.fields l.site) l.parts

abbrev pub invariant-bad_term-loop-term : goal.invariant-bad_term-loop-term
invariant-bad_term-loop-term l =
    first_some (λ term. bad_expression l.rule l.file l.fields l.site term.expr) (drop l.term-index l.terms)
    ≡ first_some (λ term. bad_expression l.rule l.file l.fields l.site term.expr) l.terms

abbrev pub invariant-bad_factor-loop-factor : goal.invariant-bad_factor-loop-factor
invariant-bad_factor-loop-factor l =
    first_some (λ factor. bad_expression l.rule l.file l.fields l.site factor.expr) (drop l.factor-index l.factors)
    ≡ first_some (λ factor. bad_expression l.rule l.file l.fields l.site factor.expr) l.factors
