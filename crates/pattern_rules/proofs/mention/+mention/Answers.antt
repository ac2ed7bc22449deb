use Rattle.std.proofs.Common.{◌∙◌}
use Rattle.pattern_rules.specs.First.{or_else}
use Rattle.pattern_rules.specs.Mentioned.{bad_mention, bad_expression}
use Rattle.pattern_rules.proofs.MentionLaws.{mentions-Any, mentions-All, mentions-Add, mentions-Mul, mentions-Compare, mentions-Not, mentions-Neg}
use Rattle.pattern_rules.proofs.mention.+mention.Goals as goal

pub bad_expression-returns-in-Any : goal.bad_expression-returns-in-Any
unfolding bad_expression
bad_expression-returns-in-Any t c = c.bad_part.ensures
    ∙ mentions-Any (bad_mention c.args.rule c.args.file.now c.args.fields.now c.args.site) c.args.expr.now c.in-Any.parts c.as_slice.result.now
    c.in-Any.is c.as_slice.ensures

pub bad_expression-returns-in-All : goal.bad_expression-returns-in-All
unfolding bad_expression
bad_expression-returns-in-All t c = c.bad_part-in-All.ensures
    ∙ mentions-All (bad_mention c.args.rule c.args.file.now c.args.fields.now c.args.site) c.args.expr.now c.in-All.parts
    c.as_slice-in-All.result.now c.in-All.is c.as_slice-in-All.ensures

pub bad_expression-returns-in-Add : goal.bad_expression-returns-in-Add
unfolding bad_expression
bad_expression-returns-in-Add t c = c.bad_term.ensures
    ∙ mentions-Add (bad_mention c.args.rule c.args.file.now c.args.fields.now c.args.site) c.args.expr.now c.in-Add.terms
    c.as_slice-in-Add.result.now c.in-Add.is c.as_slice-in-Add.ensures

pub bad_expression-returns-in-Mul : goal.bad_expression-returns-in-Mul
unfolding bad_expression
bad_expression-returns-in-Mul t c = c.bad_factor.ensures
    ∙ mentions-Mul (bad_mention c.args.rule c.args.file.now c.args.fields.now c.args.site) c.args.expr.now c.in-Mul.factors
    c.as_slice-in-Mul.result.now c.in-Mul.is c.as_slice-in-Mul.ensures

pub bad_expression-returns-in-Not : goal.bad_expression-returns-in-Not
unfolding bad_expression
bad_expression-returns-in-Not t c = c.bad_expression.ensures
    ∙ mentions-Not (bad_mention c.args.rule c.args.file.now c.args.fields.now c.args.site) c.args.expr.now c.in-Not.operand c.get-in-Not.result.now
    c.in-Not.is c.get-in-Not.ensures

pub bad_expression-returns-in-Neg : goal.bad_expression-returns-in-Neg
unfolding bad_expression
bad_expression-returns-in-Neg t c = c.bad_expression-in-Neg.ensures
    ∙ mentions-Neg (bad_mention c.args.rule c.args.file.now c.args.fields.now c.args.site) c.args.expr.now c.in-Neg.operand c.get-in-Neg.result.now
    c.in-Neg.is c.get-in-Neg.ensures

pub bad_expression-returns-in-Compare : goal.bad_expression-returns-in-Compare
unfolding bad_expression
bad_expression-returns-in-Compare t c =
    c.earlier.ensures ∙ (λ i. or_else (c.bad_expression-left.ensures i) (c.bad_expression-right.ensures i))
    ∙ mentions-Compare (bad_mention c.args.rule c.args.file.now c.args.fields.now c.args.site) c.args.expr.now c.in-Compare.field-0 c.in-Compare.left
    c.in-Compare.right c.get.result.now c.get-in-Compare.result.now c.in-Compare.is c.get.ensures c.get-in-Compare.ensures
