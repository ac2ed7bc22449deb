use Rattle.std.proofs.Common.{◌∙◌, ap}
use Rattle.cep_plan.specs.declared.condition.Expr as plan
use Rattle.pattern_check.proofs.TranslatedLaws.{made-Any, made-All, made-Add, made-Mul, made-Compare, made-Not, made-Neg}
use Rattle.pattern_check.proofs.expression.+translation.Goals as goal

pub expr_of-returns-in_ok-parts-in-Any : goal.expr_of-returns-in_ok-parts-in-Any
expr_of-returns-in_ok-parts-in-Any t c = ap plan.Any c.in_ok-parts-in-Any.ensures
    ∙ made-Any c.args.fields.now c.args.openers.now c.args.expr.now c.in-Any.parts c.as_slice.result.now c.in-Any.is c.as_slice.ensures

pub expr_of-returns-in_ok-parts-in-All : goal.expr_of-returns-in_ok-parts-in-All
expr_of-returns-in_ok-parts-in-All t c = ap plan.All c.in_ok-parts-in-All.ensures
    ∙ made-All c.args.fields.now c.args.openers.now c.args.expr.now c.in-All.parts c.as_slice-in-All.result.now c.in-All.is c.as_slice-in-All.ensures

pub expr_of-returns-in_ok-terms-in-Add : goal.expr_of-returns-in_ok-terms-in-Add
expr_of-returns-in_ok-terms-in-Add t c = ap plan.Add c.in_ok-terms-in-Add.ensures
    ∙ made-Add c.args.fields.now c.args.openers.now c.args.expr.now c.in-Add.terms c.as_slice-in-Add.result.now c.in-Add.is c.as_slice-in-Add.ensures

pub expr_of-returns-in_ok-factors-in-Mul : goal.expr_of-returns-in_ok-factors-in-Mul
expr_of-returns-in_ok-factors-in-Mul t c = ap plan.Mul c.in_ok-factors-in-Mul.ensures
    ∙ made-Mul c.args.fields.now c.args.openers.now c.args.expr.now c.in-Mul.factors c.as_slice-in-Mul.result.now c.in-Mul.is
    c.as_slice-in-Mul.ensures

pub expr_of-returns-in_ok-operand-in-Not-2 : goal.expr_of-returns-in_ok-operand-in-Not-2
expr_of-returns-in_ok-operand-in-Not-2 t c =
    ap plan.Not (c.in_ok-operand-in-Not-2.ensures ∙ c.in_ok-operand-in-Not.ensures)
    ∙ made-Not c.args.fields.now c.args.openers.now c.args.expr.now c.in-Not.operand c.get-in-Not.result.now c.in-Not.is c.get-in-Not.ensures

pub expr_of-returns-in_ok-operand-in-Neg-2 : goal.expr_of-returns-in_ok-operand-in-Neg-2
expr_of-returns-in_ok-operand-in-Neg-2 t c =
    ap plan.Neg (c.in_ok-operand-in-Neg-2.ensures ∙ c.in_ok-operand-in-Neg.ensures)
    ∙ made-Neg c.args.fields.now c.args.openers.now c.args.expr.now c.in-Neg.operand c.get-in-Neg.result.now c.in-Neg.is c.get-in-Neg.ensures

pub expr_of-returns-in_ok-right-in-Compare-2 : goal.expr_of-returns-in_ok-right-in-Compare-2
expr_of-returns-in_ok-right-in-Compare-2 t c =
    (λ i. plan.Compare (c.cmp_of.ensures i) ((c.in_ok-left-in-Compare-2.ensures ∙ c.in_ok-left-in-Compare.ensures) i)
    ((c.in_ok-right-in-Compare-2.ensures ∙ c.in_ok-right-in-Compare.ensures) i))
    ∙ made-Compare c.args.fields.now c.args.openers.now c.args.expr.now c.in-Compare.cmp c.in-Compare.left c.in-Compare.right c.get.result.now
    c.get-in-Compare.result.now c.in-Compare.is c.get.ensures c.get-in-Compare.ensures
