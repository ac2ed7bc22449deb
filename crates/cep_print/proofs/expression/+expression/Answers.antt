use Rattle.std.proofs.Common.{◌≡◌, ◌++◌, string_bytes, OnOk, subst}
use Rattle.cep_print.proofs.ExpressionLaws.{behind_two, behind_one, text-Any, text-All, text-Compare, text-Add, text-Mul, text-Not, text-Neg}
use Rattle.cep_print.proofs.expression.+expression.Goals as goal

pub put_expression-returns-in-Any : goal.put_expression-returns-in-Any
put_expression-returns-in-Any t c =
    let law = text-Any c.args.expr.now.node c.in-Any.parts c.as_slice.result.now c.in-Any.is c.as_slice.ensures in
    subst (λ z. OnOk c.put_parts.result (string_bytes c.put_parts.new.out ≡ string_bytes c.args.out.now ++ z)) law c.put_parts.ensures

pub put_expression-returns-in-All : goal.put_expression-returns-in-All
put_expression-returns-in-All t c =
    let law = text-All c.args.expr.now.node c.in-All.parts c.as_slice-in-All.result.now c.in-All.is c.as_slice-in-All.ensures in
    subst (λ z. OnOk c.put_parts-in-All.result (string_bytes c.put_parts-in-All.new.out ≡ string_bytes c.args.out.now ++ z)) law c.put_parts-in-All.ensures

pub put_expression-returns-in-Add : goal.put_expression-returns-in-Add
put_expression-returns-in-Add t c =
    let law = text-Add c.args.expr.now.node c.in-Add.terms c.as_slice-in-Add.result.now c.in-Add.is c.as_slice-in-Add.ensures in
    subst (λ z. OnOk c.put_terms.result (string_bytes c.put_terms.new.out ≡ string_bytes c.args.out.now ++ z)) law c.put_terms.ensures

pub put_expression-returns-in-Mul : goal.put_expression-returns-in-Mul
put_expression-returns-in-Mul t c =
    let law = text-Mul c.args.expr.now.node c.in-Mul.factors c.as_slice-in-Mul.result.now c.in-Mul.is c.as_slice-in-Mul.ensures in
    subst (λ z. OnOk c.put_factors.result (string_bytes c.put_factors.new.out ≡ string_bytes c.args.out.now ++ z)) law c.put_factors.ensures

pub put_expression-returns-in_ok-push_str-in-Not : goal.put_expression-returns-in_ok-push_str-in-Not
put_expression-returns-in_ok-push_str-in-Not t c =
    let law = text-Not c.args.expr.now.node c.in-Not.x c.get-in-Not.result.now c.in-Not.is c.get-in-Not.ensures in
    subst (λ z. OnOk c.put_operand-in-Not.result (string_bytes c.put_operand-in-Not.new.out ≡ z))
    (behind_one _ _ _ _ _ c.in_ok-push_str-in-Not.ensures.bytes law) c.put_operand-in-Not.ensures

pub put_expression-returns-in_ok-push_str-in-Neg : goal.put_expression-returns-in_ok-push_str-in-Neg
put_expression-returns-in_ok-push_str-in-Neg t c =
    let law = text-Neg c.args.expr.now.node c.in-Neg.x c.get-in-Neg.result.now c.in-Neg.is c.get-in-Neg.ensures in
    subst (λ z. OnOk c.put_operand-in-Neg.result (string_bytes c.put_operand-in-Neg.new.out ≡ z))
    (behind_one _ _ _ _ _ c.in_ok-push_str-in-Neg.ensures.bytes law) c.put_operand-in-Neg.ensures

pub put_expression-returns-in_ok-push_str-in-Compare : goal.put_expression-returns-in_ok-push_str-in-Compare
put_expression-returns-in_ok-push_str-in-Compare t c =
    let law = text-Compare c.args.expr.now.node c.in-Compare.cmp c.in-Compare.x c.in-Compare.y c.get.result.now c.get-in-Compare.result.now c.in-Compare.is c.get.ensures c.get-in-Compare.ensures in
    subst (λ z. OnOk c.put_operand-in-Compare.result (string_bytes c.put_operand-in-Compare.new.out ≡ z))
    (behind_two _ _ _ _ _ _ _ _ c.in_ok-put_operand-in-Compare.ensures c.in_ok-push_str-in-Compare.ensures.bytes c.cmp_text.ensures law)
    c.put_operand-in-Compare.ensures
