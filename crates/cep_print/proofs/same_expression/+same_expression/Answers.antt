use Rattle.std.proofs.Common.{rules, IsTrue, arith}
use Rattle.cep_print.proofs.SameLaws.{map_at, same-Any, same-All, same-Add, same-Mul, same-Compare, same-Not, same-Neg}
use Rattle.cep_print.specs.Same as spec
use Rattle.cep_print.proofs.same_expression.+same_expression.Goals as goal

pub same_expression-returns-in-Any-Any : goal.same_expression-returns-in-Any-Any
same_expression-returns-in-Any-Any t c =
    same-Any (IsTrue c.same_parts.result) c.args.one.now c.args.other.now c.in-Any-Any.parts c.in-Any-Any.others c.as_slice.result.now
    c.as_slice-in-Any-Any.result.now c.in-Any-Any.is-0 c.in-Any-Any.is-1 c.as_slice.ensures c.as_slice-in-Any-Any.ensures c.same_parts.ensures

pub same_expression-returns-in-All-All : goal.same_expression-returns-in-All-All
same_expression-returns-in-All-All t c =
    same-All (IsTrue c.same_parts-in-All-All.result) c.args.one.now c.args.other.now c.in-All-All.parts c.in-All-All.others
    c.as_slice-in-All-All.result.now c.as_slice-in-All-All-2.result.now c.in-All-All.is-0 c.in-All-All.is-1 c.as_slice-in-All-All.ensures
    c.as_slice-in-All-All-2.ensures c.same_parts-in-All-All.ensures

pub same_expression-returns-in-Add-Add : goal.same_expression-returns-in-Add-Add
same_expression-returns-in-Add-Add t c =
    same-Add (IsTrue c.same_terms.result) c.args.one.now c.args.other.now c.in-Add-Add.terms c.in-Add-Add.others c.as_slice-in-Add-Add.result.now
    c.as_slice-in-Add-Add-2.result.now c.in-Add-Add.is-0 c.in-Add-Add.is-1 c.as_slice-in-Add-Add.ensures c.as_slice-in-Add-Add-2.ensures
    c.same_terms.ensures

pub same_expression-returns-in-Mul-Mul : goal.same_expression-returns-in-Mul-Mul
same_expression-returns-in-Mul-Mul t c =
    same-Mul (IsTrue c.same_factors.result) c.args.one.now c.args.other.now c.in-Mul-Mul.factors c.in-Mul-Mul.others c.as_slice-in-Mul-Mul.result.now
    c.as_slice-in-Mul-Mul-2.result.now c.in-Mul-Mul.is-0 c.in-Mul-Mul.is-1 c.as_slice-in-Mul-Mul.ensures c.as_slice-in-Mul-Mul-2.ensures
    c.same_factors.ensures

pub same_expression-returns-in-Not-Not : goal.same_expression-returns-in-Not-Not
same_expression-returns-in-Not-Not t c =
    same-Not (IsTrue c.same_expression.result) c.args.one.now c.args.other.now c.in-Not-Not.x c.in-Not-Not.y c.get-in-Not-Not.result.now
    c.get-in-Not-Not-2.result.now c.in-Not-Not.is-0 c.in-Not-Not.is-1 c.get-in-Not-Not.ensures c.get-in-Not-Not-2.ensures c.same_expression.ensures

pub same_expression-returns-in-Neg-Neg : goal.same_expression-returns-in-Neg-Neg
same_expression-returns-in-Neg-Neg t c =
    same-Neg (IsTrue c.same_expression-in-Neg-Neg.result) c.args.one.now c.args.other.now c.in-Neg-Neg.x c.in-Neg-Neg.y c.get-in-Neg-Neg.result.now
    c.get-in-Neg-Neg-2.result.now c.in-Neg-Neg.is-0 c.in-Neg-Neg.is-1 c.get-in-Neg-Neg.ensures c.get-in-Neg-Neg-2.ensures
    c.same_expression-in-Neg-Neg.ensures

pub same_parts-returns-then-not-same_expression : goal.same_parts-returns-then-not-same_expression
same_parts-returns-then-not-same_expression t c =
    let at = map_at spec.unplaced c.args.parts.now c.args.others.now c.loop-place.place c.index-parts-place.result c.index-others-place.result (omega (arith, c.loop-place-test.true, c.loop-place.auto.place-end, c.if-parts-others.false)) (omega (arith, c.loop-place-test.true, c.loop-place.auto.place-end, c.if-parts-others.false)) c.index-parts-place.is c.index-others-place.is in
    search (rules, at)

pub same_terms-returns-then-not-same_term : goal.same_terms-returns-then-not-same_term
same_terms-returns-then-not-same_term t c =
    let at = map_at spec.unplaced_term c.args.terms.now c.args.others.now c.loop-place.place c.index-terms-place.result c.index-others-place.result (omega (arith, c.loop-place-test.true, c.loop-place.auto.place-end, c.if-terms-others.false)) (omega (arith, c.loop-place-test.true, c.loop-place.auto.place-end, c.if-terms-others.false)) c.index-terms-place.is c.index-others-place.is in
    search (rules, at)

pub same_factors-returns-then-not-same_factor : goal.same_factors-returns-then-not-same_factor
same_factors-returns-then-not-same_factor t c =
    let at = map_at spec.unplaced_factor c.args.factors.now c.args.others.now c.loop-place.place c.index-factors-place.result c.index-others-place.result (omega (arith, c.loop-place-test.true, c.loop-place.auto.place-end, c.if-factors-others.false)) (omega (arith, c.loop-place-test.true, c.loop-place.auto.place-end, c.if-factors-others.false)) c.index-factors-place.is c.index-others-place.is in
    search (rules, at)

pub same_expression-returns-in-Compare-Compare : goal.same_expression-returns-in-Compare-Compare
same_expression-returns-in-Compare-Compare t c =
    let i = c.in-Compare-Compare in
    let law = same-Compare (IsTrue c.all_three.result) c.args.one.now c.args.other.now i.cmp i.how i.x i.y i.z i.w i.is-0 i.is-1 in
    law (search rules, search rules)
