use Rattle.std.proofs.Common.{rules, ◌∙◌, ap, not}
use Rattle.cep_plan.specs.declared.condition.Expr.{the_lemmas}
use Rattle.cep_plan.specs.Answer.{truth, is_true, negated, compared}
use Rattle.std.specs.Option.{option_copied}
use Rattle.cond_eval.specs.Asked.{questions_of}
use Rattle.cond_eval.proofs.QuestionLaws.{can-one, can-Any, can-All, can-Add, can-Mul, can-left, can-right, can-Not, can-Neg}
use Rattle.cond_eval.proofs.ChainLaws.{value-Any, value-All, value-Add, value-Mul, value-Compare, value-Not, value-Neg}
use Rattle.cond_eval.proofs.evaluate.+value.Goals as goal

pub any_true-value-requires : goal.any_true-value-requires
any_true-value-requires g t c κs within =
    let can = can-one (g.M.Matched.can_answer c.args.taken.now) questions_of c.args.parts.now c.loop-part.part-index c.part-item.result c.loop-part-test.true c.part-item.is c.requires in
    search (rules, the_lemmas, can)

pub all_true-value-requires : goal.all_true-value-requires
all_true-value-requires g t c κs within =
    let can = can-one (g.M.Matched.can_answer c.args.taken.now) questions_of c.args.parts.now c.loop-part.part-index c.part-item.result c.loop-part-test.true c.part-item.is c.requires in
    search (rules, the_lemmas, can)

pub sum-value-requires : goal.sum-value-requires
sum-value-requires g t c κs within =
    let can = can-one (g.M.Matched.can_answer c.args.taken.now) (λ term. questions_of term.expr) c.args.terms.now c.loop-term.term-index c.term-item.result c.loop-term-test.true c.term-item.is c.requires in
    search (rules, the_lemmas, can)

pub product-value-requires : goal.product-value-requires
product-value-requires g t c κs within =
    let can = can-one (g.M.Matched.can_answer c.args.taken.now) (λ factor. questions_of factor.expr) c.args.factors.now c.loop-factor.factor-index c.factor-item.result c.loop-factor-test.true c.factor-item.is c.requires in
    search (rules, the_lemmas, can)

pub value-any_true-requires : goal.value-any_true-requires
value-any_true-requires g t c κs within =
    let can = can-Any (g.M.Matched.can_answer c.args.taken.now) c.args.expr.now c.in-Any.parts c.as_slice-in-Any.result.now c.in-Any.is c.as_slice-in-Any.ensures c.requires in
    search (rules, the_lemmas, can)

pub value-all_true-requires : goal.value-all_true-requires
value-all_true-requires g t c κs within =
    let can = can-All (g.M.Matched.can_answer c.args.taken.now) c.args.expr.now c.in-All.parts c.as_slice-in-All.result.now c.in-All.is c.as_slice-in-All.ensures c.requires in
    search (rules, the_lemmas, can)

pub value-sum-requires : goal.value-sum-requires
value-sum-requires g t c κs within =
    let can = can-Add (g.M.Matched.can_answer c.args.taken.now) c.args.expr.now c.in-Add.terms c.as_slice-in-Add.result.now c.in-Add.is c.as_slice-in-Add.ensures c.requires in
    search (rules, the_lemmas, can)

pub value-product-requires : goal.value-product-requires
value-product-requires g t c κs within =
    let can = can-Mul (g.M.Matched.can_answer c.args.taken.now) c.args.expr.now c.in-Mul.factors c.as_slice-in-Mul.result.now c.in-Mul.is c.as_slice-in-Mul.ensures c.requires in
    search (rules, the_lemmas, can)

pub value-value-x-requires : goal.value-value-x-requires
value-value-x-requires g t c κs within =
    let can = can-left (g.M.Matched.can_answer c.args.taken.now) c.args.expr.now c.in-Compare.cmp c.in-Compare.x c.in-Compare.y c.get.result.now c.in-Compare.is c.get.ensures c.requires in
    search (rules, the_lemmas, can)

pub value-value-y-requires : goal.value-value-y-requires
value-value-y-requires g t c κs within =
    let can = can-right (g.M.Matched.can_answer c.args.taken.now) c.args.expr.now c.in-Compare.cmp c.in-Compare.x c.in-Compare.y c.get-in-Compare.result.now c.in-Compare.is c.get-in-Compare.ensures c.requires in
    search (rules, the_lemmas, can)

pub value-value-requires : goal.value-value-requires
value-value-requires g t c κs within =
    let can = can-Not (g.M.Matched.can_answer c.args.taken.now) c.args.expr.now c.in-Not.x c.get-in-Not.result.now c.in-Not.is c.get-in-Not.ensures c.requires in
    search (rules, the_lemmas, can)

pub value-value-requires-in-Neg : goal.value-value-requires-in-Neg
value-value-requires-in-Neg g t c κs within =
    let can = can-Neg (g.M.Matched.can_answer c.args.taken.now) c.args.expr.now c.in-Neg.x c.get-in-Neg.result.now c.in-Neg.is c.get-in-Neg.ensures c.requires in
    search (rules, the_lemmas, can)

pub value-returns-in-Any : goal.value-returns-in-Any
value-returns-in-Any g t c list stands =
    ap truth (c.any_true.ensures list stands)
    ∙ value-Any c.args.plan.now.types (option_copied c.args.event) list c.args.expr.now c.in-Any.parts c.as_slice-in-Any.result.now c.in-Any.is
    c.as_slice-in-Any.ensures

pub value-returns-in-All : goal.value-returns-in-All
value-returns-in-All g t c list stands =
    ap truth (c.all_true.ensures list stands)
    ∙ value-All c.args.plan.now.types (option_copied c.args.event) list c.args.expr.now c.in-All.parts c.as_slice-in-All.result.now c.in-All.is
    c.as_slice-in-All.ensures

pub value-returns-in-Add : goal.value-returns-in-Add
value-returns-in-Add g t c list stands =
    c.sum.ensures list stands
    ∙ value-Add c.args.plan.now.types (option_copied c.args.event) list c.args.expr.now c.in-Add.terms c.as_slice-in-Add.result.now c.in-Add.is
    c.as_slice-in-Add.ensures

pub value-returns-in-Mul : goal.value-returns-in-Mul
value-returns-in-Mul g t c list stands =
    c.product.ensures list stands
    ∙ value-Mul c.args.plan.now.types (option_copied c.args.event) list c.args.expr.now c.in-Mul.factors c.as_slice-in-Mul.result.now c.in-Mul.is
    c.as_slice-in-Mul.ensures

pub value-returns-in-Compare : goal.value-returns-in-Compare
value-returns-in-Compare g t c list stands =
    ap truth (c.compared.ensures ∙ (λ i. compared c.in-Compare.cmp (c.value-x.ensures list stands i) (c.value-y.ensures list stands i)))
    ∙ value-Compare c.args.plan.now.types (option_copied c.args.event) list c.args.expr.now c.in-Compare.cmp c.in-Compare.x c.in-Compare.y
    c.get.result.now c.get-in-Compare.result.now c.in-Compare.is c.get.ensures c.get-in-Compare.ensures

pub value-returns-in-Not : goal.value-returns-in-Not
value-returns-in-Not g t c list stands =
    ap (λ b. truth (not b)) (c.is_true.ensures ∙ ap is_true (c.value.ensures list stands))
    ∙ value-Not c.args.plan.now.types (option_copied c.args.event) list c.args.expr.now c.in-Not.x c.get-in-Not.result.now c.in-Not.is c.get-in-Not.ensures

pub value-returns-in-Neg : goal.value-returns-in-Neg
value-returns-in-Neg g t c list stands =
    c.negated.ensures ∙ ap negated (c.value-in-Neg.ensures list stands)
    ∙ value-Neg c.args.plan.now.types (option_copied c.args.event) list c.args.expr.now c.in-Neg.x c.get-in-Neg.result.now c.in-Neg.is c.get-in-Neg.ensures
