use Rattle.std.proofs.Common.{◌≡◌, ◌∙◌, true, arith}
use Rattle.std.proofs.lemmas.Grind.{common_steps}
use Rattle.pattern_rules.specs.declared.kind.Wanted.TheVariants as want
use Rattle.pattern_rules.specs.First.{or_else}
use Rattle.pattern_rules.specs.Kinds.{fits, sort_of, clash_unless}
use Rattle.pattern_rules.proofs.KindLaws.{clash-Any, clash-All, clash-Add, clash-Mul, clash-Compare, clash-Not, clash-Neg}
use Rattle.pattern_rules.proofs.kind.+clash.Goals as goal

pub clash_unless-returns-in-Any : goal.clash_unless-returns-in-Any
clash_unless-returns-in-Any t c =
    let fit : fits c.args.wanted (sort_of c.args.fields.now c.args.expr.now.node) ≡ true = first_of (cc, grind (arith, common_steps)) in
    c.clash_in_parts.ensures ∙ clash-Any c.args.fields.now c.args.wanted c.args.expr.now c.in-Any.parts c.as_slice.result.now fit c.in-Any.is c.as_slice.ensures

pub clash_unless-returns-in-All : goal.clash_unless-returns-in-All
clash_unless-returns-in-All t c =
    let fit : fits c.args.wanted (sort_of c.args.fields.now c.args.expr.now.node) ≡ true = first_of (cc, grind (arith, common_steps)) in
    c.clash_in_parts-in-All.ensures
    ∙ clash-All c.args.fields.now c.args.wanted c.args.expr.now c.in-All.parts c.as_slice-in-All.result.now fit c.in-All.is
    c.as_slice-in-All.ensures

pub clash_unless-returns-in-Add : goal.clash_unless-returns-in-Add
clash_unless-returns-in-Add t c =
    let fit : fits c.args.wanted (sort_of c.args.fields.now c.args.expr.now.node) ≡ true = first_of (cc, grind (arith, common_steps)) in
    c.clash_in_terms.ensures
    ∙ clash-Add c.args.fields.now c.args.wanted c.args.expr.now c.in-Add.terms c.as_slice-in-Add.result.now fit c.in-Add.is
    c.as_slice-in-Add.ensures

pub clash_unless-returns-in-Mul : goal.clash_unless-returns-in-Mul
clash_unless-returns-in-Mul t c =
    let fit : fits c.args.wanted (sort_of c.args.fields.now c.args.expr.now.node) ≡ true = first_of (cc, grind (arith, common_steps)) in
    c.clash_in_factors.ensures
    ∙ clash-Mul c.args.fields.now c.args.wanted c.args.expr.now c.in-Mul.factors c.as_slice-in-Mul.result.now fit c.in-Mul.is
    c.as_slice-in-Mul.ensures

pub clash_unless-returns-in-Not : goal.clash_unless-returns-in-Not
clash_unless-returns-in-Not t c =
    let fit : fits c.args.wanted (sort_of c.args.fields.now c.args.expr.now.node) ≡ true = first_of (cc, grind (arith, common_steps)) in
    c.clash_unless.ensures
    ∙ clash-Not c.args.fields.now c.args.wanted c.args.expr.now c.in-Not.operand c.get-in-Not.result.now fit c.in-Not.is c.get-in-Not.ensures

pub clash_unless-returns-in-Neg : goal.clash_unless-returns-in-Neg
clash_unless-returns-in-Neg t c =
    let fit : fits c.args.wanted (sort_of c.args.fields.now c.args.expr.now.node) ≡ true = first_of (cc, grind (arith, common_steps)) in
    c.clash_unless-in-Neg.ensures
    ∙ clash-Neg c.args.fields.now c.args.wanted c.args.expr.now c.in-Neg.operand c.get-in-Neg.result.now fit c.in-Neg.is c.get-in-Neg.ensures

pub clash_unless-returns-in-Compare : goal.clash_unless-returns-in-Compare
clash_unless-returns-in-Compare t c =
    let fit : fits c.args.wanted (sort_of c.args.fields.now c.args.expr.now.node) ≡ true = first_of (cc, grind (arith, common_steps)) in
    c.earlier.ensures
    ∙ (λ i. or_else (c.clash_unless-on_left.ensures i) (c.clash_unless-on_right.ensures i))
    ∙ (λ i. or_else (clash_unless c.args.fields.now want.Value c.get-left.result.now)
    (clash_unless c.args.fields.now (want.Only (c.sort_of-in-Compare.ensures i)) c.get.result.now))
    ∙ clash-Compare c.args.fields.now c.args.wanted c.args.expr.now c.in-Compare.field-0 c.in-Compare.left c.in-Compare.right c.get-left.result.now
    c.get.result.now fit c.in-Compare.is c.get-left.ensures c.get.ensures
