use Rattle.std.proofs.Common.{sym, ◌∙◌, ap, Bool, Some, arith}
use Rattle.cep_plan.specs.declared.condition.Expr.{Expr}
use Rattle.cep_plan.specs.Answer.{is_true}
use Rattle.cep_plan.specs.Value.{value_of}
use Rattle.std.specs.List.{list_any}
use Rattle.std.proofs.lemmas.List.{take_all}
use Rattle.cond_ready.proofs.AloneLaws.{any-more}
use Rattle.cond_eval.proofs.ChainLaws.{value-Any, value-All}
use Rattle.cond_ready.proofs.never.+never.Goals as goal

pub never_true-returns-in-All : goal.never_true-returns-in-All
never_true-returns-in-All t c = λ yes_it_is list.
    sym (ap is_true (value-All c.args.plan.now.types (Some c.args.event.now) list c.args.expr.now c.in-All.parts c.as_slice.result.now c.in-All.is
    c.as_slice.ensures)) ∙ c.one_never_holds.ensures yes_it_is list

pub never_true-returns-in-Any : goal.never_true-returns-in-Any
never_true-returns-in-Any t c = λ yes_it_is list.
    sym (ap is_true (value-Any c.args.plan.now.types (Some c.args.event.now) list c.args.expr.now c.in-Any.parts c.as_slice-in-Any.result.now
    c.in-Any.is c.as_slice-in-Any.ensures)) ∙ c.none_ever_holds.ensures yes_it_is list

pub none_ever_holds-loop-part-preserved : goal.none_ever_holds-loop-part-preserved
none_ever_holds-loop-part-preserved t c = λ list.
    any-more (λ x. is_true (value_of c.args.plan.now.types (Some c.args.event.now) list x)) c.args.parts.now c.loop-part.part-index
    c.part-item.result c.loop-part-test.true c.part-item.is (c.loop-part.invariant list) (c.never_true.ensures c.if-not-never_true.false list)

pub none_ever_holds-returns : goal.none_ever_holds-returns
none_ever_holds-returns t c = λ yes_it_is list.
    let test : Expr → Bool = λ x. is_true (value_of c.args.plan.now.types (Some c.args.event.now) list x) in
    sym (ap (list_any test) (take_all c.loop-part.part-index c.args.parts.now (omega (arith, c.loop-part-test.false)))) ∙ c.loop-part.invariant list
