use Rattle.std.proofs.Common.{sym, ◌∙◌, ap, Bool, Some, fold, take, arith}
use Rattle.std.proofs.lemmas.List.{take_all}
use Rattle.cep_plan.specs.declared.condition.Part.{Part}
use Rattle.cep_plan.specs.Answer.{is_true}
use Rattle.cep_plan.specs.Value.{value_of}
use Rattle.cep_plan.specs.Condition.{joined}
use Rattle.cond_ready.proofs.AloneLaws.{fold-more}
use Rattle.cond_ready.proofs.never.rest_never_holds.Goals as goal

pub loop-part-preserved : goal.loop-part-preserved
loop-part-preserved c = λ list held known never.
    let f : Bool → Part → Bool = λ so_far next. joined next.join so_far (is_true (value_of c.args.plan.now.types (Some c.args.event.now) list next.expr)) in
    fold-more f held c.args.rest.now c.loop-part.part-index c.part-item.result c.loop-part-test.true c.part-item.is
    ∙ c.never_joined-never.ensures never list (fold f held (take c.loop-part.part-index c.args.rest.now)) (c.loop-part.invariant list held known)

pub returns : goal.returns
returns c = λ never list held known.
    let f : Bool → Part → Bool = λ so_far next. joined next.join so_far (is_true (value_of c.args.plan.now.types (Some c.args.event.now) list next.expr)) in
    sym (ap (fold f held) (take_all c.loop-part.part-index c.args.rest.now (omega (arith, c.loop-part-test.false))))
    ∙ c.loop-part.invariant list held known never
