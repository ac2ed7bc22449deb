use Rattle.std.proofs.Common.{sym, ap, subst}
use Rattle.std.specs.List.{All}
use Rattle.cep_plan.specs.declared.condition.Cond.{Cond}
use Rattle.cond_eval.specs.Asked.{questions_in}
use Rattle.cond_ready.specs.Rest.{Ready}
use Rattle.cond_sums.specs.Kept.{CanAnswer}
use Rattle.cond_sums.proofs.AnswerLaws.{contains-got, stage-condition, can-ask}
use Rattle.cond_rows.proofs.conditions.ready_of_sums.Goals as goal

pub holds_with-requires : goal.holds_with-requires
holds_with-requires c =
    let plan = c.args.plan.now in
    let stage = c.in-Some.stage.now in
    let CanTell : Cond → Type 0 = λ cond. All (CanAnswer c.args.sums.now) (questions_in cond) in
    subst CanTell (sym (ap (λ (ready : Ready). ready.cond) c.at_event.ensures))
    (can-ask plan c.args.sums.now c.requires stage.cond (stage-condition plan stage (contains-got plan.stages 2 stage c.in-Some.ensures.value)))
