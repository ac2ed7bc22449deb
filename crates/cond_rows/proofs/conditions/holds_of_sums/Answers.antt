use Rattle.cond_sums.proofs.AnswerLaws.{contains-got, stage-condition}
use Rattle.cond_rows.proofs.conditions.holds_of_sums.Goals as goal

pub is_met-requires-clause-plan : goal.is_met-requires-clause-plan
is_met-requires-clause-plan g =
    stage-condition g.args.plan.now g.in-Some.stage.now (contains-got g.args.plan.now.stages 2 g.in-Some.stage.now g.in-Some.ensures.value)
