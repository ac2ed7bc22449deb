use Rattle.cond_sums.proofs.AnswerLaws.{stage-condition, contains-got}
use Rattle.run_judge.proofs.candidate.is_wanted.Goals as goal

pub is_met-requires-clause-plan : goal.is_met-requires-clause-plan
is_met-requires-clause-plan c =
    stage-condition c.args.plan.now c.in-Some.declared.now (contains-got c.args.plan.now.stages c.args.stage c.in-Some.declared.now c.in-Some.ensures.value)

pub ends_by-requires-clause-stage : goal.ends_by-requires-clause-stage
ends_by-requires-clause-stage c = contains-got c.args.plan.now.stages c.args.stage c.in-Some.declared.now c.in-Some.ensures.value
