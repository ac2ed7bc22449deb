use Rattle.cond_sums.proofs.AnswerLaws.{contains-got}
use Rattle.run_judge.proofs.candidate.ends.Goals as goal

pub ends_by-requires-clause-stage : goal.ends_by-requires-clause-stage
ends_by-requires-clause-stage c = contains-got c.args.plan.now.stages c.args.stage c.in-Some.declared.now c.in-Some.ensures.value
