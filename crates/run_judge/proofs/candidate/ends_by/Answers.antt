use Rattle.cond_sums.proofs.AnswerLaws.{stage-until}
use Rattle.run_judge.proofs.candidate.ends_by.Goals as goal

pub is_met-requires-clause-plan : goal.is_met-requires-clause-plan
is_met-requires-clause-plan c = stage-until c.args.plan.now c.args.declared.now c.in-Some.until c.requires.stage c.in-Some.is
