use Rattle.cond_sums.proofs.AnswerLaws.{negation-condition}
use Rattle.run_judge.proofs.candidate.meets.Goals as goal

pub is_met-requires-clause-plan : goal.is_met-requires-clause-plan
is_met-requires-clause-plan c = negation-condition c.args.plan.now c.args.negation.now c.requires.negation
