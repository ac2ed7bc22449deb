use Rattle.cond_sums.proofs.AnswerLaws.{stage-condition}
use Rattle.run_judge.proofs.OfferLaws.{ready-of_plan}
use Rattle.run_judge.proofs.offer.cond_at.Goals as goal

pub returns-then-is_of-clause-of : goal.returns-then-is_of-clause-of
returns-then-is_of-clause-of c = ready-of_plan c.args.plan.now c.args.event.now c.args.declared.now.cond c.at_event.result c.at_event.ensures
    (stage-condition c.args.plan.now c.args.declared.now c.requires)
