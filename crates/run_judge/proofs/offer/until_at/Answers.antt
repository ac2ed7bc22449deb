use Rattle.cond_sums.proofs.AnswerLaws.{stage-until}
use Rattle.run_judge.proofs.OfferLaws.{ready-of_plan}
use Rattle.run_judge.proofs.offer.until_at.Goals as goal

pub returns-in-Some-clause-of : goal.returns-in-Some-clause-of
returns-in-Some-clause-of c = ready-of_plan c.args.plan.now c.args.event.now c.in-Some.until c.at_event.result c.at_event.ensures
    (stage-until c.args.plan.now c.args.declared.now c.in-Some.until c.requires c.in-Some.is)
