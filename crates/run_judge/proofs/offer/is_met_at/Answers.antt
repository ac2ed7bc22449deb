use Rattle.std.proofs.Common.{subst, Some}
use Rattle.cond_sums.proofs.AnswerLaws.{can-ask}
use Rattle.run_judge.specs.Offer.{IsOfPlan}
use Rattle.run_judge.proofs.offer.is_met_at.Goals as goal

pub holds_with-requires : goal.holds_with-requires
holds_with-requires c =
    let of_plan : IsOfPlan c.args.plan.now (Some c.in-Some.at) = subst (IsOfPlan c.args.plan.now) c.in-Some.is c.requires.of in
    can-ask c.args.plan.now c.args.sums.now c.requires.asked c.in-Some.at.cond of_plan.1
