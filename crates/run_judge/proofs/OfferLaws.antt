-- Conditions of the plan that are made ready for an event.
use Rattle.std.proofs.Common.{◌≡◌, sym, ap, subst}
use Rattle.std.specs.Prelude.{Some}
use Rattle.std.specs.List.{Contains}
use Rattle.cep_event.specs.declared.event.Event.{Event}
use Rattle.cep_plan.specs.declared.condition.Cond.{Cond}
use Rattle.cep_plan.specs.declared.plan.Plan.{Plan}
use Rattle.cond_ready.specs.Rest.{Ready}
use Rattle.cond_sums.specs.Questions.{conditions_in}
use Rattle.run_judge.specs.Offer.{IsOfPlan}

pub ready-of_plan : (plan : Plan) (event : Event) (cond : Cond) (ready : Ready) → ready ≡ record { types = plan.types; event = event; cond = cond }
    → Contains (conditions_in plan) cond → IsOfPlan plan (Some ready)
ready-of_plan plan event cond ready is stands =
    (ap (λ (r : Ready). r.types) is, subst (Contains (conditions_in plan)) (sym (ap (λ (r : Ready). r.cond) is)) stands)
