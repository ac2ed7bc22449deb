-- What is told of a run where an event is offered to a stage is told of the plan and the event.
use Rattle.std.proofs.Common.{◌≡◌, sym, subst, ℕ, Bool, List}
use Rattle.std.specs.Prelude.{Some}
use Rattle.cep_event.specs.declared.event.Event.{Event}
use Rattle.cep_plan.specs.declared.plan.Plan.{Plan}
use Rattle.cep_plan.specs.declared.item.Taken.{Taken}
use Rattle.live_laws.specs.Survival.{survives, takes}
use Rattle.cond_sums.specs.Questions.{IsWantedBy}
use Rattle.cond_sums.specs.Kept.{wanted_in}
use Rattle.run_judge.specs.Fate.{IsKeptOf}
use Rattle.run_judge.specs.Offer.{Offer}
use Rattle.run_step.specs.declared.runs.Run.{Run}

module _ (plan : Plan) (event : Event) (offer : Offer) (of_plan : offer.plan ≡ plan) (of_event : offer.event ≡ event) (run : Run) where
  pub asked-offered : IsWantedBy plan (wanted_in run.sums) → IsWantedBy offer.plan (wanted_in run.sums)
  asked-offered asked = subst (λ (p : Plan). IsWantedBy p (wanted_in run.sums)) (sym of_plan) asked

  module _ (position : ℕ) (answer : Bool) where
    abbrev Tells : (Plan → List Taken → ℕ → Event → ℕ → Bool) → Plan → Event → Type 0
    Tells test p e = (list : List Taken) → IsKeptOf p e list run.sums (Some run.last) run.start_ts → answer ≡ test p list offer.stage e position

    told : (test : Plan → List Taken → ℕ → Event → ℕ → Bool) → Tells test offer.plan offer.event → Tells test plan event
    told test tells = subst (λ (p : Plan). Tells test p event) of_plan (subst (λ (e : Event). Tells test offer.plan e) of_event tells)

    pub takes-offered : Tells takes offer.plan offer.event → Tells takes plan event
    takes-offered tells = told takes tells

    pub survives-offered : Tells survives offer.plan offer.event → Tells survives plan event
    survives-offered tells = told survives tells
