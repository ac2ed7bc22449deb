-- An event that is offered to the lists which wait for a stage, as the conditions of the stage at that event tell of it. This is this project's own.
use Rattle.std.specs.Prelude.{◌≡◌, ℕ, Bool, true, false, not, ◌&&◌, List, Option, Some, None}
use Rattle.std.specs.List.{Contains}
use Rattle.std.specs.Option.{option_map_or}
use Rattle.cep_event.specs.declared.event.Event.{Event}
use Rattle.cep_plan.specs.declared.plan.Plan.{Plan}
use Rattle.cep_plan.specs.declared.item.Taken.{Taken}
use Rattle.cep_plan.specs.Condition.{condition_holds}
use Rattle.cep_plan.specs.Candidate.{is_candidate}
use Rattle.live_laws.specs.Survival.{survives, takes}
use Rattle.cond_ready.specs.Rest.{Ready}
use Rattle.cond_sums.specs.Questions.{conditions_in}

pub record Offer : Type 0 where
  pub plan : Plan
  pub stage : ℕ
  pub event : Event

-- the condition holds at its event, with these events taken before
abbrev pub met_at : List Taken → Ready → Bool
met_at list ready = condition_holds ready.types ready.event list ready.cond

-- the condition holds, where there is one, and the `until` doesn't
abbrev pub wants : Option Ready → Option Ready → List Taken → Bool
wants cond until list = option_map_or (met_at list) cond false && not (option_map_or (met_at list) until false)

-- one of the plan's conditions, if there is one
abbrev pub IsOfPlan : Plan → Option Ready → Type 0
IsOfPlan plan None = Unit {0}
IsOfPlan plan (Some ready) = (ready.types ≡ plan.types) × Contains (conditions_in plan) ready.cond

-- A list that waits for the stage goes on waiting without the event.
pub record IsLetBe (plan : Plan) (list : List Taken) (stage : ℕ) (event : Event) (position : ℕ) : Type 0 where
  pub taken : takes plan list stage event position ≡ false
  pub lives : survives plan list stage event position ≡ true

-- So does each list for which the event is no candidate.
abbrev pub LetsOthersBe : Plan → ℕ → Event → Type 0
LetsOthersBe plan stage event = (list : List Taken) (position : ℕ) → is_candidate plan list stage event ≡ false → IsLetBe plan list stage event position
