-- Where negations, ends of loops and mentions of stages may stand in a plan. It speaks of plans alone. That `until` asks for an open loop, and that a
-- condition sees what was taken before, is the FlinkCEP chapter of the Flink manual's, and so is that a limit of the whole pattern lets a
-- `notFollowedBy` stand last; the rest is this project's own.
use Rattle.std.specs.Prelude.{◌≡◌, ℕ, suc, Bool, true, false, not, ◌&&◌, ◌||◌, nat_lt, List, [], ◌∷◌, length, Option, Some, None}
use Rattle.std.specs.List.{list_all, slice_get, last_or}
use Rattle.std.specs.Option.{is_some}
use Rattle.cep_event.specs.declared.event.EventType.{EventType}
use Rattle.cep_plan.specs.declared.plan.Plan.{Plan}
use Rattle.cep_plan.specs.declared.plan.Stage.{Stage}
use Rattle.cep_plan.specs.declared.plan.Negation.{Negation}
use Rattle.pattern_check.specs.Checked.{ends_open_loop}
use Rattle.pattern_check.specs.Sound.{is_sound_cond, if_sound}

-- a stage that is there may be left out
abbrev pub is_optional : Option Stage → Bool
is_optional None = false
is_optional (Some s) = s.optional

-- What is asked of the stage's events is sound where the plan has so many stages.
abbrev pub sees : ℕ → List EventType → Stage → Bool
sees stages types s = is_sound_cond stages types s.cond && if_sound stages types s.until

-- The conditions of each stage are sound where the plan ends with that stage, so they name no later one. The first of the stages has the number n.
abbrev pub see_no_later : ℕ → List EventType → List Stage → Bool
see_no_later n types [] = true
see_no_later n types (s ∷ stages) = sees (suc n) types s && see_no_later (suc n) types stages

-- the time of a match is limited, as a whole or between neighbouring events
abbrev pub is_limited : Plan → Bool
is_limited plan = is_some plan.within || is_some plan.within_gap

-- The last negation stands before the last stage, or it waits for more than the next event.
abbrev pub may_close : ℕ → Option Negation → Bool
may_close stages None = true
may_close stages (Some n) = nat_lt (suc n.after) stages || not n.next_only

-- A negation stands behind the last stage only where the time of a match is limited, and the last one there is no `notNext`. None stands behind a stage
-- that may be left out. `until` stands on loops that have no greatest number of events. A condition names no stage after its own, that of a negation
-- none after the one that it stands behind.
pub record IsPlaced (plan : Plan) : Type 0 where
  pub closes : list_all (λ n. nat_lt (suc n.after) (length plan.stages) || is_limited plan) plan.negations ≡ true
  pub last_waits : may_close (length plan.stages) (last_or None plan.negations) ≡ true
  pub behind_fixed : list_all (λ n. not (is_optional (slice_get plan.stages n.after))) plan.negations ≡ true
  pub open_loops : list_all (λ s. ends_open_loop s.until s.max) plan.stages ≡ true
  pub stages_see : see_no_later 0 plan.types plan.stages ≡ true
  pub negations_see : list_all (λ n. is_sound_cond (suc n.after) plan.types n.cond) plan.negations ≡ true
