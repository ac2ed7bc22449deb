-- When a plan is checked: what a call that takes a plan may rely on. It speaks of plans alone. The limits and the rules of negations are this project's own.
use Rattle.std.specs.Prelude.{◌≡◌, ℕ, ◌+◌, ◌≤◌, Bool, true, false, ◌&&◌, nat_lt, nat_le, List, [], ◌∷◌, length, Option, Some, None}
use Rattle.std.specs.List.{list_all, sum_by}
use Rattle.cep_plan.specs.declared.condition.Cond.{Cond}
use Rattle.cep_plan.specs.declared.plan.Plan.{Plan}
use Rattle.cep_plan.specs.declared.plan.Stage.{Stage}
use Rattle.cep_plan.specs.declared.plan.Negation.{Negation}
use Rattle.cep_plan.specs.declared.plan.Skip.{Skip}
use Rattle.cep_plan.specs.declared.plan.Skip.TheVariants.{ToFirst, ToLast}

-- a number that is there is below the bound
abbrev pub is_below : ℕ → Option ℕ → Bool
is_below bound None = true
is_below bound (Some n) = nat_lt n bound

-- ---- stages

-- a greatest number of events is at least the least one, and at most 256
abbrev pub reaches : ℕ → Option ℕ → Bool
reaches least None = true
reaches least (Some greatest) = nat_le least greatest && nat_le greatest 256

-- a stage takes at least one event, and 256 at most as its least or greatest number
abbrev pub has_bounds : Stage → Bool
has_bounds s = nat_le 1 s.min && (nat_le s.min 256 && reaches s.min s.max)

-- `until` ends a loop that has no greatest number
abbrev pub ends_open_loop : Option Cond → Option ℕ → Bool
ends_open_loop None greatest = true
ends_open_loop (Some cond) None = true
ends_open_loop (Some cond) (Some greatest) = false

-- a state for each number of events up to the greatest, or to the least where there is no greatest
abbrev pub states_up_to : ℕ → Option ℕ → ℕ
states_up_to least None = least
states_up_to least (Some greatest) = greatest

-- the number of a skip strategy is that of a stage
abbrev pub skips_to_stage : ℕ → Skip → Bool
skips_to_stage stages (ToFirst stage) = nat_lt stage stages
skips_to_stage stages (ToLast stage) = nat_lt stage stages
skips_to_stage stages _ = true

-- a time limit is from 1 to 2 ^ 62
abbrev pub is_limit : Option ℕ → Bool
is_limit None = true
is_limit (Some limit) = nat_le 1 limit && nat_le limit 4611686018427387904

-- none of the negations stands behind an earlier stage than the one before it
abbrev pub never_falls : ℕ → List Negation → Bool
never_falls least [] = true
never_falls least (n ∷ negations) = nat_le least n.after && never_falls n.after negations

-- ---- the facts of a checked plan, one by one

pub record IsChecked (plan : Plan) : Type 0 where
  pub some_stage : 1 ≤ length plan.stages
  pub few_types : length plan.types ≤ 65535
  pub few_stages : length plan.stages + length plan.negations ≤ 64
  pub bounds : list_all has_bounds plan.stages ≡ true
  pub few_states : sum_by (λ s. states_up_to s.min s.max) plan.stages ≤ 1024
  pub types_of_stages : list_all (λ s. is_below (length plan.types) s.of) plan.stages ≡ true
  pub types_of_negations : list_all (λ n. is_below (length plan.types) n.of) plan.negations ≡ true
  pub after : never_falls 0 plan.negations ≡ true
  pub afters : list_all (λ n. nat_lt n.after (length plan.stages)) plan.negations ≡ true
  pub limit : is_limit plan.within ≡ true
  pub gap : is_limit plan.within_gap ≡ true
  pub skips : skips_to_stage (length plan.stages) plan.skip ≡ true
