-- Which stages may be passed over behind a state.
use Rattle.std.specs.Prelude.{ℕ, ◌+◌, Bool, Option, Some, None}
use Rattle.cep_plan.specs.declared.plan.Plan.{Plan}
use Rattle.cep_plan.specs.Follow.{of_stage}
use Rattle.nfa_compile.specs.declared.state.State.{State}

-- the first stage behind the state, or the first one of all
abbrev pub first_behind : Option State → ℕ
first_behind None = 0
first_behind (Some state) = state.stage + 1

abbrev pub optional_at : Plan → ℕ → Bool
optional_at plan stage = of_stage plan stage (λ s. s.optional)
