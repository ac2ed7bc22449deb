-- States of the automaton. A state is a stage and a number of its events. After the SIGMOD 2008 paper of Agrawal, Diao, Gyllstrom and Immerman in
-- outline; that counts are numbered up to the greatest one is this project's own.
use Rattle.std.specs.Prelude.{◌≡◌, ℕ, ◌+◌, ◌≤◌, min, Bool, true, ◌&&◌, ◌==◌, nat_le, List, [], map, flat_map, length, take, replicate, slice_get, Option, Some, None}
use Rattle.std.specs.List.{list_all, sum_by, last_or, range_with_len}
use Rattle.std.specs.Option.{option_map_or, is_none}
use Rattle.cep_plan.specs.declared.plan.Plan.{Plan}
use Rattle.cep_plan.specs.declared.plan.Stage.{Stage}
use Rattle.cep_plan.specs.Follow.{of_stage, count_for}
use Rattle.nfa_compile.specs.declared.state.State.{State}

-- The greatest count of a stage: how many events it takes at most or, where it has no such number, how many it needs. With more events than it needs
-- a loop without an end stays in its last state.
abbrev pub most_within : ℕ → Option ℕ → ℕ
most_within least None = least
most_within least (Some greatest) = greatest

abbrev pub greatest_count : Stage → ℕ
greatest_count s = most_within s.min s.max

-- the same of the stage with this number, 0 where the pattern has none
abbrev pub greatest_at : Plan → ℕ → ℕ
greatest_at plan stage = option_map_or greatest_count (slice_get plan.stages stage) 0

-- the states of a stage: each count from 1 to the greatest
abbrev pub states_at : Plan → ℕ → List State
states_at plan stage = map (λ count. record { stage = stage; count = count }) (range_with_len 1 (greatest_at plan stage))

-- all states, stage by stage
unfoldable pub states_of : Plan → List State
states_of plan = flat_map (states_at plan) (range_with_len 0 (length plan.stages))

-- how many states the stages before this one have
abbrev pub states_before : Plan → ℕ → ℕ
states_before plan stage = sum_by greatest_count (take stage plan.stages)

-- the number of a state, from 1 on in the order of the states
abbrev pub number_of_state : Plan → ℕ → ℕ → ℕ
number_of_state plan stage count = states_before plan stage + count

-- The count of a stage in the state of a list, from the stages of the list: how many events it has for the stage, or the greatest count, whichever is less.
abbrev pub count_in : Plan → List ℕ → ℕ → ℕ
count_in plan so_far stage = min (count_for stage so_far) (greatest_at plan stage)

-- the same, by its last stage, if there is one
abbrev pub state_behind : Plan → List ℕ → Option ℕ → Option State
state_behind plan so_far None = None
state_behind plan so_far (Some last) = Some (record { stage = last; count = count_in plan so_far last })

-- The state of a list, from the stages of the list: its last stage with the count of that stage. The empty list has none.
unfoldable pub state_of : Plan → List ℕ → Option State
state_of plan so_far = state_behind plan so_far (last_or None so_far)

-- the state has no end: it is the last one of a stage without a greatest number of events
abbrev pub is_open_ended : Plan → ℕ → ℕ → Bool
is_open_ended plan stage count = of_stage plan stage (λ s. is_none s.max && (count == s.min))

-- The shortest list of a state, by its stages: just so many events of the stage.
abbrev pub stages_at : State → List ℕ
stages_at state = replicate state.count state.stage

-- the same where there may be no state: before the first event the list is empty
abbrev pub stages_behind : Option State → List ℕ
stages_behind None = []
stages_behind (Some state) = stages_at state

-- a stage needs at least one event, and takes at most no fewer than it needs
abbrev pub has_bounds : Stage → Bool
has_bounds s = nat_le 1 s.min && nat_le s.min (greatest_count s)

-- The plans that are compiled: few stages, few negations and few states. Each plan of a pattern that is accepted is one of them.
pub record IsCompilable (plan : Plan) : Type 0 where
  pub few_stages : length plan.stages ≤ 64
  pub few_negations : length plan.negations ≤ 64
  pub bounds : list_all has_bounds plan.stages ≡ true
  pub few_states : sum_by greatest_count plan.stages ≤ 1024
