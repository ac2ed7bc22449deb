-- The automaton of a plan: its states, and what each of them waits for. It is stated of whole lists: a state waits for the stages that may follow its
-- lists. After the SIGMOD 2008 paper of Agrawal, Diao, Gyllstrom and Immerman in outline; the states are this project's own.
use Rattle.std.specs.Prelude.{ℕ, zero, suc, ◌+◌, Bool, true, false, ◌&&◌, ◌==◌, if◌then◌else◌, List, [], ◌∷◌, ◌++◌, map, filter, length, slice_get, Option, Some, None}
use Rattle.std.specs.List.{last_or, range_with_len}
use Rattle.std.specs.Option.{option_map_or}
use Rattle.cep_plan.specs.declared.plan.Plan.{Plan}
use Rattle.cep_plan.specs.declared.plan.Contiguity.{Contiguity}
use Rattle.cep_plan.specs.declared.plan.Contiguity.TheVariants.{Strict, Relaxed, Any}
use Rattle.cep_plan.specs.Follow.{end_stage, may_follow, is_full}
use Rattle.cep_plan.specs.Candidate.{is_between}
use Rattle.cep_plan.specs.Gap.{contiguity_of}
use Rattle.nfa_compile.specs.declared.state.State.{State}
use Rattle.nfa_compile.specs.declared.nfa.Wait.{Wait}
use Rattle.nfa_compile.specs.declared.nfa.Took.{Took}
use Rattle.nfa_compile.specs.declared.nfa.Nfa.{Nfa}
use Rattle.nfa_compile.specs.State.{states_of, number_of_state, count_in, state_of, is_open_ended, stages_at}

-- The contiguity of the step from the last stage so far, if there is one, to a stage. Before the first event all events are let pass.
abbrev pub mode_behind : Plan → Option ℕ → ℕ → Contiguity
mode_behind plan None stage = Any
mode_behind plan (Some last) stage = contiguity_of plan last stage

-- the contiguity is not the one that lets all events pass
abbrev pub is_chaining : Contiguity → Bool
is_chaining Strict = true
is_chaining Relaxed = true
is_chaining Any = false

-- A step of the same chain stays in its stage, and its contiguity is strict or relaxed: so the list that takes the event is the only one that goes on.
abbrev pub is_same_chain : Plan → Option ℕ → ℕ → Bool
is_same_chain plan None stage = false
is_same_chain plan (Some last) stage = (last == stage) && is_chaining (contiguity_of plan last stage)

-- the negation with this number stands between the two stages
abbrev pub stands_between : Plan → ℕ → ℕ → ℕ → Bool
stands_between plan last stage number = option_map_or (is_between last stage) (slice_get plan.negations number) false

-- the numbers of the negations between two stages, in order
abbrev pub negations_between : Plan → ℕ → ℕ → List ℕ
negations_between plan last stage = filter (stands_between plan last stage) (range_with_len 0 (length plan.negations))

-- the same of the last stage so far, if there is one, and a stage
abbrev pub negations_behind : Plan → Option ℕ → ℕ → List ℕ
negations_behind plan None stage = []
negations_behind plan (Some last) stage = negations_between plan last stage

-- The number of the state that a take for the stage leads to. It is that of the list with one more event of the stage. No event is taken for the end
-- stage, so the wait for it leads to no state, which has the number 0.
abbrev pub target_of : Plan → List ℕ → ℕ → ℕ
target_of plan so_far stage = if stage == end_stage plan then 0 else number_of_state plan stage (count_in plan (so_far ++ stage ∷ []) stage)

-- The wait for a stage, which may be the end stage, of a list with these stages so far. At the end stage its count is 0, and its mode is that which lets
-- all events pass.
unfoldable pub wait_for : Plan → List ℕ → ℕ → Wait
wait_for plan so_far stage = record {
  state = target_of plan so_far stage;
  stage = stage;
  count = count_in plan (so_far ++ stage ∷ []) stage;
  mode = mode_behind plan (last_or None so_far) stage;
  same_chain = is_same_chain plan (last_or None so_far) stage;
  negations = negations_behind plan (last_or None so_far) stage;
}

-- The waits of a list with these stages so far: one for each stage that may follow, in order of stage. That for the end stage, if there is one, is the last.
unfoldable pub waits_of : Plan → List ℕ → List Wait
waits_of plan so_far = map (wait_for plan so_far) (filter (may_follow plan so_far) (range_with_len 0 (end_stage plan + 1)))

-- The state as the automaton has it: whether it has no end, whether its lists are full, and what they wait for.
unfoldable pub took_of : Plan → State → Took
took_of plan state = record {
  stage = state.stage;
  count = state.count;
  open_ended = is_open_ended plan state.stage state.count;
  full = is_full plan (stages_at state);
  proceed = waits_of plan (stages_at state);
}

-- The automaton: all states, and what the empty list waits for.
unfoldable pub automaton_of : Plan → Nfa
automaton_of plan = record { took = map (took_of plan) (states_of plan); start = waits_of plan [] }

-- ---- how lists are found in the automaton

-- the number of the state of a list, from the stages of the list: 0 for the empty list
abbrev pub number_of_list : Plan → List ℕ → ℕ
number_of_list plan so_far = option_map_or (λ state. number_of_state plan state.stage state.count) (state_of plan so_far) 0

-- what the automaton waits for in the state with this number, where 0 is the number of the start
abbrev pub waits_in : Nfa → ℕ → List Wait
waits_in nfa zero = nfa.start
waits_in nfa (suc before) = option_map_or (λ took. took.proceed) (slice_get nfa.took before) []
