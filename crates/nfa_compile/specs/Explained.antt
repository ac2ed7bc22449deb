-- The text that explains an automaton: a table of its states with their waits. The form is this project's own.
use Rattle.std.specs.Prelude.{ℕ, ◌+◌, Bool, true, false, ◌==◌, if◌then◌else◌, List, [], ◌++◌, flat_map, length, slice_get, codes, decimal}
use Rattle.std.specs.List.{range_with_len}
use Rattle.std.specs.Option.{option_map_or}
use Rattle.cep_plan.specs.declared.plan.Plan.{Plan}
use Rattle.cep_plan.specs.declared.plan.Negation.{Negation}
use Rattle.cep_plan.specs.declared.plan.Contiguity.{Contiguity}
use Rattle.cep_plan.specs.declared.plan.Contiguity.TheVariants.{Strict, Relaxed, Any}
use Rattle.cep_plan.specs.Follow.{end_stage}
use Rattle.nfa_compile.specs.declared.nfa.Wait.{Wait}
use Rattle.nfa_compile.specs.declared.nfa.Took.{Took}
use Rattle.nfa_compile.specs.declared.nfa.Nfa.{Nfa}
use Rattle.nfa_compile.specs.State.{is_open_ended}
use Rattle.nfa_compile.specs.Automaton.{automaton_of}

-- a text where it is wanted, and else nothing
abbrev pub text_if : Bool → List ℕ → List ℕ
text_if true text = text
text_if false text = []

abbrev pub name_at : Plan → ℕ → List ℕ
name_at plan stage = option_map_or (λ s. s.name) (slice_get plan.stages stage) []

-- NAME#COUNT, with + directly behind it where the state has no end
abbrev pub state_text : Plan → ℕ → ℕ → Bool → List ℕ
state_text plan stage count open_ended = name_at plan stage ++ (codes "#" ++ (decimal count ++ text_if open_ended (codes "+")))

-- which events are passed over
abbrev pub mode_text : Contiguity → List ℕ
mode_text Strict = codes " ignore none"
mode_text Relaxed = codes " ignore other"
mode_text Any = codes " ignore all"

abbrev pub negation_opening : Bool → List ℕ
negation_opening true = codes " notnext "
negation_opening false = codes " not "

abbrev pub negation_text : Negation → List ℕ
negation_text n = negation_opening n.next_only ++ n.name

-- the negation with this number
abbrev pub negation_at : Plan → ℕ → List ℕ
negation_at plan number = option_map_or negation_text (slice_get plan.negations number) []

-- the state that a take leads to
abbrev pub target_text : Plan → Wait → List ℕ
target_text plan wait = state_text plan wait.stage wait.count (is_open_ended plan wait.stage wait.count)

-- which events are passed over, and whether it is a step of a chain
abbrev pub how_text : Wait → List ℕ
how_text wait = mode_text wait.mode ++ text_if wait.same_chain (codes " chain")

-- what is waited for: a take and the state that it leads to, which events are passed over, and whether it is a step of a chain; or the end
abbrev pub aim_text : Plan → Wait → List ℕ
aim_text plan wait = if wait.stage == end_stage plan then codes "close" else (codes "take " ++ (target_text plan wait ++ how_text wait))

-- A wait is a line: what is waited for, and the negations between.
unfoldable pub wait_line : Plan → Wait → List ℕ
wait_line plan wait = codes "  proceed " ++ (aim_text plan wait ++ (flat_map (negation_at plan) wait.negations ++ codes "\n"))

abbrev pub wait_lines : Plan → List Wait → List ℕ
wait_lines plan waits = flat_map (wait_line plan) waits

-- A state is a line with its number, and then the lines of its waits.
unfoldable pub took_lines : Plan → ℕ → Took → List ℕ
took_lines plan number took =
    codes "state "
    ++ (decimal number ++ (codes " " ++ (state_text plan took.stage took.count took.open_ended ++ (text_if took.full (codes " full") ++ (codes "\n" ++ wait_lines plan took.proceed)))))

-- the lines of the state at a place: states are numbered from 1
unfoldable pub lines_at : Plan → List Took → ℕ → List ℕ
lines_at plan took place = option_map_or (took_lines plan (place + 1)) (slice_get took place) []

abbrev pub all_lines : Plan → List Took → List ℕ
all_lines plan took = flat_map (lines_at plan took) (range_with_len 0 (length took))

-- the number of states, the waits of the start, and then each state with its waits
abbrev pub table_of : Plan → Nfa → List ℕ
table_of plan nfa = codes "states " ++ (decimal (length nfa.took) ++ (codes "\nstart\n" ++ (wait_lines plan nfa.start ++ all_lines plan nfa.took)))

-- The text that explains a plan: the table of its automaton.
unfoldable pub explained : Plan → List ℕ
explained plan = table_of plan (automaton_of plan)
