-- How many digits a version may have: two for each stage that is entered, and two for each further event of a stage that allows
-- combinations. (This project's own.)
use Rattle.std.specs.Prelude.{ℕ, ◌+◌, ◌*◌, Bool, true, false, not, ◌&&◌, ◌==◌, if◌then◌else◌, List, [], ◌∷◌, Option, Some, None}
use Rattle.cep_plan.specs.declared.plan.Plan.{Plan}
use Rattle.cep_plan.specs.Gap.{contiguity_of}
use Rattle.nfa_compile.specs.Automaton.{is_chaining}

-- the first event of a stage, by the stage of the event before it, if there is one
abbrev pub is_entered : Option ℕ → ℕ → Bool
is_entered None stage = true
is_entered (Some last) stage = not (last == stage)

-- a further event of a stage, whose contiguity lets all events pass, as with combinations
abbrev pub is_combined : Plan → Option ℕ → ℕ → Bool
is_combined plan None stage = false
is_combined plan (Some last) stage = (last == stage) && not (is_chaining (contiguity_of plan last stage))

-- how many stages pass the test, each with the one before it
abbrev pub count_behind : (Option ℕ → ℕ → Bool) → Option ℕ → List ℕ → ℕ
count_behind test last [] = 0
count_behind test last (stage ∷ later) = (if test last stage then 1 else 0) + count_behind test (Some stage) later

-- how many stages a list with these stages enters
abbrev pub stages_entered : List ℕ → ℕ
stages_entered stages = count_behind is_entered None stages

-- how many further events it has of stages that allow combinations
abbrev pub events_combined : Plan → List ℕ → ℕ
events_combined plan stages = count_behind (is_combined plan) None stages

-- how many digits the version of a list with these stages may have
abbrev pub digits_within : Plan → List ℕ → ℕ
digits_within plan stages = 2 * stages_entered stages + 2 * events_combined plan stages
