-- What the conditions of a plan ask of the events taken so far. This is this project's own.
use Rattle.std.specs.Prelude.{◌↔◌, ℕ, List, [], ◌∷◌, ◌++◌, map, length}
use Rattle.std.specs.List.{flat_map, range_with_len, Contains}
use Rattle.std.specs.List.Sorted.{IsStrictlySortedBy}
use Rattle.std.specs.Option.{option_to_list}
use Rattle.std.specs.Ordering.{nat_cmp, ordering_then}
use Rattle.std.specs.declared.cmp.Ordering.{Ordering}
use Rattle.cep_plan.specs.declared.condition.Cond.{Cond}
use Rattle.cep_plan.specs.declared.plan.Plan.{Plan}
use Rattle.cep_plan.specs.declared.plan.Stage.{Stage}
use Rattle.cep_plan.specs.Question.{Question, how_many, aggregate}
use Rattle.cond_eval.specs.Asked.{questions_in}
use Rattle.cond_sums.specs.declared.gather.Asking.{Asking}
use Rattle.cond_sums.specs.declared.gather.Asking.TheVariants.{Count, Of}

-- a stage's condition, and its `until`
abbrev pub conditions_of : Stage → List Cond
conditions_of stage = stage.cond ∷ option_to_list stage.until

-- the conditions of the stages and of the negations; what a row shows is none of them
abbrev pub conditions_in : Plan → List Cond
conditions_in plan = flat_map conditions_of plan.stages ++ map (λ negation. negation.cond) plan.negations

abbrev pub questions_asked : Plan → List Question
questions_asked plan = flat_map questions_in (conditions_in plan)

-- the stage and the field of which an aggregate is asked, if one is
abbrev pub pair_of : Question → List (ℕ × ℕ)
pair_of (how_many stage) = []
pair_of (aggregate agg stage field) = (stage, field) ∷ []

-- the stage whose events are counted, if one is
abbrev pub stage_of : Question → List ℕ
stage_of (how_many stage) = stage ∷ []
stage_of (aggregate agg stage field) = []

-- pairs of a stage and a field, by stage and then by field
abbrev pub pair_cmp : ℕ × ℕ → ℕ × ℕ → Ordering
pair_cmp x y = ordering_then (nat_cmp x.0 y.0) (nat_cmp x.1 y.1)

-- the pairs of a stage and a field of which the plan's conditions ask aggregates
abbrev pub pairs_asked : Plan → List (ℕ × ℕ)
pairs_asked plan = flat_map pair_of (questions_asked plan)

-- the stages whose events are counted: every stage of the plan, and whatever a condition counts
abbrev pub stages_counted : Plan → List ℕ
stages_counted plan = flat_map stage_of (questions_asked plan) ++ range_with_len 0 (length plan.stages)

-- what is kept of lists: the aggregates of which pairs of a stage and a field, and the counts of which stages
pub record Wanted : Type 0 where
  pub pairs : List (ℕ × ℕ)
  pub counted : List ℕ

-- it is what the plan's conditions ask, and the count of every stage, in rising order and each once
pub record IsWantedBy (plan : Plan) (wanted : Wanted) : Type 0 where
  pub pairs_rise : IsStrictlySortedBy pair_cmp wanted.pairs
  pub pairs_are : (p : ℕ × ℕ) → Contains wanted.pairs p ↔ Contains (pairs_asked plan) p
  pub counted_rise : IsStrictlySortedBy nat_cmp wanted.counted
  pub counted_are : (stage : ℕ) → Contains wanted.counted stage ↔ Contains (stages_counted plan) stage

-- the question as the code finds it
abbrev pub asking_of : Question → Asking
asking_of (how_many stage) = Count stage
asking_of (aggregate agg stage field) = Of stage field

abbrev pub pair_in : Asking → List (ℕ × ℕ)
pair_in (Count stage) = []
pair_in (Of stage field) = (stage, field) ∷ []

abbrev pub stage_in : Asking → List ℕ
stage_in (Count stage) = stage ∷ []
stage_in (Of stage field) = []
