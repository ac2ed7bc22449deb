-- Quantifiers: which stage may follow, and when a list is full. Both read the stages of a list alone, in order.
-- `times`, `oneOrMore`, `timesOrMore`, `optional` and a final `notFollowedBy` are as in the FlinkCEP chapter of the Flink manual.
use Rattle.std.specs.Prelude.{ℕ, ◌+◌, ◌-◌, Bool, true, false, not, ◌&&◌, ◌==◌, nat_lt, nat_le, if◌then◌else◌, List, length, count_by, slice_get, Option, Some, None}
use Rattle.std.specs.List.{list_all, list_any, last_or, range_with_len}
use Rattle.std.specs.Option.{option_map_or}
use Rattle.cep_plan.specs.declared.plan.Plan.{Plan}
use Rattle.cep_plan.specs.declared.plan.Stage.{Stage}

-- a test of the stage with this number, false where the pattern has none
abbrev pub of_stage : Plan → ℕ → (Stage → Bool) → Bool
of_stage plan stage test = option_map_or test (slice_get plan.stages stage) false

-- the stages from one number up to another, without the latter, are all optional
abbrev pub all_optional : Plan → ℕ → ℕ → Bool
all_optional plan from to = list_all (λ stage. of_stage plan stage (λ s. s.optional)) (range_with_len from (to - from))

-- how many events there are for a stage
abbrev pub count_for : ℕ → List ℕ → ℕ
count_for stage so_far = count_by (λ s. s == stage) so_far

-- the number is below the greatest one, if there is a greatest one
abbrev pub is_below : ℕ → Option ℕ → Bool
is_below count max = option_map_or (λ most. nat_lt count most) max true

-- the stage may have one more event
abbrev pub has_room : Plan → List ℕ → ℕ → Bool
has_room plan so_far stage = of_stage plan stage (λ s. is_below (count_for stage so_far) s.max)

-- the stage has as many events as it needs
abbrev pub has_enough : Plan → List ℕ → ℕ → Bool
has_enough plan so_far stage = of_stage plan stage (λ s. nat_le s.min (count_for stage so_far))

-- the stage may follow, by the last stage so far
abbrev pub may_follow_last : Plan → List ℕ → ℕ → Option ℕ → Bool
may_follow_last plan so_far stage None = all_optional plan 0 stage
may_follow_last plan so_far stage (Some last) =
    if stage == last then has_room plan so_far stage else (nat_lt last stage && has_enough plan so_far last && all_optional plan (last + 1) stage)

-- A stage of the pattern may come next. Either it is the last of the stages so far, and has room for one more event. Or it is a later one, the last
-- one has enough events, and all stages between are optional.
-- Where there is none so far, a stage may come where all stages before it are optional.
abbrev pub may_come : Plan → List ℕ → ℕ → Bool
may_come plan so_far stage = nat_lt stage (length plan.stages) && may_follow_last plan so_far stage (last_or None so_far)

-- The end stage. Lists wait for it where a negation closes the pattern; none has an event for it.
abbrev pub end_stage : Plan → ℕ
end_stage plan = length plan.stages

-- a negation closes the pattern: it stands behind the last stage
abbrev pub is_closing : Plan → Bool
is_closing plan = list_any (λ n. n.after + 1 == end_stage plan) plan.negations

-- the end stage may follow: a negation closes the pattern, and the last stage of the pattern is there and has enough events
abbrev pub may_end : Plan → List ℕ → Bool
may_end plan so_far = is_closing plan && option_map_or (λ last. last + 1 == end_stage plan && has_enough plan so_far last) (last_or None so_far) false

-- The stage, which may be the end stage, may follow the stages so far.
unfoldable pub may_follow : Plan → List ℕ → ℕ → Bool
may_follow plan so_far stage = if stage == end_stage plan then may_end plan so_far else may_come plan so_far stage

abbrev pub is_full_at : Plan → List ℕ → ℕ → Bool
is_full_at plan so_far last = has_enough plan so_far last && all_optional plan (last + 1) (length plan.stages)

-- The stages of a full list: there is one, the last one has enough events, and all later ones are optional. Where a negation closes the pattern no
-- list is full.
unfoldable pub is_full : Plan → List ℕ → Bool
is_full plan so_far = not (is_closing plan) && option_map_or (is_full_at plan so_far) (last_or None so_far) false
