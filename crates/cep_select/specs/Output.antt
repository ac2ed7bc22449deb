-- The rows that are printed, in the bytes that `csv`'s default writer gives for their fields. Which fields a row has is this project's own.
use Rattle.std.specs.Prelude.{ℕ, ◌+◌, List, [], ◌∷◌, ◌++◌, map, flat_map, codes, decimal, Option, Some, None}
use Rattle.std.specs.Fmt.{signed_decimal}
use Rattle.std.specs.List.{join_with_byte}
use Rattle.csv.specs.Writing.{default_writer, row_text}
use Rattle.cep_event.specs.declared.event.Event.{Event}
use Rattle.cep_event.specs.declared.event.EventType.{EventType}
use Rattle.cep_plan.specs.declared.condition.Expr.{Expr}
use Rattle.cep_plan.specs.declared.item.Item.{Item}
use Rattle.cep_plan.specs.declared.item.Item.TheVariants.{Match, Timeout}
use Rattle.cep_plan.specs.declared.item.Taken.{Taken}
use Rattle.cep_plan.specs.declared.plan.Plan.{Plan}
use Rattle.cep_plan.specs.declared.plan.Stage.{Stage}
use Rattle.cep_plan.specs.Aggregate.{taken_for}
use Rattle.cep_plan.specs.Answer.{Answer, number, text, truth, missing}
use Rattle.cep_plan.specs.Value.{value_of}

-- the numbers of some events' rows, with a space between two
abbrev pub rows_text : List Event → List ℕ
rows_text events = join_with_byte 32 (map (λ event. decimal event.row) events)

-- a stage as `name=rows`, where it has an event
abbrev pub named_rows : List ℕ → List Event → List (List ℕ)
named_rows name [] = []
named_rows name (event ∷ events) = (name ++ (codes "=" ++ rows_text (event ∷ events))) ∷ []

-- the stages that have an event, in order, from this number on
abbrev pub stages_from : ℕ → List Stage → List Taken → List (List ℕ)
stages_from stage [] list = []
stages_from stage (s ∷ stages) list = named_rows s.name (taken_for stage list) ++ stages_from (stage + 1) stages list

-- A number in decimal digits, a text as it is, and Missing as the empty field. So is a truth value, which no expression of a checked `select` has.
abbrev pub answer_text : Answer → List ℕ
answer_text (number n) = signed_decimal n
answer_text (text t) = t
answer_text (truth b) = []
answer_text missing = []

-- the values that the pattern selects of a match
abbrev pub selected : List EventType → List Taken → List Expr → List (List ℕ)
selected types list exprs = map (λ expr. answer_text (value_of types None list expr)) exprs

abbrev pub match_fields : Plan → List Taken → Option (List Expr) → List (List ℕ)
match_fields plan list None = stages_from 0 plan.stages list
match_fields plan list (Some exprs) = selected plan.types list exprs

-- The fields of an item's row. A timeout shows its stages with `select` too.
abbrev pub fields_of : Plan → Item → List (List ℕ)
fields_of plan (Match list) = codes "match" ∷ match_fields plan list plan.select
fields_of plan (Timeout list) = codes "timeout" ∷ stages_from 0 plan.stages list

abbrev pub row_of : Plan → Item → List ℕ
row_of plan item = row_text default_writer (fields_of plan item)

abbrev pub rows_of : Plan → List Item → List ℕ
rows_of plan items = flat_map (row_of plan) items

-- the row of a late event
abbrev pub late_row : ℕ → List ℕ
late_row row = row_text default_writer (codes "late" ∷ decimal row ∷ [])
