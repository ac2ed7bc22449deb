-- Small plans and inputs, and what is told of them, in a short form.
use Rattle.std.specs.Prelude.{ℕ, ℤ, pos, Bool, true, false, List, [], ◌∷◌, ◌+◌, map, codes, Option, Some, None}
use Rattle.cep_event.specs.declared.event.EventType.{EventType}
use Rattle.cep_event.specs.declared.event.Field.{Field}
use Rattle.cep_event.specs.declared.value.Kind.{Kind}
use Rattle.cep_event.specs.declared.value.Value.{Value}
use Rattle.cep_event.specs.declared.value.Value.TheVariants as value
use Rattle.cep_event.specs.declared.record.LineRecord.{LineRecord}
use Rattle.cep_event.specs.declared.record.LineRecord.TheVariants.{Row}
use Rattle.cep_plan.specs.declared.condition.Cond.{Cond}
use Rattle.cep_plan.specs.declared.condition.Expr.{Expr}
use Rattle.cep_plan.specs.declared.condition.Join.TheVariants as join
use Rattle.cep_plan.specs.declared.plan.Contiguity.{Contiguity}
use Rattle.cep_plan.specs.declared.plan.Contiguity.TheVariants.{Relaxed}
use Rattle.cep_plan.specs.declared.plan.Skip.{Skip}
use Rattle.cep_plan.specs.declared.plan.Skip.TheVariants.{No}
use Rattle.cep_plan.specs.declared.plan.Plan.{Plan}
use Rattle.cep_plan.specs.declared.plan.Stage.{Stage}
use Rattle.cep_plan.specs.declared.plan.Negation.{Negation}
use Rattle.cep_plan.specs.declared.item.Taken.{Taken}
use Rattle.cep_plan.specs.declared.item.Item.{Item}
use Rattle.cep_plan.specs.declared.item.Item.TheVariants.{Match, Timeout}
use Rattle.cep_plan.specs.Skipping.{kept}
use Rattle.cep_plan.specs.History.{history}
use Rattle.cep_plan.specs.EventTime.{ticks_of, all_ticks}
use Rattle.cep_plan.specs.Keys.{told_of}

-- ---- events and their types

abbrev pub field : ℕ → List ℕ → Kind → Field
field n name k = record { name = name; number = n; kind = k }

abbrev pub type_of : List ℕ → List Field → EventType
type_of name fields = record { name = name; fields = fields }

-- the types A, B, C and D, without fields, and their numbers
abbrev pub letters : List EventType
letters = type_of (codes "A") [] ∷ type_of (codes "B") [] ∷ type_of (codes "C") [] ∷ type_of (codes "D") [] ∷ []

abbrev pub a : ℕ
a = 0

abbrev pub b : ℕ
b = 1

abbrev pub c : ℕ
c = 2

abbrev pub d : ℕ
d = 3

-- the row with this number: an event of a type at a time, with its values
abbrev pub event_row : ℕ → ℕ → ℕ → List Value → LineRecord
event_row row type time values = Row (record { row = row; ts = pos time; type_no = type; values = values })

abbrev pub number_value : ℤ → List Value
number_value n = value.Int n ∷ []

-- the events of these types and times, in rows from the one on
abbrev pub rows_from : ℕ → List (ℕ × ℕ) → List LineRecord
rows_from row [] = []
rows_from row (e ∷ later) = event_row row e.0 e.1 [] ∷ rows_from (row + 1) later

abbrev pub rows : List (ℕ × ℕ) → List LineRecord
rows events = rows_from 1 events

-- ---- plans

abbrev pub no_condition : Cond
no_condition = record { parts = [] }

abbrev pub where_holds : Expr → Cond
where_holds e = record { parts = record { join = join.Both; expr = e } ∷ [] }

-- a stage of a type: its first contiguity, its inner one, the least and the greatest number of its events, and whether it is optional
abbrev pub stage_of : Contiguity → Contiguity → ℕ → ℕ → Option ℕ → Bool → Stage
stage_of first inner type min max optional =
    record { name = []; of = Some type; cond = no_condition; until = None; first = first; inner = inner; min = min; max = max; optional = optional }

-- one event of a type
abbrev pub single : Contiguity → ℕ → Stage
single first type = stage_of first Relaxed type 1 (Some 1) false

-- one event of a type, or none
abbrev pub maybe : Contiguity → ℕ → Stage
maybe first type = stage_of first Relaxed type 1 (Some 1) true

-- a loop over one or more events of a type
abbrev pub loop : Contiguity → Contiguity → ℕ → Stage
loop first inner type = stage_of first inner type 1 None false

-- two events of a type
abbrev pub twice : Contiguity → Contiguity → ℕ → Stage
twice first inner type = stage_of first inner type 2 (Some 2) false

abbrev pub with_condition : Stage → Expr → Stage
with_condition s e = record s { cond = where_holds e }

abbrev pub with_until : Stage → Expr → Stage
with_until s e = record s { until = Some (where_holds e) }

-- An event of a type must not come behind the stage. The next one must not be of it, if so marked.
abbrev pub no_event_of : ℕ → Bool → ℕ → Negation
no_event_of after next_only type = record { name = []; after = after; next_only = next_only; of = Some type; cond = no_condition }

abbrev pub plan_with : List EventType → List Stage → List Negation → Option ℕ → Skip → Plan
plan_with types stages negations within skip =
    record { types = types; stages = stages; negations = negations; within = within; within_gap = None; by = None; skip = skip; select = None }

abbrev pub plan_of : List Stage → Plan
plan_of stages = plan_with letters stages [] None No

-- ---- items

-- an item as a row of the output shows it: each entry as its stage and its row
pub data Shown : Type 0 where
  match : List (ℕ × ℕ) → Shown
  timeout : List (ℕ × ℕ) → Shown

abbrev pub shown_list : List Taken → List (ℕ × ℕ)
shown_list list = map (λ t. (t.stage, t.event.row)) list

abbrev pub shown_item : Item → Shown
shown_item (Match list) = match (shown_list list)
shown_item (Timeout list) = timeout (shown_list list)

-- the kept items of all ticks of the records, with a lag or without
abbrev pub told_with : Option ℕ → Plan → List LineRecord → List Shown
told_with lag plan records = map shown_item (kept plan.skip (history plan (all_ticks lag records)))

abbrev pub told : Plan → List LineRecord → List Shown
told = told_with None

-- the kept items of the ticks that the records give before the end of the input
abbrev pub told_so_far : Plan → List LineRecord → List Shown
told_so_far plan records = map shown_item (kept plan.skip (history plan (ticks_of None records)))

-- what all ticks of the records tell, key by key
abbrev pub told_by_key : Plan → List LineRecord → List Shown
told_by_key plan records = map shown_item (told_of plan (all_ticks None records))
