-- The text of a row, piece by piece.
use Rattle.std.specs.Prelude.{ℕ, ◌<◌, ◌^◌, Bool, true, false, ◌&&◌, List, [], ◌∷◌, ◌++◌, length, if◌then◌else◌}
use Rattle.csv.specs.Writing.{default_writer, escaped, field_text}
use Rattle.cep_event.specs.declared.event.Event.{Event}
use Rattle.cep_plan.specs.declared.item.Item.{Item}
use Rattle.cep_plan.specs.Skipping.{list_in}
use Rattle.cep_select.specs.Output.{rows_text}

abbrev pub has_events : List Event → Bool
has_events [] = false
has_events (event ∷ events) = true

-- a comma, and the front of a field that begins with these bytes and stands in quotes or not
abbrev pub opened : Bool → List ℕ → List ℕ
opened quoted name = 44 ∷ (if quoted then 34 ∷ escaped default_writer name else name)

-- what stands before a row's number: a space behind another one, and else the name of the stage
abbrev pub lead_text : Bool → Bool → List ℕ → List ℕ
lead_text behind quoted name = if behind then 32 ∷ [] else opened quoted name ++ 61 ∷ []

-- a stage, where it has an event, without the quote behind it
abbrev pub stage_front : Bool → List ℕ → List Event → List ℕ
stage_front quoted name [] = []
stage_front quoted name (event ∷ events) = opened quoted name ++ 61 ∷ rows_text (event ∷ events)

-- the quote behind a stage
abbrev pub stage_back : Bool → Bool → List ℕ
stage_back behind quoted = if behind && quoted then 34 ∷ [] else []

-- a field behind another one
abbrev pub next_field : List ℕ → List ℕ
next_field field = 44 ∷ field_text default_writer field

-- no more entries than 32 bits can count
abbrev pub IsShort : Item → Type 0
IsShort item = length (list_in item) < 2 ^ 32
