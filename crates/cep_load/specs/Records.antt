-- The records that are generated from a seed, of which number i is an event at time i. This is this project's own.
use Rattle.std.specs.Prelude.{ℕ, zero, suc, ◌+◌, ◌%◌, pos, ◌==◌, if◌then◌else◌, List, [], ◌∷◌, ◌++◌, length, slice_index_or, codes, decimal}
use Rattle.cep_event.specs.declared.event.EventType.{EventType}
use Rattle.cep_event.specs.declared.event.Field.{Field}
use Rattle.cep_event.specs.declared.record.LineRecord.{LineRecord}
use Rattle.cep_event.specs.declared.record.LineRecord.TheVariants.{Mark, Row}
use Rattle.cep_event.specs.declared.value.Kind.{Kind}
use Rattle.cep_event.specs.declared.value.Kind.TheVariants as kind
use Rattle.cep_event.specs.declared.value.Value.{Value}
use Rattle.cep_event.specs.declared.value.Value.TheVariants as value
use Rattle.cep_records.specs.Record.{no_type}
use Rattle.cep_load.specs.Draw.{behind, drawn, step}

-- what a field of this kind holds by a draw
abbrev pub value_by : Kind → ℕ → Value
value_by kind.Int draw = value.Int (pos (draw % 1000))
value_by kind.Text draw = value.Text (codes "k" ++ decimal (draw % 8))

-- the values of these fields, each by a draw of its own
abbrev pub values_by : List Field → ℕ → List Value
values_by [] x = []
values_by (field ∷ fields) x = value_by field.kind (drawn x) ∷ values_by fields (step x)

-- the number of the type that a draw chooses
abbrev pub type_by : List EventType → ℕ → ℕ
type_by types x = drawn x % length types

-- the fields of that type
abbrev pub fields_by : List EventType → ℕ → List Field
fields_by types x = (slice_index_or types (type_by types x) no_type).fields

-- The record with this number: an event of a type that is drawn first, with values that are drawn then. Without types it is a mark.
abbrev pub record_by : List EventType → ℕ → ℕ → LineRecord
record_by types number x =
    if length types == 0
    then Mark (pos number)
    else Row (record { row = number; ts = pos number; type_no = type_by types x; values = values_by (fields_by types x) (step x) })

-- the state that its draws leave
abbrev pub left_by : List EventType → ℕ → ℕ
left_by types x = if length types == 0 then x else behind (length (fields_by types x)) (step x)

-- so many records, of which the first has this number
unfoldable pub records_from : List EventType → ℕ → ℕ → ℕ → List LineRecord
records_from types zero number x = []
records_from types (suc count) number x = record_by types number x ∷ records_from types count (number + 1) (left_by types x)

abbrev pub generated_records : List EventType → ℕ → ℕ → List LineRecord
generated_records types seed count = records_from types count 1 seed
