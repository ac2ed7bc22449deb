-- The record of a line: blank, a mark, or an event, or else the first cause that comes. All of it is this project's own; the fields are those that `csv` reads.
use Rattle.std.specs.Prelude.{ℕ, ℤ, ◌+◌, not, ◌==◌, if◌then◌else◌, List, [], ◌∷◌, length, drop, slice_index_or, Option, Some, None, Result, Ok, Err}
use Rattle.std.specs.List.{position}
use Rattle.std.specs.Str.{bytes_eq}
use Rattle.cep_event.specs.declared.event.EventType.{EventType}
use Rattle.cep_event.specs.declared.event.Field.{Field}
use Rattle.cep_event.specs.declared.record.LineRecord.{LineRecord}
use Rattle.cep_event.specs.declared.record.LineRecord.TheVariants.{Blank, Mark, Row}
use Rattle.cep_event.specs.declared.value.Kind.{Kind}
use Rattle.cep_event.specs.declared.value.Kind.TheVariants as kind
use Rattle.cep_event.specs.declared.value.Value.{Value}
use Rattle.cep_event.specs.declared.value.Value.TheVariants as value
use Rattle.line_fields.specs.Line.{fields_of_line}
use Rattle.cep_rows.specs.declared.cause.RowCause.{RowCause}
use Rattle.cep_rows.specs.declared.cause.RowCause.TheVariants as cause
use Rattle.cep_records.specs.Bare.{bare_line, is_text, has_open_quote}
use Rattle.cep_records.specs.Number.{number_in}

-- the field at a place, from 0
abbrev pub field_at : List (List ℕ) → ℕ → List ℕ
field_at fields place = slice_index_or fields place []

abbrev pub int_if : Option ℤ → Option Value
int_if None = None
int_if (Some number) = Some (value.Int number)

-- the value of a field of this kind, if the text writes one
abbrev pub value_in : Kind → List ℕ → Option Value
value_in kind.Int text = int_if (number_in text)
value_in kind.Text text = Some (value.Text text)

-- the value of the field with this number of its type, and then the others
abbrev pub value_and_values : ℕ → Option Value → Result (List Value) RowCause → Result (List Value) RowCause
value_and_values number None values = Err (cause.BadNumber number)
value_and_values number (Some value) (Ok values) = Ok (value ∷ values)
value_and_values number (Some value) (Err cause) = Err cause

-- the values of these fields, of which the first has this number in its type, from their texts
abbrev pub values_in : ℕ → List Field → List (List ℕ) → Result (List Value) RowCause
values_in number [] texts = Ok []
values_in number (field ∷ fields) texts = value_and_values number (value_in field.kind (field_at texts 0)) (values_in (number + 1) fields (drop 1 texts))

abbrev pub event_of : ℕ → ℤ → ℕ → Result (List Value) RowCause → Result LineRecord RowCause
event_of row time type (Ok values) = Ok (Row (record { row = row; ts = time; type_no = type; values = values }))
event_of row time type (Err cause) = Err cause

-- the event of the type with this number and these fields, at the time that was read
abbrev pub event_at : ℕ → ℕ → List Field → List (List ℕ) → Option ℤ → Result LineRecord RowCause
event_at row type declared fields None = Err cause.BadTime
event_at row type declared fields (Some time) = event_of row time type (values_in 1 declared (drop 2 fields))

-- the event of the type with this number and these fields
abbrev pub event_of_type : ℕ → ℕ → List Field → List (List ℕ) → Result LineRecord RowCause
event_of_type row type declared fields =
    if length fields == length declared + 2
    then event_at row type declared fields (number_in (field_at fields 1))
    else Err cause.FieldCount

abbrev pub mark_at : Option ℤ → Result LineRecord RowCause
mark_at None = Err cause.BadTime
mark_at (Some time) = Ok (Mark time)

abbrev pub mark_of : List (List ℕ) → Result LineRecord RowCause
mark_of fields = if length fields == 2 then mark_at (number_in (field_at fields 1)) else Err cause.FieldCount

-- the place of the type with this name
abbrev pub type_named : List ℕ → List EventType → Option ℕ
type_named name types = position (λ (declared : EventType). bytes_eq declared.name name) types

-- a type that isn't there
abbrev pub no_type : EventType
no_type = record { name = []; fields = [] }

abbrev pub event_if : List EventType → ℕ → List (List ℕ) → Option ℕ → Result LineRecord RowCause
event_if types row fields None = Err cause.UnknownType
event_if types row fields (Some type) = event_of_type row type (slice_index_or types type no_type).fields fields

-- the first field of a mark
abbrev pub at_sign : List ℕ
at_sign = 64 ∷ []

abbrev pub record_of_fields : List EventType → ℕ → List (List ℕ) → Result LineRecord RowCause
record_of_fields types row fields =
    if bytes_eq (field_at fields 0) at_sign
    then mark_of fields
    else event_if types row fields (type_named (field_at fields 0) types)

-- the record of what is read of a line
abbrev pub record_of_bare : List EventType → ℕ → List ℕ → Result LineRecord RowCause
record_of_bare types row line =
    if length line == 0 then Ok Blank
    else if not (is_text line) then Err cause.NotText
    else if has_open_quote line then Err cause.OpenQuote
    else record_of_fields types row (fields_of_line line)

-- The record of the line with this row number, by the declared types. A line of over 65,536 bytes is not judged here.
unfoldable pub record_of_line : List EventType → ℕ → List ℕ → Result LineRecord RowCause
record_of_line types row line = record_of_bare types row (bare_line row line)
