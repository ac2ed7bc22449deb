-- The lines of generated records: their fields with a comma between two. This is this project's own.
use Rattle.std.specs.Prelude.{ℕ, List, [], ◌∷◌, ◌++◌, map, slice_index_or, codes, decimal}
use Rattle.std.specs.Fmt.{signed_decimal}
use Rattle.std.specs.List.{flat_map, join_with_byte}
use Rattle.cep_event.specs.declared.event.EventType.{EventType}
use Rattle.cep_event.specs.declared.record.LineRecord.{LineRecord}
use Rattle.cep_event.specs.declared.record.LineRecord.TheVariants.{Blank, Mark, Row}
use Rattle.cep_event.specs.declared.value.Value.{Value}
use Rattle.cep_event.specs.declared.value.Value.TheVariants as value
use Rattle.cep_records.specs.Record.{no_type}
use Rattle.cep_load.specs.Records.{records_from}

-- a number in decimal digits, and a text as it is
abbrev pub text_of : Value → List ℕ
text_of (value.Int n) = signed_decimal n
text_of (value.Text t) = t

-- the fields of a record: `@` or the name of the type, the time, and the values
abbrev pub fields_of : List EventType → LineRecord → List (List ℕ)
fields_of types Blank = []
fields_of types (Mark time) = codes "@" ∷ signed_decimal time ∷ []
fields_of types (Row event) = (slice_index_or types event.type_no no_type).name ∷ signed_decimal event.ts ∷ map text_of event.values

unfoldable pub line_of : List EventType → LineRecord → List ℕ
line_of types r = join_with_byte 44 (fields_of types r)

-- so many lines, of which the first has this number
abbrev pub lines_from : List EventType → ℕ → ℕ → ℕ → List (List ℕ)
lines_from types count number x = map (line_of types) (records_from types count number x)

-- the lines of a load run
abbrev pub generated_lines : List EventType → ℕ → ℕ → List (List ℕ)
generated_lines types seed count = lines_from types count 1 seed

-- ---- a line piece by piece

-- the values, each behind a comma
abbrev pub values_text : List Value → List ℕ
values_text values = flat_map (λ v. 44 ∷ text_of v) values

-- an event of the type with this name, at the time of its number
abbrev pub event_text : List ℕ → ℕ → List Value → List ℕ
event_text name number values = name ++ (44 ∷ (decimal number ++ values_text values))
