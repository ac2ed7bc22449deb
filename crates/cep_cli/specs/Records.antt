-- The records of lines (this project's own).
use Rattle.std.specs.Prelude.{ℕ, ◌+◌, ◌==◌, Bool, ◌&&◌, if◌then◌else◌, List, [], ◌∷◌, Result, Ok, Err}
use Rattle.cep_event.specs.declared.event.EventType.{EventType}
use Rattle.cep_event.specs.declared.record.LineRecord.{LineRecord}
use Rattle.cep_event.specs.declared.record.LineRecord.TheVariants.{Blank}
use Rattle.cep_records.specs.Record.{record_of_line}
use Rattle.cep_rows.specs.declared.cause.RowCause.{RowCause}

-- the row is the heading, where the input has one
abbrev pub is_heading : Bool → ℕ → Bool
is_heading header row = header && (row == 1)

-- the record of a line; a heading says nothing, whatever it holds
abbrev pub record_in : Bool → List EventType → ℕ → List ℕ → Result LineRecord RowCause
record_in header types row line = if is_heading header row then Ok Blank else record_of_line types row line

-- a line that has no record is refused, and no run goes past it
abbrev pub record_or_blank : Result LineRecord RowCause → LineRecord
record_or_blank (Err cause) = Blank
record_or_blank (Ok r) = r

abbrev pub record_at : Bool → List EventType → ℕ → List ℕ → LineRecord
record_at header types row line = record_or_blank (record_in header types row line)

-- the records of lines that are numbered from this row on
abbrev pub records_from : Bool → List EventType → ℕ → List (List ℕ) → List LineRecord
records_from header types row [] = []
records_from header types row (line ∷ lines) = record_at header types row line ∷ records_from header types (row + 1) lines

abbrev pub records_of : Bool → List EventType → List (List ℕ) → List LineRecord
records_of header types lines = records_from header types 1 lines
