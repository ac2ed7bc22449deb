-- What lines are read as.
use Rattle.std.specs.Prelude.{ℕ, ◌+◌, List, [], ◌∷◌, Result}
use Rattle.cep_event.specs.declared.event.EventType.{EventType}
use Rattle.cep_event.specs.declared.record.LineRecord.{LineRecord}
use Rattle.cep_records.specs.Record.{record_of_line}
use Rattle.cep_rows.specs.declared.cause.RowCause.{RowCause}

-- the record of each line, or why it is refused, where the first line has this number
abbrev pub read_from : List EventType → ℕ → List (List ℕ) → List (Result LineRecord RowCause)
read_from types row [] = []
read_from types row (line ∷ lines) = record_of_line types row line ∷ read_from types (row + 1) lines
