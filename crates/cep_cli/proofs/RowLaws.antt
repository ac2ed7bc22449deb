-- The events of lines have the lines' rows, so each comes behind those before.
use Rattle.std.proofs.Common.{◌≡◌, refl, sym, ap, subst, ℕ, suc, ◌+◌, ◌<◌, arith, Bool, true, false, cond, List, [], ◌∷◌, length, drop, Option, Some, None}
use Rattle.std.specs.Prelude.{ℤ, Result, Ok, Err, if◌then◌else◌, ◌==◌, not, slice_index_or}
use Rattle.std.specs.List.{AllByRecursion as Each}
use Rattle.std.specs.Str.{bytes_eq}
use Rattle.cep_records.specs.Bare.{bare_line, is_text, has_open_quote}
use Rattle.line_fields.specs.Line.{fields_of_line}
use Rattle.cep_event.specs.declared.event.Event.{Event}
use Rattle.cep_event.specs.declared.event.EventType.{EventType}
use Rattle.cep_event.specs.declared.event.Field.{Field}
use Rattle.cep_event.specs.declared.value.Value.{Value}
use Rattle.cep_event.specs.declared.record.LineRecord.{LineRecord}
use Rattle.cep_event.specs.declared.record.LineRecord.TheVariants.{Blank, Mark, Row}
use Rattle.cep_plan.proofs.RisingLaws.{Each-weaker}
use Rattle.cep_records.specs.Record.{event_of, event_at, event_if, mark_at, mark_of, record_of_fields, record_of_bare, record_of_line, type_named, field_at, at_sign, no_type, values_in}
use Rattle.cep_records.specs.Number.{number_in}
use Rattle.cep_rows.specs.declared.cause.RowCause.{RowCause}
use Rattle.cep_rows.specs.declared.cause.RowCause.TheVariants as cause
use Rattle.event_pipeline.specs.Running.{HasRowBelow, ComesBehind}
use Rattle.cep_cli.specs.Records.{is_heading, record_in, record_or_blank, records_from, records_of}

-- ---- the row of an event

abbrev RowIs : ℕ → Result LineRecord RowCause → Type 0
RowIs row r = (event : Event) → r ≡ Ok (Row event) → event.row ≡ row

row-if : (row : ℕ) (b : Bool) (r s : Result LineRecord RowCause) → RowIs row r → RowIs row s → RowIs row (cond b r s)
row-if row true r s x y = x
row-if row false r s x y = y

row-event : (row : ℕ) (time : ℤ) (type : ℕ) (values : Result (List Value) RowCause) → RowIs row (event_of row time type values)
row-event row time type (Ok values) = λ event is. inner event is where
  inner : (event : Event) → ◌≡◌ {A = Result LineRecord RowCause} (Ok (Row (record { row = row; ts = time; type_no = type; values = values })))
      (Ok (Row event)) → event.row ≡ row
  inner event is = cc
row-event row time type (Err why) = λ event is. cc

row-at : (row type : ℕ) (declared : List Field) (fields : List (List ℕ)) (time : Option ℤ) → RowIs row (event_at row type declared fields time)
row-at row type declared fields None = λ event is. cc
row-at row type declared fields (Some time) = row-event row time type (values_in 1 declared (drop 2 fields))

row-named : (types : List EventType) (row : ℕ) (fields : List (List ℕ)) (type : Option ℕ) → RowIs row (event_if types row fields type)
row-named types row fields None = λ event is. cc
row-named types row fields (Some type) =
    let declared = (slice_index_or types type no_type).fields in
    row-if row (length fields == length declared + 2) (event_at row type declared fields (number_in (field_at fields 1))) (Err cause.FieldCount)
    (row-at row type declared fields (number_in (field_at fields 1))) (λ event is. cc)

row-marked : (row : ℕ) (time : Option ℤ) → RowIs row (mark_at time)
row-marked row None = λ event is. cc
row-marked row (Some time) = λ event is. cc

row-fields : (types : List EventType) (row : ℕ) (fields : List (List ℕ)) → RowIs row (record_of_fields types row fields)
row-fields types row fields =
    row-if row (bytes_eq (field_at fields 0) at_sign) (mark_of fields) (event_if types row fields (type_named (field_at fields 0) types))
    (row-if row (length fields == 2) (mark_at (number_in (field_at fields 1))) (Err cause.FieldCount) (row-marked row (number_in (field_at fields 1)))
    (λ event is. cc))
    (row-named types row fields (type_named (field_at fields 0) types))

row-bare : (types : List EventType) (row : ℕ) (line : List ℕ) → RowIs row (record_of_bare types row line)
row-bare types row line =
    row-if row (length line == 0) (Ok Blank)
    (if not (is_text line) then Err cause.NotText else if has_open_quote line then Err cause.OpenQuote else record_of_fields types row
    (fields_of_line line)) (λ event is. cc)
    (row-if row (not (is_text line)) (Err cause.NotText) (if has_open_quote line then Err cause.OpenQuote else record_of_fields types row
    (fields_of_line line)) (λ event is. cc)
    (row-if row (has_open_quote line) (Err cause.OpenQuote) (record_of_fields types row (fields_of_line line)) (λ event is. cc)
    (row-fields types row (fields_of_line line))))

-- the event of a line has the line's row
row_is : (types : List EventType) (row : ℕ) (line : List ℕ) (event : Event) → record_of_line types row line ≡ Ok (Row event) → event.row ≡ row
unfolding record_of_line
row_is types row line = row-bare types row (bare_line row line)

-- the same where the first line may be a heading
pub row_in : (header : Bool) (types : List EventType) (row : ℕ) (line : List ℕ) (event : Event) → record_in header types row line ≡ Ok (Row event)
    → event.row ≡ row
row_in header types row line = row-if row (is_heading header row) (Ok Blank) (record_of_line types row line) (λ event is. cc) (row_is types row line)

-- ---- the rows of the lines before

rows-below : (header : Bool) (types : List EventType) (row : ℕ) (lines : List (List ℕ))
    → Each (HasRowBelow (row + length lines)) (records_from header types row lines)
rows-below header types row [] = tt
rows-below header types row (line ∷ lines) = (
  first (record_in header types row line) (row_in header types row line),
  subst (λ n. Each (HasRowBelow n)
      (records_from header types (row + 1) lines)) moved (rows-below header types (row + 1) lines),
)
  where
    moved : row + 1 + length lines ≡ row + suc (length lines)
    moved = omega arith

    first : (r : Result LineRecord RowCause) → RowIs row r → HasRowBelow (row + suc (length lines)) (record_or_blank r)
    first (Err why) is = tt
    first (Ok Blank) is = tt
    first (Ok (Mark time)) is = tt
    first (Ok (Row event)) is = omega (arith, is event refl)

-- the next line's event comes behind those of the lines before
pub comes_behind : (header : Bool) (types : List EventType) (lines : List (List ℕ)) (line : List ℕ) (next : LineRecord)
    → record_in header types (length lines + 1) line ≡ Ok next
    → ComesBehind (records_of header types lines) next
comes_behind header types lines line Blank is = tt
comes_behind header types lines line (Mark time) is = tt
comes_behind header types lines line (Row event) is =
    subst (λ n. Each (HasRowBelow n) (records_of header types lines)) here (rows-below header types 1 lines)
  where
    here : 1 + length lines ≡ event.row
    here = omega (arith, row_in header types (length lines + 1) line event is)
