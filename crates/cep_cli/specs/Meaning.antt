-- What lines mean under a plan: which are refused, and what the others cause: text, and the sizes that a gauge is shown. Late events and items are
-- those of the definitions of event time and of matches; that a line's late row comes before the items that it causes is this project's own.
use Rattle.std.specs.Prelude.{ℕ, ◌+◌, Bool, List, [], ◌∷◌, ◌++◌, length, Option, Some, None, Result, Ok, Err}
use Rattle.cep_event.specs.declared.record.LineRecord.{LineRecord}
use Rattle.cep_plan.specs.declared.plan.Plan.{Plan}
use Rattle.cep_plan.specs.EventTime.{ticks_of, all_ticks}
use Rattle.event_pipeline.specs.Shown.{sizes_added, sizes_at_end}
use Rattle.event_pipeline.specs.Told.{late_in, added_items}
use Rattle.cep_rows.specs.declared.cause.RowCause.{RowCause}
use Rattle.cep_rows.specs.declared.cause.RowCause.TheVariants.{LineTooLong}
use Rattle.cep_session.specs.Meaning.{Flow, Meaning}
use Rattle.shared_buffer.specs.declared.buffer.Held.{Held}
use Rattle.cep_cli.specs.Records.{record_in, record_at, records_of}
use Rattle.cep_select.specs.Output.{rows_of, late_row}

-- ---- refused lines

-- a line without a record is refused
abbrev pub refusal_of : Result LineRecord RowCause → Option RowCause
refusal_of (Err cause) = Some cause
refusal_of (Ok r) = None

-- ---- what lines cause

-- the text that tells of it
abbrev pub late_text : Option ℕ → List ℕ
late_text None = []
late_text (Some row) = late_row row

-- the text that a record causes that comes after others
abbrev pub caused_text : Option ℕ → Plan → List LineRecord → LineRecord → List ℕ
caused_text lag plan before next =
    late_text (late_in lag before next) ++ rows_of plan (added_items plan (ticks_of lag before) (ticks_of lag (before ++ next ∷ [])))

-- the text that is owed where these records are all
abbrev pub owed_text : Option ℕ → Plan → List LineRecord → List ℕ
owed_text lag plan records = rows_of plan (added_items plan (ticks_of lag records) (all_ticks lag records))

-- the same of lines, with a heading or without, and with a lag or without
abbrev pub text_of : Bool → Option ℕ → Plan → Flow ℕ
text_of header lag plan = record {
  caused = λ before line. caused_text lag plan (records_of header plan.types before) (record_at header plan.types (length before + 1) line);
  owed = λ lines. owed_text lag plan (records_of header plan.types lines);
}

-- how much is held after each tick that lines cause, but for that of time End
abbrev pub sizes_of_lines : Bool → Option ℕ → Plan → Flow Held
sizes_of_lines header lag plan = record {
  caused = λ before line. sizes_added lag plan (records_of header plan.types before) (record_at header plan.types (length before + 1) line);
  owed = λ lines. sizes_at_end lag plan (records_of header plan.types lines);
}

-- the meaning of lines under a plan
abbrev pub meaning_of : Bool → Option ℕ → Plan → Meaning Held
meaning_of header lag plan = record {
  too_long = LineTooLong;
  refusal = λ before line. refusal_of (record_in header plan.types (length before + 1) line);
  text = text_of header lag plan;
  shown = sizes_of_lines header lag plan;
}
