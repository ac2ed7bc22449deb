-- A run that has handled some lines.
use Rattle.std.specs.Prelude.{◌≡◌, ◌<◌, ◌^◌, ℕ, List, [], ◌∷◌, ◌++◌, length, Bool, Option, Result, Ok, Err}
use Rattle.std.specs.Io.KnownBytes.{Appends}
use Rattle.cep_outside.specs.Outside.{AppendsPart}
use Rattle.cep_event.specs.declared.record.LineRecord.{LineRecord}
use Rattle.cep_plan.specs.declared.plan.Plan.{Plan}
use Rattle.cep_session.specs.Meaning.{Meaning}
use Rattle.event_pipeline.specs.declared.outputs.TellFault.{TellFault}
use Rattle.event_pipeline.specs.declared.pipeline.Pipeline.{Pipeline}
use Rattle.event_pipeline.specs.Handled.{HasHandled}
use Rattle.pattern_file.specs.Usable.{IsUsable}
use Rattle.shared_buffer.specs.declared.buffer.Held.{Held}
use Rattle.told_list.specs.Grows.{Grows, GrowsPart}
use Rattle.cep_cli.specs.Meaning.{meaning_of, caused_text}
use Rattle.cep_cli.specs.Records.{records_of}

-- With this meaning, the pipeline has handled the records of these lines, and their text was written.
pub record HasRun (m : Meaning Held) (header : Bool) (pipeline : Pipeline) (gathered : List ℕ) (handled : ℕ) (lines : List (List ℕ)) : Type 0 where
  pub lag : Option ℕ
  pub plan : Plan
  pub means : m ≡ meaning_of header lag plan
  pub passed : HasHandled lag plan (records_of header plan.types lines) pipeline
  pub written : gathered ≡ []
  pub counted : handled ≡ length lines
  pub room : length lines < 2 ^ 32
  pub usable : IsUsable plan

-- a record more was handled and the text that it causes was written, or a front of the text
abbrev pub IsCaused : Option ℕ → Plan → List LineRecord → LineRecord → Pipeline → Option (List ℕ) → Option (List ℕ) → Result Unit TellFault → Type 0
IsCaused lag plan records next now before after (Ok done) =
    HasHandled lag plan (records ++ next ∷ []) now × Appends before after (caused_text lag plan records next)
IsCaused lag plan records next now before after (Err fault) = AppendsPart before after (caused_text lag plan records next)

-- a text was written, or a front of it
abbrev pub IsWritten : List ℕ → Option (List ℕ) → Option (List ℕ) → Result Unit TellFault → Type 0
IsWritten text before after (Ok done) = Appends before after text
IsWritten text before after (Err fault) = AppendsPart before after text

-- a gauge was shown these sizes, or a front of them
abbrev pub IsShown : {T E : Type 0} → Option (List Held) → Option (List Held) → List Held → Result T E → Type 0
IsShown before after sizes (Ok done) = Grows before after sizes
IsShown before after sizes (Err fault) = GrowsPart before after sizes
