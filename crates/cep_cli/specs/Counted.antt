-- A load run that has handled some lines.
use Rattle.std.specs.Prelude.{◌≡◌, ℕ, ◌+◌, false, List, [], ◌∷◌, Option, Result, Ok, Err}
use Rattle.cep_event.specs.declared.record.LineRecord.{LineRecord}
use Rattle.cep_plan.specs.declared.item.Item.TheVariants.{Match, Timeout}
use Rattle.cep_plan.specs.declared.plan.Plan.{Plan}
use Rattle.cep_plan.specs.EventTime.{ticks_of}
use Rattle.event_pipeline.specs.declared.pipeline.Pipeline.{Pipeline}
use Rattle.event_pipeline.specs.Handled.{HasHandled}
use Rattle.event_pipeline.specs.Told.{Told, late_told, item_told, kept_items}
use Rattle.shared_buffer.specs.declared.buffer.Held.{Held}
use Rattle.sharing_laws.specs.Sizes.{greatest_held}
use Rattle.told_list.specs.Grows.{Grows, GrowsPart}
use Rattle.cep_cli.specs.declared.load.Counts.{Counts}
use Rattle.cep_cli.specs.Load.{counts_of, late_rows}
use Rattle.cep_cli.specs.Records.{records_of}

-- the counts with what is told
abbrev pub counted_more : Counts → Told → Counts
counted_more counts (late_told row) = record { late = counts.late + 1; matches = counts.matches; timeouts = counts.timeouts }
counted_more counts (item_told (Match list)) = record { late = counts.late; matches = counts.matches + 1; timeouts = counts.timeouts }
counted_more counts (item_told (Timeout list)) = record { late = counts.late; matches = counts.matches; timeouts = counts.timeouts + 1 }

abbrev pub counted_all : Counts → List Told → Counts
counted_all counts [] = counts
counted_all counts (one ∷ more) = counted_all (counted_more counts one) more

-- what these records tell before the end
abbrev pub counts_before_end : Option ℕ → Plan → List LineRecord → Counts
counts_before_end lag plan records = counts_of (late_rows lag [] records) (kept_items plan (ticks_of lag records))

-- The pipeline has handled these lines, and the counts are those of what they tell.
pub record HasCounted (lag : Option ℕ) (plan : Plan) (pipeline : Pipeline) (counts : Counts) (lines : List (List ℕ)) : Type 0 where
  pub passed : HasHandled lag plan (records_of false plan.types lines) pipeline
  pub counted : counts ≡ counts_before_end lag plan (records_of false plan.types lines)

-- These sizes were shown, and the answer is the greatest number of events among them; or a front of them was.
abbrev pub ShowsMost : {E : Type 0} → Option (List Held) → Option (List Held) → List Held → Result ℕ E → Type 0
ShowsMost before now sizes (Ok greatest) = Grows before now sizes × (greatest ≡ greatest_held sizes)
ShowsMost before now sizes (Err fault) = GrowsPart before now sizes
