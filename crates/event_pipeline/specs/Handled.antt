-- The records that a pipeline has handled.
use Rattle.std.specs.Prelude.{◌≡◌, ◌≤◌, ℕ, List, [], ◌∷◌, ◌++◌, length, Option, Result, Ok, Err}
use Rattle.cep_event.specs.declared.record.LineRecord.{LineRecord}
use Rattle.cep_plan.specs.declared.plan.Plan.{Plan}
use Rattle.cep_plan.specs.EventTime.{arrivals_of, ticks_of}
use Rattle.cep_engine.specs.State.{StandsFor}
use Rattle.watermark_order.specs.Order.{order_of}
use Rattle.event_pipeline.specs.declared.outputs.TellFault.{TellFault}
use Rattle.event_pipeline.specs.declared.pipeline.Pipeline.{Pipeline}
use Rattle.event_pipeline.specs.Running.{IsRunning, taken_and_waiting}
use Rattle.event_pipeline.specs.Telling.{AreTold, StopsAmong}
use Rattle.event_pipeline.specs.Told.{Told, told_of}

-- With this lag and this plan, the pipeline has handled these records and no others.
pub record HasHandled (lag : Option ℕ) (plan : Plan) (records : List LineRecord) (pipeline : Pipeline) : Type 0 where
  pub planned : pipeline.engine.plan ≡ plan
  pub ordered : pipeline.order ≡ order_of lag (arrivals_of lag records)
  pub ticked : StandsFor (ticks_of lag records) pipeline.engine
  pub running : IsRunning pipeline.order pipeline.engine
  pub within : taken_and_waiting pipeline.order.waiting pipeline.engine ≤ length records

-- one record more was handled and what it makes known was told, or telling it stopped
abbrev pub Handles : {S T : Type 0} → (S → S → Told → Type 0) → (TellFault → S → S → Told → Type 0)
    → Option ℕ → Plan → List LineRecord → LineRecord → Pipeline
    → S → S → Result T TellFault → Type 0
Handles tells stops lag plan records next now a b (Ok done) = HasHandled lag plan (records ++ next ∷ []) now × AreTold tells a b (told_of lag plan records next)
Handles tells stops lag plan records next now a b (Err fault) = StopsAmong tells stops fault a b (told_of lag plan records next)
