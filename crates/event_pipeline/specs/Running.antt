-- What the engine can take.
use Rattle.std.specs.Prelude.{◌≡◌, ◌≤◌, ◌<◌, ℕ, ◌+◌, List, [], length, false, option_map}
use Rattle.std.specs.List.{AllByRecursion as Each}
use Rattle.cep_event.specs.declared.event.Event.{Event}
use Rattle.cep_event.specs.declared.record.LineRecord.{LineRecord}
use Rattle.cep_event.specs.declared.record.LineRecord.TheVariants.{Blank, Mark, Row}
use Rattle.cep_event.specs.declared.record.Moment.TheVariants.{At}
use Rattle.cep_engine.specs.State.{State, IsNotBefore}
use Rattle.watermark_order.specs.Order.{OrderState}
use Rattle.watermark_order.specs.Sooner.{IsUpward}

-- how many events the engine took, and how many wait
abbrev pub taken_and_waiting : List Event → State → ℕ
taken_and_waiting waiting engine = engine.runs.position + length waiting

-- The engine isn't spent, it has handed out its items, and its plan has few stages.
pub record IsReady (engine : State) : Type 0 where
  pub fresh : engine.spent ≡ false
  pub drained : engine.items ≡ []
  pub few : length engine.plan.stages ≤ 65536

-- The engine can take the events that wait, one after another: they stand in the order of time, and none is before its last tick.
pub record CanTake (waiting : List Event) (engine : State) : Type 0 where
  pub ready : IsReady engine
  pub upward : IsUpward waiting
  pub later : Each (λ (e : Event). IsNotBefore engine.last e.ts) waiting

-- The same between two records, where the last tick is that of the greatest mark.
pub record IsRunning (order : OrderState) (engine : State) : Type 0 where
  pub takes : CanTake order.waiting engine
  pub marked : option_map At engine.last ≡ order.mark

-- a record's event, if it has one, has a lower row
abbrev pub HasRowBelow : ℕ → LineRecord → Type 0
HasRowBelow row Blank = Unit {0}
HasRowBelow row (Mark time) = Unit {0}
HasRowBelow row (Row event) = event.row < row

-- an event's row is above those of the records before
abbrev pub ComesBehind : List LineRecord → LineRecord → Type 0
ComesBehind records Blank = Unit {0}
ComesBehind records (Mark time) = Unit {0}
ComesBehind records (Row event) = Each (HasRowBelow event.row) records

-- an event's row is above those of the events that wait
abbrev pub ComesBehindWaiting : List Event → LineRecord → Type 0
ComesBehindWaiting waiting Blank = Unit {0}
ComesBehindWaiting waiting (Mark time) = Unit {0}
ComesBehindWaiting waiting (Row event) = Each (λ (e : Event). e.row < event.row) waiting
