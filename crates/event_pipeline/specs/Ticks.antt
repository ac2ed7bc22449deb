-- Ticks that the engine takes one after another, with their kept items told.
use Rattle.std.specs.Prelude.{◌≡◌, List, [], ◌∷◌, ◌++◌, ℕ, map, Option, if◌then◌else◌, Some, None, Result, Ok, Err}
use Rattle.std.specs.Option.{option_to_list}
use Rattle.cep_event.specs.declared.event.Event.{Event}
use Rattle.cep_event.specs.declared.record.LineRecord.{LineRecord}
use Rattle.cep_plan.specs.declared.item.Item.{Item}
use Rattle.cep_plan.specs.declared.plan.Plan.{Plan}
use Rattle.cep_plan.specs.EventTime.{Arrival, is_late, ticks_after, arrivals_of, ticks_of}
use Rattle.cep_plan.specs.Tick.{Tick}
use Rattle.cep_plan.specs.Keys.{kept_at}
use Rattle.cep_engine.specs.State.{State, StandsFor}
use Rattle.watermark_order.specs.Order.{OrderState, order_of}
use Rattle.event_pipeline.specs.declared.outputs.TellFault.{TellFault}
use Rattle.event_pipeline.specs.Told.{Told, late_told, item_told, told_of}
use Rattle.event_pipeline.specs.Telling.{AreTold, StopsAmong}

-- the kept items of more ticks, tick by tick
abbrev pub kept_more : Plan → List Tick → List Tick → List Item
kept_more plan before [] = []
kept_more plan before (tick ∷ more) = kept_at plan before tick ++ kept_more plan (before ++ tick ∷ []) more

-- what more ticks make known
abbrev pub told_more : Plan → List Tick → List Tick → List Told
told_more plan before more = map item_told (kept_more plan before more)

-- what an event makes known by its arrival
abbrev pub told_late : List Arrival → Event → List Told
told_late arrivals event = map late_told (option_to_list (if is_late arrivals event then Some event.row else None))

-- the engine took these ticks behind others, and their kept items were told
pub record HasTaken {S : Type 0} (tells : S → S → Told → Type 0) (plan : Plan) (before more : List Tick) (now : State) (a b : S) : Type 0 where
  pub stands : StandsFor (before ++ more) now
  pub told : AreTold tells a b (told_more plan before more)

-- it did, or telling stopped among them
abbrev pub Takes : {S T : Type 0} → (S → S → Told → Type 0) → (TellFault → S → S → Told → Type 0)
    → Plan → List Tick → List Tick → State → S → S
    → Result T TellFault → Type 0
Takes tells stops plan before more now a b (Ok done) = HasTaken tells plan before more now a b
Takes tells stops plan before more now a b (Err fault) = StopsAmong tells stops fault a b (told_more plan before more)

-- these arrivals came behind others: the order stands for them all, and the engine took their ticks
pub record HasMet {S : Type 0} (tells : S → S → Told → Type 0) (plan : Plan) (lag : Option ℕ) (before more : List Arrival) (ticks : List Tick)
    (order : OrderState) (now : State) (a b : S) : Type 0 where
  pub order_is : order ≡ order_of lag (before ++ more)
  pub taken : HasTaken tells plan ticks (ticks_after before more) now a b

abbrev pub Meets : {S T : Type 0} → (S → S → Told → Type 0) → (TellFault → S → S → Told → Type 0)
    → Plan → Option ℕ → List Arrival → List Arrival → List Tick
    → OrderState → State → S → S → Result T TellFault → Type 0
Meets tells stops plan lag before more ticks order now a b (Ok done) = HasMet tells plan lag before more ticks order now a b
Meets tells stops plan lag before more ticks order now a b (Err fault) = StopsAmong tells stops fault a b (told_more plan ticks (ticks_after before more))

-- a record came behind others: the order and the engine stand for all, and what the record makes known was told
pub record HasGone {S : Type 0} (tells : S → S → Told → Type 0) (plan : Plan) (lag : Option ℕ) (records : List LineRecord) (next : LineRecord)
    (order : OrderState) (now : State) (a b : S) : Type 0 where
  pub order_is : order ≡ order_of lag (arrivals_of lag (records ++ next ∷ []))
  pub stands : StandsFor (ticks_of lag (records ++ next ∷ [])) now
  pub told : AreTold tells a b (told_of lag plan records next)

abbrev pub Goes : {S T : Type 0} → (S → S → Told → Type 0) → (TellFault → S → S → Told → Type 0)
    → Plan → Option ℕ → List LineRecord → LineRecord → OrderState
    → State → S → S → Result T TellFault → Type 0
Goes tells stops plan lag records next order now a b (Ok done) = HasGone tells plan lag records next order now a b
Goes tells stops plan lag records next order now a b (Err fault) = StopsAmong tells stops fault a b (told_of lag plan records next)
