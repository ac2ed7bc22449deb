-- What the parts of an engine stand for after some ticks. (This project's own; the items are those of the history.)
use Rattle.std.specs.Prelude.{ℕ, ℤ, ◌<◌, ◌≡◌, ⊤, true, List, [], length, Option, Some, None, IfSome}
use Rattle.std.specs.List.{AllByRecursion as Each}
use Rattle.cep_event.specs.declared.event.Event.{Event}
use Rattle.cep_event.specs.declared.record.Moment.{Moment}
use Rattle.cep_event.specs.declared.record.Moment.TheVariants.{At}
use Rattle.cep_event.specs.Moment.{has_reached}
use Rattle.cep_plan.specs.declared.plan.Plan.{Plan}
use Rattle.cep_plan.specs.declared.item.Item.{Item}
use Rattle.cep_plan.specs.declared.item.Item.TheVariants.{Match, Timeout}
use Rattle.cep_plan.specs.Keys.{kept_of}
use Rattle.cep_plan.specs.Tick.{Tick, events_of, last_time}
use Rattle.live_laws.specs.Starts.{open_scope}
use Rattle.shared_buffer.specs.Content.{Content as BufferContent}
use Rattle.run_step.specs.Content.{Content}
use Rattle.time_limit.specs.Limits.{Kept}
use Rattle.due_laws.specs.Due.{saved_for}
use Rattle.cep_engine.specs.Running.{RunsStand}

-- the events of each match stand before the position
abbrev pub IsBelow : ℕ → Item → Type 0
IsBelow position (Match list) = Each (λ t. t.position < position) list
IsBelow position (Timeout list) = ⊤

abbrev pub AreBelow : ℕ → List Item → Type 0
AreBelow position items = Each (IsBelow position) items

-- The runs, the buffer and the limits stand for the events, the kept items and the last time: the runs are those of the live lists that are open, the
-- buffer holds their lists alone, and the limits hold the open starts and the open last positions. Before the first tick there is no event.
pub record PartsAre (plan : Plan) (events : List Event) (items : List Item) (last : Option Moment) (content : Content) (buffer : BufferContent)
    (saved : Kept) : Type 0 where
  pub runs : RunsStand plan events (open_scope plan events items last) content buffer
  pub limits : saved ≡ saved_for plan events (open_scope plan events items last)
  pub below : AreBelow (length events) items
  pub first : last ≡ None → events ≡ []

-- the parts stand for the ticks
abbrev pub PartsStand : Plan → List Tick → Content → BufferContent → Kept → Type 0
PartsStand plan ticks content buffer saved = PartsAre plan (events_of ticks) (kept_of plan ticks) (last_time ticks) content buffer saved

-- the moment isn't before this one
abbrev pub IsLater : Option Moment → Moment → Type 0
IsLater last now = IfSome last (λ earlier. (t : ℤ) → has_reached earlier t ≡ true → has_reached now t ≡ true)

-- the moment isn't before that of the last tick
abbrev pub ComesLater : List Tick → Moment → Type 0
ComesLater ticks now = IsLater (last_time ticks) now

-- the parts stand for some events, kept items and last time
pub record PartsAreSome (plan : Plan) (content : Content) (buffer : BufferContent) (saved : Kept) : Type 0 where
  pub events : List Event
  pub items : List Item
  pub last : Option Moment
  pub parts : PartsAre plan events items last content buffer saved

-- the same, and the last time is that of the event
pub record CanTakeNext (plan : Plan) (event : Event) (content : Content) (buffer : BufferContent) (saved : Kept) : Type 0 where
  pub events : List Event
  pub items : List Item
  pub parts : PartsAre plan events items (Some (At event.ts)) content buffer saved

-- the parts stand for some ticks, and the event's time isn't before that of the last one
pub record CanTakeEvent (plan : Plan) (event : Event) (content : Content) (buffer : BufferContent) (saved : Kept) : Type 0 where
  pub ticks : List Tick
  pub parts : PartsStand plan ticks content buffer saved
  pub later : ComesLater ticks (At event.ts)
