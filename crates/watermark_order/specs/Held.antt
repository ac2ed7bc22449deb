-- How the waiting events are held: a queue of those that came in order, and an ordered map of the others. This way of holding them is this project's own.
use Rattle.std.specs.Prelude.{◌≡◌, ℕ, ℤ, int_le, Bool, true, false, not, if◌then◌else◌, List, [], ◌∷◌, ◌++◌, Option, Some, None}
use Rattle.std.specs.List.{AllByRecursion}
use Rattle.std.specs.Map.{values_of}
use Rattle.cep_event.specs.declared.event.Event.{Event}
use Rattle.cep_event.specs.declared.record.Moment.{Moment}
use Rattle.cep_plan.specs.EventTime.{in_time_order}
use Rattle.watermark_order.specs.Sooner.{is_sooner, IsUpward}
use Rattle.watermark_order.specs.Reached.{is_reached}
use Rattle.watermark_order.specs.declared.waiting.Waiting.TheInside.{Inside}

-- what an event is found by
abbrev pub key_of : Event → ℤ × ℕ
key_of event = (event.ts, event.row)

-- the waiting events, by time and then by row
abbrev pub events_held : Inside → List Event
events_held waiting = in_time_order (waiting.queue.items ++ values_of waiting.aside.entries)

-- an event stands under its time and row
abbrev pub IsKeyed : (ℤ × ℕ) × Event → Type 0
IsKeyed entry = entry.0 ≡ key_of entry.1

-- both the queue and the map are in order, and each event of the map stands under its time and row
pub record IsHeld (waiting : Inside) : Type 0 where
  pub queue_upward : IsUpward waiting.queue.items
  pub aside_upward : IsUpward (values_of waiting.aside.entries)
  pub keyed : AllByRecursion IsKeyed waiting.aside.entries

-- the time isn't below that of the last event
abbrev pub is_behind : List Event → ℤ → Bool
is_behind [] time = true
is_behind (last ∷ []) time = int_le last.ts time
is_behind (first ∷ second ∷ later) time = is_behind (second ∷ later) time

-- the first event of all is the first of these, and not of those
abbrev pub is_first_here : List Event → List Event → Bool
is_first_here [] those = false
is_first_here (event ∷ these) [] = true
is_first_here (event ∷ these) (other ∷ those) = not (is_sooner other event)

-- the first event, if the mark has reached it
abbrev pub first_reached : Option Moment → List Event → Option Event
first_reached mark [] = None
first_reached mark (event ∷ events) = if is_reached mark event.ts then Some event else None
