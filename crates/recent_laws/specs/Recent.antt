-- The recent ticks of ticks: the events from the oldest start that is still living, key by key, and the marks behind one of them. These rules are this
-- project's own.
use Rattle.std.specs.Prelude.{ℕ, Bool, false, nat_le, nat_lt, if◌then◌else◌, List, [], ◌∷◌, ◌++◌, length, fold, filter_map, Option, Some, None, option_map, slice_get}
use Rattle.std.specs.Option.{option_map_or}
use Rattle.cep_event.specs.declared.event.Event.{Event}
use Rattle.cep_event.specs.declared.value.Value.{Value}
use Rattle.cep_plan.specs.declared.plan.Plan.{Plan}
use Rattle.cep_plan.specs.Entry.{Entry}
use Rattle.cep_plan.specs.Tick.{Tick, event_tick, mark_tick, events_of}
use Rattle.cep_plan.specs.Living.{living}
use Rattle.cep_plan.specs.Keys.{key_of, ticks_of_key}

-- where a list starts
abbrev pub start_in : List Entry → Option ℕ
start_in list = option_map (λ e. e.position) (slice_get list 0)

abbrev pub least : List ℕ → Option ℕ
least [] = None
least (x ∷ xs) = Some (fold (λ a b. if nat_lt b a then b else a) x xs)

-- the least start of a list that is living after the ticks, if there is one
abbrev pub oldest : Plan → List Tick → Option ℕ
oldest plan ticks = least (filter_map start_in (living plan ticks))

-- where an event with this key stands among those of its key, if it comes after the ticks
abbrev pub place_after : Plan → List Tick → Option Value → ℕ
place_after plan before key = length (events_of (ticks_of_key plan key before))

-- An event that comes after the others is recent after all of the ticks: it stands at the oldest start of its key or behind it.
abbrev pub is_recent : Plan → List Tick → List Tick → Event → Bool
is_recent plan all before event =
    option_map_or (λ start. nat_le start (place_after plan before (key_of plan event))) (oldest plan (ticks_of_key plan (key_of plan event) all)) false

-- the ticks without the events that aren't recent after all of them
abbrev pub recent_events : Plan → List Tick → List Tick → List Tick → List Tick
recent_events plan all before [] = []
recent_events plan all before (event_tick event ∷ later) =
    if is_recent plan all before event then event_tick event ∷ recent_events plan all (before ++ event_tick event ∷ []) later else recent_events plan all
    (before ++ event_tick event ∷ []) later
recent_events plan all before (mark_tick moment ∷ later) = mark_tick moment ∷ recent_events plan all (before ++ mark_tick moment ∷ []) later

-- the ticks from the first event on
abbrev pub from_event : List Tick → List Tick
from_event [] = []
from_event (event_tick event ∷ later) = event_tick event ∷ later
from_event (mark_tick moment ∷ later) = from_event later

-- The recent ticks: the recent events, and the marks that stand behind one of them.
unfoldable pub recent : Plan → List Tick → List Tick
recent plan ticks = from_event (recent_events plan ticks [] ticks)
