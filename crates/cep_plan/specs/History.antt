-- The items of ticks: first the partial matches that time out, then the matches that close at their limit, then the matches that the event completes.
-- Timed-out partial matches and matches that close are as in the FlinkCEP chapter of the Flink manual; the exact bound and the order are this
-- project's own.
use Rattle.std.specs.Prelude.{ℕ, ◌+◌, Bool, false, not, ◌&&◌, ◌==◌, List, [], ◌∷◌, ◌++◌, length, map, filter, Option}
use Rattle.std.specs.Option.{option_map_or}
use Rattle.cep_event.specs.declared.event.Event.{Event}
use Rattle.cep_event.specs.declared.record.Moment.{Moment}
use Rattle.cep_plan.specs.declared.plan.Plan.{Plan}
use Rattle.cep_plan.specs.declared.item.Item.{Item}
use Rattle.cep_plan.specs.declared.item.Item.TheVariants.{Match, Timeout}
use Rattle.cep_plan.specs.Entry.{Entry, taken_of, last_entry, stages_of}
use Rattle.cep_plan.specs.Follow.{end_stage, is_full}
use Rattle.cep_plan.specs.Limit.{limit_of, is_due}
use Rattle.cep_plan.specs.Partial.{is_partial, is_complete, is_open_for, is_live}
use Rattle.cep_plan.specs.Rising.{rising_lists}
use Rattle.cep_plan.specs.Tick.{Tick, event_tick, mark_tick, time_of, events_of, last_time}

-- all lists over the first events, in the order of lists
abbrev pub lists_within : Plan → ℕ → List (List Entry)
lists_within plan count = rising_lists (length plan.stages) 0 count

-- The live lists that aren't full and don't wait for the end, and whose time limit is reached now and wasn't before. A list that is itself a match
-- isn't told as a timeout.
abbrev pub timeouts_at : Plan → List Event → Option Moment → Moment → List (List Entry)
timeouts_at plan events before now =
    filter (λ list. is_due (limit_of plan (taken_of events list)) before now && is_live plan events list && not (is_full plan (stages_of list))
    && not (is_open_for plan events list (end_stage plan)))
    (lists_within plan (length events))

-- The partial matches that wait for the end, and whose time limit is reached now and wasn't before.
abbrev pub closed_at : Plan → List Event → Option Moment → Moment → List (List Entry)
closed_at plan events before now =
    filter (λ list. is_due (limit_of plan (taken_of events list)) before now && is_partial plan events list
    && is_open_for plan events list (end_stage plan)) (lists_within plan (length events))

-- the items of the lists whose time limit is reached
abbrev pub due_items : Plan → List Event → Option Moment → Moment → List Item
due_items plan events before now =
    map (λ list. Timeout (taken_of events list)) (timeouts_at plan events before now)
    ++ map (λ list. Match (taken_of events list)) (closed_at plan events before now)

-- the list's last position is this one
abbrev pub ends_at : ℕ → List Entry → Bool
ends_at position list = option_map_or (λ last. last.position == position) (last_entry list) false

-- the complete lists whose last event is this one, which comes after the others
abbrev pub matches_at : Plan → List Event → Event → List (List Entry)
matches_at plan events event = filter (λ list. ends_at (length events) list && is_complete plan (events ++ event ∷ []) list)
    (lists_within plan (length events + 1))

-- the items of a tick, from the events before it and the time of the tick before it
abbrev pub items_from : Plan → List Event → Option Moment → Tick → List Item
items_from plan events before (event_tick event) =
    due_items plan events before (time_of (event_tick event))
    ++ map (λ list. Match (taken_of (events ++ event ∷ []) list)) (matches_at plan events event)
items_from plan events before (mark_tick moment) = due_items plan events before moment

-- the items of a tick that comes after others
unfoldable pub items_at : Plan → List Tick → Tick → List Item
items_at plan before tick = items_from plan (events_of before) (last_time before) tick

abbrev pub history_after : Plan → List Tick → List Tick → List Item
history_after plan before [] = []
history_after plan before (tick ∷ later) = items_at plan before tick ++ history_after plan (before ++ tick ∷ []) later

-- the items of ticks, in order
unfoldable pub history : Plan → List Tick → List Item
history plan ticks = history_after plan [] ticks
