-- The judgement of printed matches, one after another. (This project's own.)
use Rattle.std.specs.Prelude.{ℕ, ◌+◌, Bool, true, ◌==◌, if◌then◌else◌, List, [], ◌∷◌, map, Option, Some, None}
use Rattle.std.specs.List.{list_any, list_all, position_or_len}
use Rattle.std.specs.Option.{option_map_or}
use Rattle.std.specs.Ordering.{is_lt}
use Rattle.cep_event.specs.declared.event.Event.{Event}
use Rattle.cep_event.specs.declared.value.Value.{Value}
use Rattle.cep_plan.specs.declared.plan.Plan.{Plan}
use Rattle.cep_plan.specs.Entry.{Entry, event_at}
use Rattle.cep_plan.specs.Partial.{is_match}
use Rattle.cep_plan.specs.Tick.{Tick, events_of}
use Rattle.cep_plan.specs.Keys.{key_of, same_key, ticks_of_key}
use Rattle.judged_rows.specs.Printed.{Shown, Group, shown_in}
use Rattle.judged_rows.specs.Place.{Place, place_cmp, place_of}

-- Why a printed match is refused: it has not the form; a number is not the row of an event; its events have different keys, or are no match; or it
-- does not stand behind the match before it.
pub data Cause : Type 0 where
  not_row : Cause
  no_event : Cause
  not_match : Cause
  not_rising : Cause

pub data Judged : Type 0 where
  passes : Place → Judged
  bad : Cause → Judged

-- the event has the row
abbrev pub has_row : ℕ → Event → Bool
has_row row event = event.row == row

-- every row shown is that of an event
abbrev pub are_events : List Event → List Shown → Bool
are_events events shown = list_all (λ s. list_any (has_row s.row) events) shown

-- the event with a row, and its key
abbrev pub key_shown : Plan → List Event → Shown → Option Value
key_shown plan events s = key_of plan (event_at events (position_or_len (has_row s.row) events))

-- the keys are all the first one
abbrev pub are_one_key : List (Option Value) → Bool
are_one_key [] = true
are_one_key (key ∷ keys) = list_all (same_key key) keys

abbrev pub first_key : List (Option Value) → Option Value
first_key [] = None
first_key (key ∷ _) = key

-- the list that is shown, with the positions among these events
abbrev pub list_shown : List Event → List Shown → List Entry
list_shown events shown = map (λ s. record { stage = s.stage; position = position_or_len (has_row s.row) events }) shown

abbrev pub comes_behind : Option Place → Place → Bool
comes_behind before place = option_map_or (λ b. is_lt (place_cmp b place)) before true

-- A list of one key, with the positions in that key's events: it is a match by the meaning of the pattern, and stands behind the match before it.
abbrev pub judged_place : Option Place → Place → Judged
judged_place before place = if comes_behind before place then passes place else bad not_rising

abbrev pub judged_list : Plan → List Tick → Option Place → Option Value → List Entry → Judged
judged_list plan ticks before key list =
    if is_match plan (events_of (ticks_of_key plan key ticks)) list then judged_place before (place_of plan ticks key list) else bad not_match

abbrev pub judged_keys : Plan → List Tick → Option Place → List Shown → List (Option Value) → Judged
judged_keys plan ticks before shown keys =
    if are_one_key keys then judged_list plan ticks before (first_key keys)
    (list_shown (events_of (ticks_of_key plan (first_key keys) ticks)) shown) else bad not_match

-- What is shown, over all ticks (the end's too) and behind the place of the match before it.
abbrev pub judged_shown : Plan → List Tick → Option Place → Option (List Shown) → Judged
judged_shown plan ticks before None = bad not_row
judged_shown plan ticks before (Some shown) = if are_events (events_of ticks) shown then judged_keys plan ticks before shown
    (map (key_shown plan (events_of ticks)) shown) else bad no_event

-- a printed match, by its groups
unfoldable pub judged : Plan → List Tick → Option Place → List Group → Judged
judged plan ticks before groups = judged_shown plan ticks before (shown_in plan groups)

-- The first printed match that is refused, by its number among them, and why; nothing where all pass.
abbrev pub refused_at : Judged → ℕ → (Option Place → Option (ℕ × Cause)) → Option (ℕ × Cause)
refused_at (bad cause) number later = Some (number, cause)
refused_at (passes place) number later = later (Some place)

abbrev pub refused_from : Plan → List Tick → ℕ → List (List Group) → Option Place → Option (ℕ × Cause)
refused_from plan ticks number [] before = None
refused_from plan ticks number (groups ∷ later) before = refused_at (judged plan ticks before groups) number (refused_from plan ticks (number + 1) later)

unfoldable pub first_refused : Plan → List Tick → List (List Group) → Option (ℕ × Cause)
first_refused plan ticks printed = refused_from plan ticks 0 printed None
