-- Partial matches, matches, and lists that may still grow. Matching is as in the FlinkCEP chapter of the Flink manual.
-- A list is judged as a whole, by the events up to its last one: events that come later change nothing of it. Where a negation closes the pattern, a
-- match is judged by the events below its limit too.
use Rattle.std.specs.Prelude.{ℕ, ◌+◌, ℤ, Bool, true, false, ◌&&◌, ◌||◌, nat_lt, List, [], ◌∷◌, ◌++◌, length, count_by, Some}
use Rattle.std.specs.List.{list_any, range_with_len}
use Rattle.std.specs.Option.{option_map_or}
use Rattle.cep_event.specs.declared.event.Event.{Event}
use Rattle.cep_plan.specs.declared.plan.Plan.{Plan}
use Rattle.cep_plan.specs.Entry.{Entry, event_at, taken_of, last_entry, stages_of}
use Rattle.cep_plan.specs.Follow.{end_stage, may_follow, is_full}
use Rattle.cep_plan.specs.Candidate.{fits}
use Rattle.cep_plan.specs.Gap.{gap_holds}
use Rattle.cep_plan.specs.Limit.{limit_of, is_below_limit, are_in_time}

-- the position is that of an event, and above the last position of the list
abbrev pub comes_later : List Event → List Entry → ℕ → Bool
comes_later events list position = nat_lt position (length events) && option_map_or (λ last. nat_lt last.position position) (last_entry list) true

-- The entry may come next after the list: its stage may follow, its event comes later and fits, and the gap before it holds.
abbrev pub extends : Plan → List Event → List Entry → Entry → Bool
extends plan events list next =
    may_follow plan (stages_of list) next.stage && comes_later events list next.position
    && fits plan (taken_of events list) next.stage (event_at events next.position) next.position && gap_holds plan events list next.stage next.position

-- each of the entries may come next after those before it
abbrev pub extends_all : Plan → List Event → List Entry → List Entry → Bool
extends_all plan events list [] = true
extends_all plan events list (next ∷ later) = extends plan events list next && extends_all plan events (list ++ next ∷ []) later

-- The list may grow: each entry may come next after those before it, and all events are below the time limit that the first one sets. So it is with
-- the empty list and with the partial matches.
unfoldable pub may_grow : Plan → List Event → List Entry → Bool
may_grow plan events list = extends_all plan events [] list && are_in_time plan (taken_of events list)

abbrev pub has_entries : List Entry → Bool
has_entries [] = false
has_entries (_ ∷ _) = true

-- A partial match is a list that may grow and isn't empty.
unfoldable pub is_partial : Plan → List Event → List Entry → Bool
is_partial plan events list = has_entries list && may_grow plan events list

-- A complete list is a partial match that is full.
unfoldable pub is_complete : Plan → List Event → List Entry → Bool
is_complete plan events list = is_partial plan events list && is_full plan (stages_of list)

-- how many of the events come before the limit
abbrev pub count_before : List Event → ℤ → ℕ
count_before events limit = count_by (λ event. is_below_limit (Some limit) event.ts) events

-- The list closes: the end stage may follow, the list has a limit, and the gap holds up to the first event that isn't below it.
abbrev pub closes : Plan → List Event → List Entry → Bool
closes plan events list =
    may_follow plan (stages_of list) (end_stage plan)
    && option_map_or (λ limit. gap_holds plan events list (end_stage plan) (count_before events limit)) (limit_of plan (taken_of events list)) false

-- A match is a partial match that is full or closes.
unfoldable pub is_match : Plan → List Event → List Entry → Bool
is_match plan events list = is_partial plan events list && (is_full plan (stages_of list) || closes plan events list)

-- After the events the list is open for the stage, which may be the end stage: the stage may follow, and the gap has held so far.
abbrev pub is_open_for : Plan → List Event → List Entry → ℕ → Bool
is_open_for plan events list stage = may_follow plan (stages_of list) stage && gap_holds plan events list stage (length events)

-- After the events the list waits for the stage: it may grow, and is open for the stage.
unfoldable pub waits : Plan → List Event → List Entry → ℕ → Bool
waits plan events list stage = may_grow plan events list && is_open_for plan events list stage

-- After the events the list is live: it is a partial match and waits for some stage, the end stage among them.
unfoldable pub is_live : Plan → List Event → List Entry → Bool
is_live plan events list = is_partial plan events list && list_any (is_open_for plan events list) (range_with_len 0 (end_stage plan + 1))
