-- At which tick a match is given, told by the match alone: no other list is asked about. (This project's own.)
use Rattle.std.specs.Prelude.{ℕ, ◌+◌, ◌≡◌, Bool, true, false, ◌&&◌, nat_lt, if◌then◌else◌, List, [], ◌∷◌, ◌++◌, length, Option, Some, ◌⊎◌}
use Rattle.std.specs.List.{list_any}
use Rattle.std.specs.Option.{option_map_or}
use Rattle.cep_event.specs.declared.event.Event.{Event}
use Rattle.cep_event.specs.declared.record.Moment.TheVariants.{End}
use Rattle.cep_event.specs.declared.value.Value.{Value}
use Rattle.cep_plan.specs.declared.plan.Plan.{Plan}
use Rattle.cep_plan.specs.Entry.{Entry, taken_of, last_entry, stages_of}
use Rattle.cep_plan.specs.Follow.{is_full}
use Rattle.cep_plan.specs.Limit.{limit_of, is_due}
use Rattle.cep_plan.specs.Partial.{is_match}
use Rattle.cep_plan.specs.Tick.{Tick, event_tick, mark_tick, time_of, events_of, last_time}
use Rattle.cep_plan.specs.History.{ends_at, items_at}
use Rattle.cep_plan.specs.Keys.{is_of_key, ticks_of_key}
use Rattle.recent_laws.specs.Law.{NeverFall}
use Rattle.judged_rows.specs.Place.{is_match_of, tick_after}

-- the tick is the event at which the list ends, where so many events came before it
abbrev pub is_end_of : List Entry → ℕ → Tick → Bool
is_end_of list count (event_tick event) = ends_at count list
is_end_of list count (mark_tick moment) = false

-- the list ends below the position
abbrev pub ends_below : ℕ → List Entry → Bool
ends_below count list = option_map_or (λ last. nat_lt last.position count) (last_entry list) false

-- The tick gives the list, which is a match of the events. A full list is given by its last event's tick, and another by the tick that is the first
-- to reach its limit, where all its events came before.
abbrev pub is_given : Plan → List Event → List Entry → List Tick → Tick → Bool
is_given plan events list before tick =
    if is_full plan (stages_of list) then is_end_of list (length (events_of before)) tick
    else (ends_below (length (events_of before)) list && is_due (limit_of plan (taken_of events list)) (last_time before) (time_of tick))

-- how many ticks come before the first one of the key's that gives the list, which is a match of the key's events
abbrev pub given_after : Plan → Option Value → List Event → List Entry → List Tick → List Tick → ℕ
given_after plan key events list before [] = 0
given_after plan key events list before (tick ∷ later) =
    if is_of_key plan key tick && is_given plan events list (ticks_of_key plan key before) tick then 0
    else given_after plan key events list (before ++ tick ∷ []) later + 1

-- Where times don't fall, a match of the events of all ticks is among what a tick gives just where the test says so.
abbrev pub GivesJust : Type 0
GivesJust = (plan : Plan) (before : List Tick) (tick : Tick) (later : List Tick) → NeverFall [] (before ++ tick ∷ later)
    → (list : List Entry) → is_match plan (events_of (before ++ tick ∷ later)) list ≡ true
    → list_any (is_match_of list) (items_at plan before tick) ≡ is_given plan (events_of (before ++ tick ∷ later)) list before tick

-- Where times don't fall, the place of a match of a key's events is found by the test.
abbrev pub FoundAfter : Type 0
FoundAfter = (plan : Plan) (key : Option Value) (ticks : List Tick) → NeverFall [] ticks
    → (list : List Entry) → is_match plan (events_of (ticks_of_key plan key ticks)) list ≡ true
    → tick_after plan key list [] ticks ≡ given_after plan key (events_of (ticks_of_key plan key ticks)) list [] ticks

-- Where times don't fall, no two ticks give a list.
abbrev pub GivenOnce : Type 0
GivenOnce = (plan : Plan) (before : List Tick) (tick : Tick) (between : List Tick) (again : Tick)
    → NeverFall [] (before ++ tick ∷ between ++ again ∷ []) → (events : List Event) (list : List Entry)
    → is_given plan events list before tick ≡ true → is_given plan events list (before ++ tick ∷ between) again ≡ false

-- one of the ticks gives the list
abbrev pub IsGivenIn : Plan → List Event → List Entry → List Tick → List Tick → Type 0
IsGivenIn plan events list before [] = ⊥
IsGivenIn plan events list before (tick ∷ later) =
    (is_given plan events list before tick ≡ true) ⊎ IsGivenIn plan events list (before ++ tick ∷ []) later

-- Where the limit between neighbours isn't 0, some tick gives each match: the end does where no other has.
abbrev pub GivenByEnd : Type 0
GivenByEnd = (plan : Plan) (ticks : List Tick) → (plan.within_gap ≡ Some 0 → ⊥) → (list : List Entry) → is_match plan (events_of ticks) list ≡ true
    → IsGivenIn plan (events_of ticks) list [] (ticks ++ mark_tick End ∷ [])
