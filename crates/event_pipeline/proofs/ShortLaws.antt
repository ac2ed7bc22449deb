-- Items are short: each has one entry for an event at most.
use Rattle.std.proofs.Common.{◌≡◌, sym, ◌∙◌, ap, subst, ℕ, zero, suc, ◌+◌, ◌-◌, ◌≤◌, ◌<◌, ◌^◌, append-nil, arith, List, [], ◌∷◌, ◌++◌, length, length-append, map, drop, append_assoc, Option}
use Rattle.std.specs.Prelude.{All, not, ◌&&◌, length}
use Rattle.std.specs.List.{AllByRecursion as Each}
use Rattle.std.proofs.lemmas.List.{length-map}
use Rattle.std.proofs.lemmas.List.Elements.{All-from_recursion, filter_map-append}
use Rattle.cep_event.specs.declared.event.Event.{Event}
use Rattle.cep_event.specs.declared.record.Moment.{Moment}
use Rattle.cep_event.specs.declared.record.Moment.TheVariants.{At}
use Rattle.cep_plan.specs.declared.item.Item.{Item}
use Rattle.cep_plan.specs.declared.item.Item.TheVariants.{Match, Timeout}
use Rattle.cep_plan.specs.declared.plan.Plan.{Plan}
use Rattle.cep_plan.specs.Entry.{Entry, taken_at, taken_of, stages_of}
use Rattle.cep_plan.specs.Follow.{end_stage, is_full}
use Rattle.cep_plan.specs.History.{history, history_after, items_at, lists_within, timeouts_at, closed_at, due_items, matches_at, ends_at}
use Rattle.cep_plan.specs.Limit.{limit_of, is_due}
use Rattle.cep_plan.specs.Partial.{is_partial, is_complete, is_open_for, is_live}
use Rattle.cep_plan.specs.Skipping.{kept, list_in}
use Rattle.cep_plan.specs.Tick.{Tick, event_tick, mark_tick, event_in, events_of, last_time}
use Rattle.cep_plan.proofs.RisingLaws.{Each-append, Each-map, Each-weaker, IsRising, IsRisingList, rising_lists-rising}
use Rattle.cep_engine.proofs.KeptLaws.{kept_after-each}
use Rattle.cep_engine.proofs.OpenLaws.{events_of-event, events_of-mark}
use Rattle.live_laws.proofs.MemberLaws.{Each-filter}
use Rattle.cep_plan.specs.Keys.{kept_at}
use Rattle.cep_engine.specs.State.{State, StandsFor}
use Rattle.event_pipeline.specs.Told.{kept_items, added_items}
use Rattle.event_pipeline.proofs.TickLaws.{added-more}

-- no more entries than 32 bits can count
abbrev IsShort : Item → Type 0
IsShort item = length (list_in item) < 2 ^ 32

-- no more entries than this
abbrev IsAtMost : ℕ → Item → Type 0
IsAtMost n item = length (list_in item) ≤ n

-- ---- one list

-- positions that rise below a number are no more than that number
rising-few : (stages from to : ℕ) (list : List Entry) → from ≤ to → IsRising stages from to list → length list + from ≤ to
rising-few stages from to [] le h = omega (arith, le)
rising-few stages from to (e ∷ list) le h = let rest = rising-few stages (e.position + 1) to list (omega (arith, h.2)) h.3 in omega (arith, rest, h.1)

list-few : (stages count : ℕ) (list : List Entry) → IsRisingList stages 0 count list → length list ≤ count
list-few stages count [] h = absurd h
list-few stages count (e ∷ list) h = let all = rising-few stages 0 count (e ∷ list) (omega arith) h in omega (arith, all)

within-few : (plan : Plan) (count : ℕ) → Each (λ list. length list ≤ count) (lists_within plan count)
within-few plan count =
    Each-weaker (IsRisingList (length plan.stages) 0 count) (λ list. length list ≤ count) (list-few (length plan.stages) count) (lists_within plan count)
    (rising_lists-rising (length plan.stages) 0 count count (omega arith))

-- ---- the items of a tick

taken-few : (events : List Event) (count n : ℕ) (lists : List (List Entry)) → count ≤ n → Each (λ list. length list ≤ count) lists
    → Each (λ list. length (taken_of events list) ≤ n) lists
taken-few events count n lists le h =
    Each-weaker (λ (list : List Entry). length list ≤ count) (λ (list : List Entry). length (taken_of events list) ≤ n)
    (λ list few. omega (arith, length-map list (taken_at events), few, le)) lists h

timeouts-few : (plan : Plan) (events : List Event) (before : Option Moment) (now : Moment) (n : ℕ) → length events ≤ n
    → Each (IsAtMost n) (map (λ list. Timeout (taken_of events list)) (timeouts_at plan events before now))
timeouts-few plan events before now n le =
    Each-map (IsAtMost n) (λ list. Timeout (taken_of events list)) (timeouts_at plan events before now)
    (taken-few events (length events) n (timeouts_at plan events before now) le
    (Each-filter (λ (list : List Entry). length list ≤ length events) (λ list. is_due (limit_of plan (taken_of events list)) before now
    && is_live plan events list && not (is_full plan (stages_of list)) && not (is_open_for plan events list (end_stage plan)))
    (lists_within plan (length events)) (within-few plan (length events))))

closed-few : (plan : Plan) (events : List Event) (before : Option Moment) (now : Moment) (n : ℕ) → length events ≤ n
    → Each (IsAtMost n) (map (λ list. Match (taken_of events list)) (closed_at plan events before now))
closed-few plan events before now n le =
    Each-map (IsAtMost n) (λ list. Match (taken_of events list)) (closed_at plan events before now)
    (taken-few events (length events) n (closed_at plan events before now) le
    (Each-filter (λ (list : List Entry). length list ≤ length events) (λ list. is_due (limit_of plan (taken_of events list)) before now
    && is_partial plan events list && is_open_for plan events list (end_stage plan))
    (lists_within plan (length events)) (within-few plan (length events))))

due-few : (plan : Plan) (events : List Event) (before : Option Moment) (now : Moment) (n : ℕ) → length events ≤ n
    → Each (IsAtMost n) (due_items plan events before now)
due-few plan events before now n le =
    Each-append (IsAtMost n) (map (λ list. Timeout (taken_of events list)) (timeouts_at plan events before now))
    (map (λ list. Match (taken_of events list)) (closed_at plan events before now))
    (timeouts-few plan events before now n le) (closed-few plan events before now n le)

matches-few : (plan : Plan) (events : List Event) (event : Event) (n : ℕ) → length events + 1 ≤ n
    → Each (IsAtMost n) (map (λ list. Match (taken_of (events ++ event ∷ []) list)) (matches_at plan events event))
matches-few plan events event n le =
    Each-map (IsAtMost n) (λ list. Match (taken_of (events ++ event ∷ []) list)) (matches_at plan events event)
    (taken-few (events ++ event ∷ []) (length events + 1) n (matches_at plan events event) le
    (Each-filter (λ (list : List Entry). length list ≤ length events + 1) (λ list. ends_at (length events) list && is_complete plan (events ++ event ∷ []) list)
    (lists_within plan (length events + 1)) (within-few plan (length events + 1))))

items-few : (plan : Plan) (before : List Tick) (tick : Tick) (n : ℕ) → length (events_of (before ++ tick ∷ [])) ≤ n
    → Each (IsAtMost n) (items_at plan before tick)
unfolding items_at
items-few plan before (event_tick event) n few =
    let events = events_of before in
    let size : length events + 1 ≤ n = omega (arith, ap length (events_of-event before event), length-append events (event ∷ []), few) in
    Each-append (IsAtMost n) (due_items plan events (last_time before) (At event.ts))
    (map (λ list. Match (taken_of (events ++ event ∷ []) list)) (matches_at plan events event))
    (due-few plan events (last_time before) (At event.ts) n (omega (arith, size))) (matches-few plan events event n size)
items-few plan before (mark_tick moment) n few =
    due-few plan (events_of before) (last_time before) moment n (omega (arith, ap length (events_of-mark before moment), few))

-- ---- the items of ticks

fewer-events : (xs ys : List Tick) → length (events_of xs) ≤ length (events_of (xs ++ ys))
fewer-events xs ys = omega (arith, ap length (filter_map-append event_in xs ys), length-append (events_of xs) (events_of ys))

history-few : (plan : Plan) (before ticks : List Tick) (n : ℕ) → length (events_of (before ++ ticks)) ≤ n → Each (IsAtMost n) (history_after plan before ticks)
history-few plan before [] n few = tt
history-few plan before (tick ∷ later) n few =
    let whole : length (events_of ((before ++ tick ∷ []) ++ later)) ≤ n = subst (λ l. length (events_of l) ≤ n)
    (sym (append_assoc before (tick ∷ []) later)) few in
    Each-append (IsAtMost n) (items_at plan before tick) (history_after plan (before ++ tick ∷ []) later)
    (items-few plan before tick n (omega (arith, fewer-events (before ++ tick ∷ []) later, whole))) (history-few plan (before ++ tick ∷ []) later n whole)

kept-few : (plan : Plan) (ticks : List Tick) → Each (IsAtMost (length (events_of ticks))) (kept_items plan ticks)
unfolding kept history
kept-few plan ticks =
    kept_after-each (IsAtMost (length (events_of ticks))) plan.skip [] (history_after plan [] ticks)
    (history-few plan [] ticks (length (events_of ticks)) (omega arith))

Each-drop : {X : Type 0} (P : X → Type 0) (i : ℕ) (xs : List X) → Each P xs → Each P (drop i xs)
Each-drop P zero xs h = h
Each-drop P (suc i) [] h = tt
Each-drop P (suc i) (x ∷ xs) h = Each-drop P i xs h.1

-- those that ticks add are short
added-short : (plan : Plan) (before ticks : List Tick) → length (events_of ticks) < 2 ^ 32 → All IsShort (added_items plan before ticks)
added-short plan before ticks few =
    All-from_recursion IsShort (added_items plan before ticks)
    (Each-weaker (IsAtMost (length (events_of ticks))) IsShort (λ item le. omega (arith, le, few)) (added_items plan before ticks)
    (Each-drop (IsAtMost (length (events_of ticks))) (length (kept_items plan before)) (kept_items plan ticks) (kept-few plan ticks)))

pub kept-short : (plan : Plan) (before : List Tick) (tick : Tick) → length (events_of (before ++ tick ∷ [])) < 2 ^ 32
    → All (λ item. length (list_in item) < 2 ^ 32) (kept_at plan before tick)
kept-short plan before tick few =
    subst (All IsShort) (added-more plan before (tick ∷ []) ∙ append-nil (kept_at plan before tick)) (added-short plan before (before ++ tick ∷ []) few)

-- how many events an engine took
pub taken-is : (ticks : List Tick) (state : State) → StandsFor ticks state → state.runs.position ≡ length (events_of ticks)
taken-is ticks state stands = stands.parts.runs.now.stands.counted

pub event-short : (plan : Plan) (ticks : List Tick) (event : Event) (state : State) → StandsFor ticks state → state.runs.position < 2 ^ 32 - 1
    → All (λ item. length (list_in item) < 2 ^ 32) (kept_at plan ticks (event_tick event))
event-short plan ticks event state stands few =
    kept-short plan ticks (event_tick event)
    (omega (arith, taken-is ticks state stands, ap length (events_of-event ticks event), length-append (events_of ticks) (event ∷ []), few))

pub mark-short : (plan : Plan) (ticks : List Tick) (moment : Moment) (state : State) → StandsFor ticks state → state.runs.position < 2 ^ 32
    → All (λ item. length (list_in item) < 2 ^ 32) (kept_at plan ticks (mark_tick moment))
mark-short plan ticks moment state stands few =
    kept-short plan ticks (mark_tick moment) (omega (arith, taken-is ticks state stands, ap length (events_of-mark ticks moment), few))
