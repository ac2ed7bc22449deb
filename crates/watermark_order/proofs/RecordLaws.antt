-- One more record of the input: what arrives then, and which ticks that gives.
use Rattle.std.proofs.Common.{◌≡◌, refl, sym, ◌∙◌, ap, ℕ, ℤ, Bool, true, false, List, [], ◌∷◌, ◌++◌, map, append_assoc}
use Rattle.std.specs.Prelude.{if◌then◌else◌, Option, Some, None}
use Rattle.std.proofs.lemmas.List.{append-nil, map-append}
use Rattle.std.proofs.lemmas.List.Elements.{filter_map-append}
use Rattle.cep_event.specs.declared.event.Event.{Event}
use Rattle.cep_event.specs.declared.record.Moment.TheVariants.{At, End}
use Rattle.cep_event.specs.declared.record.LineRecord.{LineRecord}
use Rattle.cep_event.specs.declared.record.LineRecord.TheVariants.{Blank, Mark, Row}
use Rattle.cep_plan.specs.EventTime.{Arrival, arrived, marked, event_arrived, events_among, greatest_from, lag_mark, marks_behind, arrivals_after, arrivals_of, rises, released, ticks_of_mark, ticks_of_arrival, ticks_after, ticks_of, ticks_of_end}
use Rattle.cep_plan.specs.Tick.{event_tick, mark_tick}
use Rattle.watermark_order.specs.Order.{event_times}
use Rattle.watermark_order.proofs.MarkLaws.{greatest-moved}

-- ---- what arrives

-- the times of the events after these records, the latest first
times_after : List ℤ → List LineRecord → List ℤ
times_after earlier [] = earlier
times_after earlier (Blank ∷ records) = times_after earlier records
times_after earlier (Mark time ∷ records) = times_after earlier records
times_after earlier (Row event ∷ records) = times_after (event.ts ∷ earlier) records

arrivals_after-append : (lag : Option ℕ) (earlier : List ℤ) (records more : List LineRecord)
    → arrivals_after lag earlier (records ++ more) ≡ arrivals_after lag earlier records ++ arrivals_after lag (times_after earlier records) more
unfolding times_after
arrivals_after-append lag earlier [] more = refl
arrivals_after-append lag earlier (Blank ∷ records) more = arrivals_after-append lag earlier records more
arrivals_after-append lag earlier (Mark time ∷ records) more = ap (λ l. marked time ∷ l) (arrivals_after-append lag earlier records more)
arrivals_after-append lag earlier (Row event ∷ records) more =
    ap (λ l. (arrived event ∷ marks_behind lag earlier event.ts) ++ l) (arrivals_after-append lag (event.ts ∷ earlier) records more)
    ∙ sym (append_assoc (arrived event ∷ marks_behind lag earlier event.ts) (arrivals_after lag (event.ts ∷ earlier) records)
    (arrivals_after lag (times_after (event.ts ∷ earlier) records) more))

event_times-append : (xs ys : List Arrival) → event_times (xs ++ ys) ≡ event_times xs ++ event_times ys
event_times-append xs ys =
    ap (map (λ (e : Event). e.ts)) (filter_map-append event_arrived xs ys) ∙ map-append (λ (e : Event). e.ts) (events_among xs) (events_among ys)

no_times : (lag : Option ℕ) (earlier : List ℤ) (time : ℤ) → event_times (marks_behind lag earlier time) ≡ []
no_times None earlier time = refl
no_times (Some lag) earlier time = of_mark lag (greatest_from time earlier) where
  chosen : (b : Bool) (t : ℤ) → event_times (if b then marked t ∷ [] else []) ≡ []
  chosen true t = refl
  chosen false t = refl

  of_mark : (lag : ℕ) (greatest : ℤ) → event_times (lag_mark lag greatest) ≡ []
  of_mark lag greatest = chosen _ _

-- the greatest of these times is that of the events that arrived, in whatever order
greatest_after : (lag : Option ℕ) (time : ℤ) (earlier : List ℤ) (records : List LineRecord)
    → greatest_from time (times_after earlier records) ≡ greatest_from time (event_times (arrivals_after lag earlier records) ++ earlier)
unfolding times_after
greatest_after lag time earlier [] = refl
greatest_after lag time earlier (Blank ∷ records) = greatest_after lag time earlier records
greatest_after lag time earlier (Mark t ∷ records) = greatest_after lag time earlier records
greatest_after lag time earlier (Row event ∷ records) =
    let later = event_times (arrivals_after lag (event.ts ∷ earlier) records) in
    let all : event_times (arrivals_after lag earlier (Row event ∷ records)) ≡ event.ts ∷ later =
    ap (λ l. event.ts ∷ l) (event_times-append (marks_behind lag earlier event.ts) (arrivals_after lag (event.ts ∷ earlier) records)
    ∙ ap (λ l. l ++ later) (no_times lag earlier event.ts)) in
    greatest_after lag time (event.ts ∷ earlier) records
    ∙ greatest-moved time event.ts later earlier
    ∙ ap (λ l. greatest_from time (l ++ earlier)) (sym all)

marks_by_greatest : (lag : Option ℕ) (xs ys : List ℤ) (time : ℤ) → greatest_from time xs ≡ greatest_from time ys
    → marks_behind lag xs time ≡ marks_behind lag ys time
marks_by_greatest None xs ys time same = refl
marks_by_greatest (Some lag) xs ys time same = ap (lag_mark lag) same

-- a blank line brings nothing
pub arrivals_of-blank : (lag : Option ℕ) (records : List LineRecord) → arrivals_of lag (records ++ Blank ∷ []) ≡ arrivals_of lag records
arrivals_of-blank lag records = arrivals_after-append lag [] records (Blank ∷ []) ∙ append-nil (arrivals_of lag records)

-- a mark brings itself
pub arrivals_of-mark : (lag : Option ℕ) (records : List LineRecord) (time : ℤ)
    → arrivals_of lag (records ++ Mark time ∷ []) ≡ arrivals_of lag records ++ marked time ∷ []
arrivals_of-mark lag records time = arrivals_after-append lag [] records (Mark time ∷ [])

-- a row brings its event, and behind it what the lag adds
pub arrivals_of-row : (lag : Option ℕ) (records : List LineRecord) (event : Event)
    → arrivals_of lag (records ++ Row event ∷ []) ≡ arrivals_of lag records ++ arrived event ∷ marks_behind lag (event_times (arrivals_of lag records)) event.ts
arrivals_of-row lag records event =
    let same : greatest_from event.ts (times_after [] records) ≡ greatest_from event.ts (event_times (arrivals_of lag records)) =
    greatest_after lag event.ts [] records ∙ ap (greatest_from event.ts) (append-nil (event_times (arrivals_of lag records))) in
    arrivals_after-append lag [] records (Row event ∷ [])
    ∙ ap (λ l. arrivals_of lag records ++ arrived event ∷ l)
    (append-nil (marks_behind lag (times_after [] records) event.ts)
    ∙ marks_by_greatest lag (times_after [] records) (event_times (arrivals_of lag records)) event.ts same)

-- ---- which ticks that gives

ticks_after-append : (before xs ys : List Arrival) → ticks_after before (xs ++ ys) ≡ ticks_after before xs ++ ticks_after (before ++ xs) ys
ticks_after-append before [] ys = ap (λ b. ticks_after b ys) (sym (append-nil before))
ticks_after-append before (x ∷ xs) ys =
    ap (λ r. ticks_of_arrival before x ++ r)
    (ticks_after-append (before ++ x ∷ []) xs ys ∙ ap (λ b. ticks_after (before ++ x ∷ []) xs ++ ticks_after b ys) (append_assoc before (x ∷ []) xs))
    ∙ sym (append_assoc (ticks_of_arrival before x) (ticks_after (before ++ x ∷ []) xs) (ticks_after (before ++ x ∷ xs) ys))

pub ticks_of-blank : (lag : Option ℕ) (records : List LineRecord) → ticks_of lag (records ++ Blank ∷ []) ≡ ticks_of lag records
unfolding ticks_of
ticks_of-blank lag records = ap (ticks_after []) (arrivals_of-blank lag records)

pub ticks_of-mark : (lag : Option ℕ) (records : List LineRecord) (time : ℤ)
    → ticks_of lag (records ++ Mark time ∷ []) ≡ ticks_of lag records ++ ticks_of_arrival (arrivals_of lag records) (marked time)
unfolding ticks_of
ticks_of-mark lag records time =
    ap (ticks_after []) (arrivals_of-mark lag records time)
    ∙ ticks_after-append [] (arrivals_of lag records) (marked time ∷ [])
    ∙ ap (λ l. ticks_of lag records ++ l) (append-nil (ticks_of_arrival (arrivals_of lag records) (marked time)))

-- an event gives no tick, and the mark that the lag adds behind it gives those of a mark
pub ticks_of-row : (lag : Option ℕ) (records : List LineRecord) (event : Event)
    → ticks_of lag (records ++ Row event ∷ [])
    ≡ ticks_of lag records ++ ticks_after (arrivals_of lag records ++ arrived event ∷ []) (marks_behind lag (event_times (arrivals_of lag records)) event.ts)
unfolding ticks_of
ticks_of-row lag records event =
    ap (ticks_after []) (arrivals_of-row lag records event)
    ∙ ticks_after-append [] (arrivals_of lag records) (arrived event ∷ marks_behind lag (event_times (arrivals_of lag records)) event.ts)

-- ---- the same, from the mark that the order answers for the lag

-- no mark: the event is all that arrived, and there is no tick
pub arrivals_of-row_alone : (lag : Option ℕ) (records : List LineRecord) (event : Event)
    → [] ≡ marks_behind lag (event_times (arrivals_of lag records)) event.ts
    → arrivals_of lag (records ++ Row event ∷ []) ≡ arrivals_of lag records ++ arrived event ∷ []
arrivals_of-row_alone lag records event none = arrivals_of-row lag records event ∙ ap (λ marks. arrivals_of lag records ++ arrived event ∷ marks) (sym none)

pub ticks_of-row_alone : (lag : Option ℕ) (records : List LineRecord) (event : Event) → [] ≡ marks_behind lag (event_times (arrivals_of lag records)) event.ts
    → ticks_of lag (records ++ Row event ∷ []) ≡ ticks_of lag records
ticks_of-row_alone lag records event none =
    ticks_of-row lag records event
    ∙ ap (λ marks. ticks_of lag records ++ ticks_after (arrivals_of lag records ++ arrived event ∷ []) marks) (sym none)
    ∙ append-nil (ticks_of lag records)

-- a mark: it arrived behind the event, and its ticks are all
pub arrivals_of-row_marked : (lag : Option ℕ) (records : List LineRecord) (event : Event) (time : ℤ)
    → marked time ∷ [] ≡ marks_behind lag (event_times (arrivals_of lag records)) event.ts
    → arrivals_of lag (records ++ Row event ∷ []) ≡ (arrivals_of lag records ++ arrived event ∷ []) ++ marked time ∷ []
arrivals_of-row_marked lag records event time one =
    arrivals_of-row lag records event
    ∙ ap (λ marks. arrivals_of lag records ++ arrived event ∷ marks) (sym one)
    ∙ sym (append_assoc (arrivals_of lag records) (arrived event ∷ []) (marked time ∷ []))

pub ticks_of-row_marked : (lag : Option ℕ) (records : List LineRecord) (event : Event) (time : ℤ)
    → marked time ∷ [] ≡ marks_behind lag (event_times (arrivals_of lag records)) event.ts
    → ticks_of lag (records ++ Row event ∷ []) ≡ ticks_of lag records ++ ticks_of_arrival (arrivals_of lag records ++ arrived event ∷ []) (marked time)
ticks_of-row_marked lag records event time one =
    ticks_of-row lag records event
    ∙ ap (λ marks. ticks_of lag records ++ ticks_after (arrivals_of lag records ++ arrived event ∷ []) marks) (sym one)
    ∙ ap (λ ticks. ticks_of lag records ++ ticks) (append-nil (ticks_of_arrival (arrivals_of lag records ++ arrived event ∷ []) (marked time)))

-- ---- marks that rise and marks that don't, and the end

pub ticks_of_arrival-rising : (before : List Arrival) (time : ℤ) → rises before time ≡ true
    → ticks_of_arrival before (marked time) ≡ map event_tick (released before (At time)) ++ mark_tick (At time) ∷ []
ticks_of_arrival-rising before time up = ap (λ b. if b then ticks_of_mark before (At time) else []) up

pub ticks_of_arrival-low : (before : List Arrival) (time : ℤ) → rises before time ≡ false → ticks_of_arrival before (marked time) ≡ []
ticks_of_arrival-low before time low = ap (λ b. if b then ticks_of_mark before (At time) else []) low

pub ticks_of_end_is : (lag : Option ℕ) (records : List LineRecord)
    → ticks_of_end lag records ≡ map event_tick (released (arrivals_of lag records) End) ++ mark_tick End ∷ []
unfolding ticks_of_end
ticks_of_end_is lag records = refl

pub ticks_of-nothing : (lag : Option ℕ) → ticks_of lag [] ≡ []
unfolding ticks_of
ticks_of-nothing lag = refl
