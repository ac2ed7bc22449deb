-- What is known of the events that a mark releases, and of the time of the last tick: for those who make the ticks.
use Rattle.std.proofs.Common.{◌≡◌, refl, sym, ◌∙◌, ap, ℕ, ℤ, Bool, true, false, not, ◌&&◌, List, [], ◌∷◌, ◌++◌, map, append_assoc}
use Rattle.std.specs.Prelude.{if◌then◌else◌, filter, Option, Some, None, option_map}
use Rattle.std.specs.List.{AllByRecursion as Each, last_or}
use Rattle.std.proofs.lemmas.List.{append-nil}
use Rattle.cep_event.specs.declared.event.Event.{Event}
use Rattle.cep_event.specs.declared.record.Moment.{Moment}
use Rattle.cep_event.specs.declared.record.Moment.TheVariants.{At}
use Rattle.cep_event.specs.declared.record.LineRecord.{LineRecord}
use Rattle.cep_event.specs.declared.record.LineRecord.TheVariants.{Blank, Mark, Row}
use Rattle.cep_event.specs.Moment.{has_reached}
use Rattle.cep_plan.specs.EventTime.{Arrival, arrived, marked, events_among, marks_among, greatest_from, lag_mark, marks_behind, arrivals_after, arrivals_of, rises, is_passed, released, ticks_of_mark, ticks_of_arrival, ticks_after}
use Rattle.cep_plan.specs.Tick.{Tick, event_tick, mark_tick, time_of, last_time}
use Rattle.watermark_order.specs.Order.{greatest_of, greatest_mark, order_of}
use Rattle.watermark_order.specs.Sooner.{IsUpward}
use Rattle.watermark_order.proofs.TimeLaws.{each-order, order-upward}
use Rattle.watermark_order.proofs.MarkLaws.{above-greater, below-greater}
use Rattle.watermark_order.proofs.OrderLaws.{each-waiting, mark-marked, rises_is}

-- ---- rows

-- a fact about the event of a record, if it has one
abbrev pub OfEvent : (Event → Type 0) → LineRecord → Type 0
OfEvent P Blank = Unit {0}
OfEvent P (Mark time) = Unit {0}
OfEvent P (Row event) = P event

module _ (P : Event → Type 0) where
  no_events : (lag : Option ℕ) (earlier : List ℤ) (time : ℤ) → Each P (events_among (marks_behind lag earlier time))
  no_events None earlier time = tt
  no_events (Some lag) earlier time = of_mark lag (greatest_from time earlier) where
    chosen : (b : Bool) (t : ℤ) → Each P (events_among (if b then marked t ∷ [] else []))
    chosen true t = tt
    chosen false t = tt

    of_mark : (lag : ℕ) (greatest : ℤ) → Each P (events_among (lag_mark lag greatest))
    of_mark lag greatest = chosen _ _

  each-among : (xs ys : List Arrival) → Each P (events_among xs) → Each P (events_among ys) → Each P (events_among (xs ++ ys))
  each-among [] ys h k = k
  each-among (arrived event ∷ xs) ys h k = (h.0, each-among xs ys h.1 k)
  each-among (marked time ∷ xs) ys h k = each-among xs ys h k

  each-arrived : (lag : Option ℕ) (earlier : List ℤ) (records : List LineRecord) → Each (OfEvent P) records
      → Each P (events_among (arrivals_after lag earlier records))
  each-arrived lag earlier [] h = tt
  each-arrived lag earlier (Blank ∷ records) h = each-arrived lag earlier records h.1
  each-arrived lag earlier (Mark time ∷ records) h = each-arrived lag earlier records h.1
  each-arrived lag earlier (Row event ∷ records) h = (
    h.0,
    each-among (marks_behind lag earlier event.ts) (arrivals_after lag (event.ts ∷ earlier) records) (no_events lag earlier event.ts)
        (each-arrived lag (event.ts ∷ earlier) records h.1),
  )

  -- What is said of the event of each record is said of each event that waits. So where the rows of the records so far are below that of the next,
  -- `arrive` may be called.
  pub each-record : (lag : Option ℕ) (records : List LineRecord) → Each (OfEvent P) records → Each P (order_of lag (arrivals_of lag records)).waiting
  each-record lag records h = each-waiting P lag (arrivals_of lag records) (each-arrived lag [] records h)

-- ---- the events that a mark releases

each-passing : {X : Type 0} (p : X → Bool) (xs : List X) → Each (λ x. p x ≡ true) (filter p xs)
each-passing p [] = tt
each-passing p (x ∷ xs) = chosen (p x) refl (each-passing p xs) where
  chosen : (b : Bool) → p x ≡ b → Each (λ y. p y ≡ true) (filter p xs) → Each (λ y. p y ≡ true) (if b then x ∷ filter p xs else filter p xs)
  chosen true is rest = (is, rest)
  chosen false is rest = rest

-- the mark has reached them, and no mark before has
pub each-released : (arrivals : List Arrival) (mark : Moment)
    → Each (λ event. (has_reached mark event.ts && not (is_passed arrivals event)) ≡ true) (released arrivals mark)
unfolding released
each-released arrivals mark =
    each-order (λ event. (has_reached mark event.ts && not (is_passed arrivals event)) ≡ true)
    (filter (λ event. has_reached mark event.ts && not (is_passed arrivals event)) (events_among arrivals))
    (each-passing (λ event. has_reached mark event.ts && not (is_passed arrivals event)) (events_among arrivals))

-- they are in the order of time and row
pub upward-released : (arrivals : List Arrival) (mark : Moment) → IsUpward (released arrivals mark)
unfolding released
upward-released arrivals mark = order-upward (filter (λ event. has_reached mark event.ts && not (is_passed arrivals event)) (events_among arrivals))

-- ---- the last tick

last_or-behind : {X : Type 0} (d : Option X) (xs : List X) (x : X) → last_or d (xs ++ x ∷ []) ≡ Some x
last_or-behind d [] x = refl
last_or-behind d (y ∷ xs) x = last_or-behind (Some y) xs x

last_time-behind : (ticks more : List Tick) (tick : Tick) → last_time (ticks ++ (more ++ tick ∷ [])) ≡ Some (time_of tick)
last_time-behind ticks more tick = ap last_time (sym (append_assoc ticks more (tick ∷ []))) ∙ ap (option_map time_of) (last_or-behind None (ticks ++ more) tick)

last_time-arrival : (ticks : List Tick) (before : List Arrival) (next : Arrival) → last_time ticks ≡ greatest_mark before
    → last_time (ticks ++ ticks_of_arrival before next) ≡ greatest_mark (before ++ next ∷ [])
last_time-arrival ticks before (arrived event) is = ap last_time (append-nil ticks) ∙ is ∙ sym (same before) where
  same : (before : List Arrival) → greatest_mark (before ++ arrived event ∷ []) ≡ greatest_mark before
  same before = ap (λ marks. option_map At (greatest_of marks)) (no_mark before) where
    no_mark : (before : List Arrival) → marks_among (before ++ arrived event ∷ []) ≡ marks_among before
    no_mark [] = refl
    no_mark (arrived e ∷ before) = no_mark before
    no_mark (marked t ∷ before) = ap (λ l. t ∷ l) (no_mark before)
last_time-arrival ticks before (marked time) is = by_test (rises before time) refl where
  by_test : (b : Bool) → rises before time ≡ b
      → last_time (ticks ++ (if b then ticks_of_mark before (At time) else [])) ≡ greatest_mark (before ++ marked time ∷ [])
  by_test true up =
      last_time-behind ticks (map event_tick (released before (At time))) (mark_tick (At time))
      ∙ sym (mark-marked before time ∙ ap (λ t. Some (At t)) (above-greater (greatest_of (marks_among before)) time (sym (rises_is before time) ∙ up)))
  by_test false low =
      ap last_time (append-nil ticks) ∙ is
      ∙ sym (mark-marked before time
      ∙ ap (option_map At) (below-greater (greatest_of (marks_among before)) time (sym (rises_is before time) ∙ low)))

last_time-from : (ticks : List Tick) (before arrivals : List Arrival) → last_time ticks ≡ greatest_mark before
    → last_time (ticks ++ ticks_after before arrivals) ≡ greatest_mark (before ++ arrivals)
last_time-from ticks before [] is = ap last_time (append-nil ticks) ∙ is ∙ ap greatest_mark (sym (append-nil before))
last_time-from ticks before (next ∷ arrivals) is =
    ap last_time (sym (append_assoc ticks (ticks_of_arrival before next) (ticks_after (before ++ next ∷ []) arrivals)))
    ∙ last_time-from (ticks ++ ticks_of_arrival before next) (before ++ next ∷ []) arrivals (last_time-arrival ticks before next is)
    ∙ ap greatest_mark (append_assoc before (next ∷ []) arrivals)

-- after some arrivals the last tick is that of the greatest mark among them
pub last_time-arrivals : (arrivals : List Arrival) → last_time (ticks_after [] arrivals) ≡ greatest_mark arrivals
last_time-arrivals arrivals = last_time-from [] [] arrivals refl
