-- How the order that stands for some arrivals changes by one more.
use Rattle.std.proofs.Common.{◌≡◌, refl, sym, ◌∙◌, ap, subst, ℕ, ◌<◌, ℤ, int_le, Bool, true, false, not, ◌&&◌, List, [], ◌∷◌, ◌++◌, map}
use Rattle.std.specs.Prelude.{if◌then◌else◌, filter, Option, Some, None, IfNone, option_map, option_to_list}
use Rattle.std.specs.List.{AllByRecursion as Each, list_any}
use Rattle.std.proofs.lemmas.List.{append-nil, map-append}
use Rattle.std.proofs.lemmas.List.Elements.{filter-append, filter_map-append}
use Rattle.cep_event.specs.declared.event.Event.{Event}
use Rattle.cep_event.specs.declared.record.Moment.{Moment}
use Rattle.cep_event.specs.declared.record.Moment.TheVariants.{At, End}
use Rattle.cep_event.specs.Moment.{has_reached}
use Rattle.cep_plan.specs.EventTime.{Arrival, arrived, marked, event_arrived, time_marked, events_among, marks_among, marks_behind, rises, is_passed, is_late, released, put_in_order, in_time_order}
use Rattle.watermark_order.specs.Reached.{is_reached, is_above}
use Rattle.watermark_order.specs.Order.{OrderState, greatest_of, greatest_mark, event_times, waiting_of, order_of, mark_of_lag, greater_time, ready, settled, with_mark, with_event, ended, HandsOut}
use Rattle.watermark_order.proofs.TimeLaws.{each-order, each-filter, put-each, each-from_order, filter_same, filter_both, filter-order, order-behind}
use Rattle.watermark_order.proofs.MarkLaws.{greatest-more, greatest-last, any-greatest, all-greatest, above-greater, below-greater, reached-above}

-- ---- marks and late events

pub passed_is : (arrivals : List Arrival) (event : Event) → is_passed arrivals event ≡ is_reached (greatest_mark arrivals) event.ts
passed_is arrivals event = any-greatest event.ts (marks_among arrivals)

pub rises_is : (arrivals : List Arrival) (time : ℤ) → rises arrivals time ≡ is_above (greatest_mark arrivals) time
rises_is arrivals time = all-greatest time (marks_among arrivals)

-- the events that wait, told by the greatest mark
waiting_is : (arrivals : List Arrival)
    → waiting_of arrivals ≡ in_time_order (filter (λ event. not (is_reached (greatest_mark arrivals) event.ts)) (events_among arrivals))
waiting_is arrivals =
    ap in_time_order
    (filter_same (λ event. not (is_passed arrivals event)) (λ event. not (is_reached (greatest_mark arrivals) event.ts))
    (λ event. ap not (passed_is arrivals event)) (events_among arrivals))

-- ---- one more event

marks-arrived : (arrivals : List Arrival) (event : Event) → marks_among (arrivals ++ arrived event ∷ []) ≡ marks_among arrivals
marks-arrived arrivals event = filter_map-append time_marked arrivals (arrived event ∷ []) ∙ append-nil (marks_among arrivals)

events-arrived : (arrivals : List Arrival) (event : Event) → events_among (arrivals ++ arrived event ∷ []) ≡ events_among arrivals ++ event ∷ []
events-arrived arrivals event = filter_map-append event_arrived arrivals (arrived event ∷ [])

pub times-arrived : (arrivals : List Arrival) (event : Event) → event_times (arrivals ++ arrived event ∷ []) ≡ event_times arrivals ++ event.ts ∷ []
times-arrived arrivals event = ap (map (λ (e : Event). e.ts)) (events-arrived arrivals event)
    ∙ map-append (λ (e : Event). e.ts) (events_among arrivals) (event ∷ [])

waiting-arrived : (arrivals : List Arrival) (event : Event) → Each (λ waiting. waiting.row < event.row) (waiting_of arrivals)
    → waiting_of (arrivals ++ arrived event ∷ [])
    ≡ (if is_reached (greatest_mark arrivals) event.ts then waiting_of arrivals else put_in_order event (waiting_of arrivals))
waiting-arrived arrivals event rows =
    (λ i. in_time_order (filter (λ e. not (list_any (λ mark. int_le e.ts mark) (marks-arrived arrivals event i))) (events-arrived arrivals event i)))
    ∙ ap in_time_order (filter-append stays (events_among arrivals) (event ∷ []))
    ∙ by_test (is_passed arrivals event)
    ∙ ap (λ b. if b then waiting_of arrivals else put_in_order event (waiting_of arrivals)) (passed_is arrivals event) where
      stays : Event → Bool
      stays e = not (is_passed arrivals e)

      left : List Event
      left = filter (λ e. not (is_passed arrivals e)) (events_among arrivals)

      by_test : (b : Bool)
          → in_time_order (left ++ (if not b then event ∷ [] else [])) ≡ (if b then waiting_of arrivals else put_in_order event (waiting_of arrivals))
      by_test true = ap in_time_order (append-nil left)
      by_test false = order-behind event left [] (each-from_order (λ waiting. waiting.row < event.row) left rows)
          ∙ ap (λ l. put_in_order event (in_time_order l)) (append-nil left)

pub order_of-arrived : (lag : Option ℕ) (arrivals : List Arrival) (event : Event) → Each (λ waiting. waiting.row < event.row) (order_of lag arrivals).waiting
    → order_of lag (arrivals ++ arrived event ∷ []) ≡ with_event (order_of lag arrivals) event
unfolding order_of
order_of-arrived lag arrivals event rows =
    λ i. record {
      lag = lag;
      mark = option_map At (greatest_of (marks-arrived arrivals event i));
      greatest = (ap greatest_of (times-arrived arrivals event) ∙ greatest-more (event_times arrivals) event.ts) i;
      waiting = waiting-arrived arrivals event rows i;
    }

pub late_is : (lag : Option ℕ) (arrivals : List Arrival) (event : Event) → is_late arrivals event ≡ is_reached (order_of lag arrivals).mark event.ts
unfolding order_of
late_is lag arrivals event = passed_is arrivals event

-- ---- the mark that the lag adds

pub mark_of_lag-behind : (lag : Option ℕ) (times : List ℤ) (time : ℤ) → mark_of_lag lag (greatest_of (times ++ time ∷ [])) ≡ marks_behind lag times time
mark_of_lag-behind None times time = refl
mark_of_lag-behind (Some lag) times time = ap (mark_of_lag (Some lag)) (greatest-last times time)

pub lag_behind : (lag : Option ℕ) (before : List Arrival) (event : Event) (order : OrderState) → order ≡ order_of lag (before ++ arrived event ∷ [])
    → mark_of_lag order.lag order.greatest ≡ marks_behind lag (event_times before) event.ts
unfolding order_of
lag_behind lag before event order is =
    ap (λ o. mark_of_lag o.lag o.greatest) is ∙ ap (λ times. mark_of_lag lag (greatest_of times)) (times-arrived before event)
    ∙ mark_of_lag-behind lag (event_times before) event.ts

-- ---- one more mark

marks-marked : (arrivals : List Arrival) (time : ℤ) → marks_among (arrivals ++ marked time ∷ []) ≡ marks_among arrivals ++ time ∷ []
marks-marked arrivals time = filter_map-append time_marked arrivals (marked time ∷ [])

events-marked : (arrivals : List Arrival) (time : ℤ) → events_among (arrivals ++ marked time ∷ []) ≡ events_among arrivals
events-marked arrivals time = filter_map-append event_arrived arrivals (marked time ∷ []) ∙ append-nil (events_among arrivals)

pub mark-marked : (arrivals : List Arrival) (time : ℤ)
    → greatest_mark (arrivals ++ marked time ∷ []) ≡ Some (At (greater_time (greatest_of (marks_among arrivals)) time))
mark-marked arrivals time = ap (λ marks. option_map At (greatest_of marks)) (marks-marked arrivals time)
    ∙ ap (option_map At) (greatest-more (marks_among arrivals) time)

-- the events that wait after one more mark, from the greatest mark then
waiting-marked : (arrivals : List Arrival) (time : ℤ) (mark : Option Moment) → greatest_mark (arrivals ++ marked time ∷ []) ≡ mark
    → waiting_of (arrivals ++ marked time ∷ []) ≡ in_time_order (filter (λ event. not (is_reached mark event.ts)) (events_among arrivals))
waiting-marked arrivals time mark is =
    waiting_is (arrivals ++ marked time ∷ []) ∙ (λ i. in_time_order (filter (λ event. not (is_reached (is i) event.ts)) (events-marked arrivals time i)))

pub order_of-stays : (lag : Option ℕ) (arrivals : List Arrival) (time : ℤ) → is_above (greatest_mark arrivals) time ≡ false
    → order_of lag (arrivals ++ marked time ∷ []) ≡ order_of lag arrivals
unfolding order_of
order_of-stays lag arrivals time low =
    let mark : greatest_mark (arrivals ++ marked time ∷ []) ≡ greatest_mark arrivals =
    mark-marked arrivals time ∙ ap (option_map At) (below-greater (greatest_of (marks_among arrivals)) time low) in
    λ i. record {
      lag = lag;
      mark = mark i;
      greatest = greatest_of (map (λ (e : Event). e.ts) (events-marked arrivals time i));
      waiting = (waiting-marked arrivals time (greatest_mark arrivals) mark ∙ sym (waiting_is arrivals)) i;
    }

-- ---- what a mark releases

-- what a mark has not reached, no lower one has
only_higher : (a b : Bool) → (b ≡ true → a ≡ true) → (not a && not b) ≡ not a
only_higher true b h = refl
only_higher false true h = let clash : true ≡ false = sym (h refl) in absurd cc
only_higher false false h = refl

left-marked : (arrivals : List Arrival) (time : ℤ) → is_above (greatest_mark arrivals) time ≡ true
    → filter (λ event. not (int_le event.ts time)) (waiting_of arrivals) ≡ in_time_order (filter (λ event. not (int_le event.ts time)) (events_among arrivals))
left-marked arrivals time high =
    ap (filter (λ event. not (int_le event.ts time))) (waiting_is arrivals)
    ∙ filter-order (λ event. not (int_le event.ts time)) (filter (λ event. not (is_reached (greatest_mark arrivals) event.ts)) (events_among arrivals))
    ∙ ap in_time_order
    (filter_both (λ event. not (int_le event.ts time)) (λ event. not (is_reached (greatest_mark arrivals) event.ts)) (events_among arrivals)
    ∙ filter_same (λ event. not (int_le event.ts time) && not (is_reached (greatest_mark arrivals) event.ts)) (λ event. not (int_le event.ts time))
    (λ event. only_higher (int_le event.ts time) (is_reached (greatest_mark arrivals) event.ts)
    (reached-above (greatest_of (marks_among arrivals)) time event.ts high)) (events_among arrivals))

released_is : (arrivals : List Arrival) (mark : Moment) → filter (λ event. has_reached mark event.ts) (waiting_of arrivals) ≡ released arrivals mark
unfolding released
released_is arrivals mark =
    filter-order (λ event. has_reached mark event.ts) (filter (λ event. not (is_passed arrivals event)) (events_among arrivals))
    ∙ ap in_time_order (filter_both (λ event. has_reached mark event.ts) (λ event. not (is_passed arrivals event)) (events_among arrivals))

pub HandsOut-mark : (lag : Option ℕ) (arrivals : List Arrival) (time : ℤ) → is_above (greatest_mark arrivals) time ≡ true
    → HandsOut (with_mark (order_of lag arrivals) (At time)) (released arrivals (At time)) (order_of lag (arrivals ++ marked time ∷ []))
unfolding order_of
HandsOut-mark lag arrivals time high =
    let mark : greatest_mark (arrivals ++ marked time ∷ []) ≡ Some (At time) =
    mark-marked arrivals time ∙ ap (λ t. Some (At t)) (above-greater (greatest_of (marks_among arrivals)) time high) in
    record {
      events_ready = released_is arrivals (At time);
      then_settled =
          λ i. record {
            lag = lag;
            mark = sym mark i;
            greatest = greatest_of (map (λ (e : Event). e.ts) (sym (events-marked arrivals time) i));
            waiting = (left-marked arrivals time high ∙ sym (waiting-marked arrivals time (Some (At time)) mark)) i;
          };
    }

-- ---- no event is ready before the next mark

none_left : {X : Type 0} (p : X → Bool) (xs : List X) → filter p (filter (λ x. not (p x)) xs) ≡ []
none_left p xs = filter_both p (λ x. not (p x)) xs ∙ filter_same (λ x. p x && not (p x)) (λ x. false) (λ x. never (p x)) xs ∙ nothing xs where
  never : (b : Bool) → (b && not b) ≡ false
  never true = refl
  never false = refl

  nothing : {X : Type 0} (xs : List X) → filter (λ x. false) xs ≡ []
  nothing [] = refl
  nothing (x ∷ xs) = nothing xs

all_left : {X : Type 0} (p : X → Bool) (xs : List X) → filter (λ x. not (p x)) (filter (λ x. not (p x)) xs) ≡ filter (λ x. not (p x)) xs
all_left p xs = filter_both (λ x. not (p x)) (λ x. not (p x)) xs ∙ filter_same (λ x. not (p x) && not (p x)) (λ x. not (p x)) (λ x. same (not (p x))) xs where
  same : (b : Bool) → (b && b) ≡ b
  same true = refl
  same false = refl

-- the order that stands for some arrivals has nothing to hand out
pub HandsOut-nothing : (lag : Option ℕ) (arrivals : List Arrival) → HandsOut (order_of lag arrivals) [] (order_of lag arrivals)
unfolding order_of
HandsOut-nothing lag arrivals =
    let test : Event → Bool = λ event. is_reached (greatest_mark arrivals) event.ts in
    let left : List Event = events_among arrivals in
    record {
      events_ready = ap (filter test) (waiting_is arrivals) ∙ filter-order test (filter (λ event. not (test event)) left)
          ∙ ap in_time_order (none_left test left);
      then_settled =
          λ i. record {
            lag = lag;
            mark = greatest_mark arrivals;
            greatest = greatest_of (event_times arrivals);
            waiting =
                (ap (filter (λ event. not (test event))) (waiting_is arrivals)
                ∙ filter-order (λ event. not (test event)) (filter (λ event. not (test event)) left)
                ∙ ap in_time_order (all_left test left)
                ∙ sym (waiting_is arrivals)) i;
          };
    }

-- ---- one more mark, for an order that stands for some arrivals

pub rises_of : (lag : Option ℕ) (arrivals : List Arrival) (time : ℤ) (order : OrderState) → order ≡ order_of lag arrivals
    → rises arrivals time ≡ is_above order.mark time
unfolding order_of
rises_of lag arrivals time order is = rises_is arrivals time ∙ ap (λ o. is_above o.mark time) (sym is)

pub stays_of : (lag : Option ℕ) (arrivals : List Arrival) (time : ℤ) (order : OrderState) → order ≡ order_of lag arrivals
    → is_above order.mark time ≡ false → order ≡ order_of lag (arrivals ++ marked time ∷ [])
stays_of lag arrivals time order is low = is ∙ sym (order_of-stays lag arrivals time (sym (rises_is arrivals time) ∙ rises_of lag arrivals time order is ∙ low))

pub HandsOut-low : (lag : Option ℕ) (arrivals : List Arrival) (time : ℤ) (order : OrderState) → order ≡ order_of lag arrivals → is_above order.mark time ≡ false
    → HandsOut order [] (order_of lag (arrivals ++ marked time ∷ []))
HandsOut-low lag arrivals time order is low =
    let same : order_of lag (arrivals ++ marked time ∷ []) ≡ order_of lag arrivals = order_of-stays lag arrivals time (sym (rises_is arrivals time) ∙ rises_of lag arrivals time order is ∙ low) in
    subst (λ o. HandsOut o [] (order_of lag (arrivals ++ marked time ∷ []))) (sym is)
    (subst (HandsOut (order_of lag arrivals) []) (sym same) (HandsOut-nothing lag arrivals))

pub HandsOut-high : (lag : Option ℕ) (arrivals : List Arrival) (time : ℤ) (order : OrderState) → order ≡ order_of lag arrivals → is_above order.mark time ≡ true
    → HandsOut (with_mark order (At time)) (released arrivals (At time)) (order_of lag (arrivals ++ marked time ∷ []))
HandsOut-high lag arrivals time order is high =
    subst (λ o. HandsOut (with_mark o (At time)) (released arrivals (At time)) (order_of lag (arrivals ++ marked time ∷ []))) (sym is)
    (HandsOut-mark lag arrivals time (sym (rises_is arrivals time) ∙ rises_of lag arrivals time order is ∙ high))

-- ---- the end

keeps_none : {X : Type 0} (xs : List X) → filter (λ x. false) xs ≡ []
keeps_none [] = refl
keeps_none (x ∷ xs) = keeps_none xs

pub HandsOut-end : (lag : Option ℕ) (arrivals : List Arrival)
    → HandsOut (with_mark (order_of lag arrivals) End) (released arrivals End) (ended (order_of lag arrivals))
unfolding order_of
HandsOut-end lag arrivals =
    record {
      events_ready = released_is arrivals End;
      then_settled = λ i. record { lag = lag; mark = Some End; greatest = greatest_of (event_times arrivals); waiting = keeps_none (waiting_of arrivals) i };
    }

-- ---- nothing is ready

none_kept : {X : Type 0} (p : X → Bool) (xs : List X) → Each (λ x. p x ≡ false) xs → filter p xs ≡ []
none_kept p [] h = refl
none_kept p (x ∷ xs) h = ap (λ b. if b then x ∷ filter p xs else filter p xs) h.0 ∙ none_kept p xs h.1

all_kept : {X : Type 0} (p : X → Bool) (xs : List X) → Each (λ x. p x ≡ false) xs → filter (λ x. not (p x)) xs ≡ xs
all_kept p [] h = refl
all_kept p (x ∷ xs) h = ap (λ b. if not b then x ∷ filter (λ y. not (p y)) xs else filter (λ y. not (p y)) xs) h.0 ∙ ap (λ l. x ∷ l) (all_kept p xs h.1)

abbrev state : Option ℕ → Option Moment → Option ℤ → List Event → OrderState
state lag mark greatest waiting = record { lag = lag; mark = mark; greatest = greatest; waiting = waiting }

module _ (lag : Option ℕ) (mark : Option Moment) (greatest : Option ℤ) where
  pub nothing_ready : (popped : Option Event) (whole left : List Event) → whole ≡ option_to_list popped ++ left
      → IfNone popped (Each (λ event. is_reached mark event.ts ≡ false) left)
      → IfNone popped (ready (state lag mark greatest whole) ≡ [])
  nothing_ready (Some event) whole left rest unreached = tt
  nothing_ready None whole left rest unreached = ap (filter (λ event. is_reached mark event.ts)) rest
      ∙ none_kept (λ event. is_reached mark event.ts) left unreached

  pub nothing_settles : (popped : Option Event) (left : List Event) → IfNone popped (Each (λ event. is_reached mark event.ts ≡ false) left)
      → IfNone popped (settled (state lag mark greatest left) ≡ state lag mark greatest left)
  nothing_settles (Some event) left unreached = tt
  nothing_settles None left unreached = λ i. state lag mark greatest (all_kept (λ event. is_reached mark event.ts) left unreached i)

  pub nothing_changes : (popped : Option Event) (whole left : List Event) → whole ≡ option_to_list popped ++ left
      → IfNone popped (state lag mark greatest left ≡ state lag mark greatest whole)
  nothing_changes (Some event) whole left rest = tt
  nothing_changes None whole left rest = λ i. state lag mark greatest (sym rest i)

-- where nothing is ready, the order is settled
pub settled_same : (order : OrderState) → ready order ≡ [] → settled order ≡ order
settled_same order none =
    λ i. state order.lag order.mark order.greatest (keeps_all (λ (event : Event). is_reached order.mark event.ts) order.waiting none i) where
      cons_none : {X : Type 0} (x : X) (xs : List X) → x ∷ xs ≡ [] → ⊥
      cons_none x xs h = cc

      keeps_all : {X : Type 0} (p : X → Bool) (xs : List X) → filter p xs ≡ [] → filter (λ x. not (p x)) xs ≡ xs
      keeps_all p [] h = refl
      keeps_all p (x ∷ xs) h = chosen (p x) h (keeps_all p xs) where
        chosen : (b : Bool) → (if b then x ∷ filter p xs else filter p xs) ≡ [] → (filter p xs ≡ [] → filter (λ y. not (p y)) xs ≡ xs)
            → (if not b then x ∷ filter (λ y. not (p y)) xs else filter (λ y. not (p y)) xs) ≡ x ∷ xs
        chosen true h go = absurd (cons_none x (filter p xs) h)
        chosen false h go = ap (λ l. x ∷ l) (go h)

-- ---- what is said of each event that waits

pub nothing_waits : (lag : Option ℕ) → (order_of lag []).waiting ≡ []
unfolding order_of
nothing_waits lag = refl

module _ (P : Event → Type 0) where
  pub each-event : (order : OrderState) (event : Event) → P event → Each P order.waiting → Each P (with_event order event).waiting
  each-event order event here rest = chosen (is_reached order.mark event.ts) where
    chosen : (b : Bool) → Each P (if b then order.waiting else put_in_order event order.waiting)
    chosen true = rest
    chosen false = put-each P event order.waiting here rest

  pub each-mark : (rising : Bool) (order next : OrderState) (mark : Moment) → next ≡ (if rising then with_mark order mark else order)
      → Each P order.waiting → Each P next.waiting
  each-mark true order next mark is rest = subst (λ o. Each P o.waiting) (sym is) rest
  each-mark false order next mark is rest = subst (λ o. Each P o.waiting) (sym is) rest

  pub each-settled : (order : OrderState) → Each P order.waiting → Each P (settled order).waiting
  each-settled order rest = each-filter P (λ event. not (is_reached order.mark event.ts)) order.waiting rest

  -- what is said of each event that arrived
  pub each-waiting : (lag : Option ℕ) (arrivals : List Arrival) → Each P (events_among arrivals) → Each P (order_of lag arrivals).waiting
  unfolding order_of
  each-waiting lag arrivals rest =
      each-order P (filter (λ event. not (is_passed arrivals event)) (events_among arrivals))
      (each-filter P (λ event. not (is_passed arrivals event)) (events_among arrivals) rest)
