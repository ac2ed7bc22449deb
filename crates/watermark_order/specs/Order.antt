-- What an order of events is seen as, and for which arrivals it stands. Marks, late events and releases are as in the definitions of event time; the
-- record is this project's own.
use Rattle.std.specs.Prelude.{◌≡◌, ℕ, ℤ, int_lt, not, if◌then◌else◌, List, [], ◌∷◌, map, filter, Option, Some, None, option_map}
use Rattle.cep_event.specs.declared.event.Event.{Event}
use Rattle.cep_event.specs.declared.record.Moment.{Moment}
use Rattle.cep_event.specs.declared.record.Moment.TheVariants.{At, End}
use Rattle.watermark_order.specs.Reached.{is_reached}
use Rattle.cep_plan.specs.EventTime.{Arrival, events_among, marks_among, greatest_from, lag_mark, is_passed, put_in_order, in_time_order}

-- The lag, the greatest mark so far (the end is above all others), the greatest time of all events so far, late ones too, and the events that wait
-- for a mark, by time and then by row.
pub record OrderState : Type 0 where
  pub lag : Option ℕ
  pub mark : Option Moment
  pub greatest : Option ℤ
  pub waiting : List Event

-- ---- for which arrivals it stands

-- the greatest of some times, if there is one
abbrev pub greatest_of : List ℤ → Option ℤ
greatest_of [] = None
greatest_of (time ∷ times) = Some (greatest_from time times)

-- the greatest mark among the arrivals
abbrev pub greatest_mark : List Arrival → Option Moment
greatest_mark arrivals = option_map At (greatest_of (marks_among arrivals))

-- the times of the events among the arrivals, late ones too
abbrev pub event_times : List Arrival → List ℤ
event_times arrivals = map (λ event. event.ts) (events_among arrivals)

-- the events that no mark has reached, by time and then by row
abbrev pub waiting_of : List Arrival → List Event
waiting_of arrivals = in_time_order (filter (λ event. not (is_passed arrivals event)) (events_among arrivals))

-- the order that stands for the arrivals, when all that the marks among them release was handed out
unfoldable pub order_of : Option ℕ → List Arrival → OrderState
order_of lag arrivals = record { lag = lag; mark = greatest_mark arrivals; greatest = greatest_of (event_times arrivals); waiting = waiting_of arrivals }

-- ---- marks

-- the mark that the lag adds, if there is a lag and an event came
abbrev pub mark_of_lag : Option ℕ → Option ℤ → List Arrival
mark_of_lag None greatest = []
mark_of_lag (Some lag) None = []
mark_of_lag (Some lag) (Some greatest) = lag_mark lag greatest

-- ---- one call

-- the greater of the two times, where there are two
abbrev pub greater_time : Option ℤ → ℤ → ℤ
greater_time None time = time
greater_time (Some greatest) time = if int_lt greatest time then time else greatest

-- one more event: it waits where the mark hasn't reached it, and its time counts in any case
abbrev pub with_event : OrderState → Event → OrderState
with_event order event =
    record {
      lag = order.lag;
      mark = order.mark;
      greatest = Some (greater_time order.greatest event.ts);
      waiting = if is_reached order.mark event.ts then order.waiting else put_in_order event order.waiting;
    }

-- the same order, with this mark
abbrev pub with_mark : OrderState → Moment → OrderState
with_mark order mark = record { lag = order.lag; mark = Some mark; greatest = order.greatest; waiting = order.waiting }

-- the order behind the end, when all was handed out
abbrev pub ended : OrderState → OrderState
ended order = record { lag = order.lag; mark = Some End; greatest = order.greatest; waiting = [] }

-- ---- what is to be handed out

-- the waiting events that the mark has reached, in order
abbrev pub ready : OrderState → List Event
ready order = filter (λ event. is_reached order.mark event.ts) order.waiting

-- the order without them
abbrev pub settled : OrderState → OrderState
settled order =
    record {
      lag = order.lag;
      mark = order.mark;
      greatest = order.greatest;
      waiting =
          filter (λ event. not (is_reached order.mark event.ts)) order.waiting;
    }

-- The order hands out these events, one after another, and then it is this one.
pub record HandsOut (order : OrderState) (events : List Event) (after : OrderState) : Type 0 where
  pub events_ready : ready order ≡ events
  pub then_settled : settled order ≡ after
