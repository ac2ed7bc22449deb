-- The engine can take the events that wait, whatever comes next.
use Rattle.std.proofs.Common.{◌≡◌, refl, sym, ◌∙◌, ap, subst, ℕ, ◌+◌, ◌≤◌, arith, ℤ, int_le, int_lt, Bool, true, false, not, List, [], ◌∷◌, length, Option, Some, None}
use Rattle.std.specs.Prelude.{filter, if◌then◌else◌, option_map}
use Rattle.std.specs.List.{AllByRecursion as Each}
use Rattle.std.specs.Ordering.{nat_cmp, int_cmp, ordering_then, is_lt}
use Rattle.std.specs.declared.cmp.Ordering.{Ordering}
use Rattle.std.specs.declared.cmp.Ordering.TheVariants.{Less, Equal, Greater}
use Rattle.std.proofs.lemmas.Cmp.{int_ranked}
use Rattle.std.proofs.lemmas.Int.{ints}
use Rattle.cep_event.specs.declared.event.Event.{Event}
use Rattle.cep_event.specs.declared.record.Moment.{Moment}
use Rattle.cep_event.specs.declared.record.Moment.TheVariants.{At}
use Rattle.cep_plan.specs.EventTime.{put_in_order}
use Rattle.cep_plan.specs.Tick.{Tick}
use Rattle.cep_engine.specs.State.{State, StandsFor, IsNotBefore}
use Rattle.watermark_order.specs.Order.{OrderState, order_of, ready, settled, with_event}
use Rattle.watermark_order.specs.Reached.{is_reached, is_above}
use Rattle.watermark_order.specs.Sooner.{is_sooner}
use Rattle.watermark_order.proofs.OrderLaws.{nothing_waits}
use Rattle.watermark_order.proofs.TimeLaws.{put-each, put-upward, each-more}
use Rattle.event_pipeline.specs.Running.{IsReady, CanTake, IsRunning, taken_and_waiting}

-- ---- times

from_equal : (a b : ℤ) → int_cmp a b ≡ Equal → int_le b a ≡ true
from_equal a b is = let same = int_ranked a b Equal (sym is) in grind (arith, ints)

from_greater : (a b : ℤ) → int_cmp a b ≡ Greater → int_le b a ≡ true
from_greater a b is = let more = int_ranked a b Greater (sym is) in grind (arith, ints)

-- of two events in order, the later one's time isn't below
in_time : (first event : Event) → is_sooner event first ≡ false → int_le first.ts event.ts ≡ true
in_time first event low = by_times (int_cmp event.ts first.ts) refl where
  by_times : (o : Ordering) → int_cmp event.ts first.ts ≡ o → int_le first.ts event.ts ≡ true
  by_times Less is = let no : true ≡ false = sym (ap (λ o. is_lt (ordering_then o (nat_cmp event.row first.row))) is) ∙ low in absurd cc
  by_times Equal is = from_equal event.ts first.ts is
  by_times Greater is = from_greater event.ts first.ts is

unreached : (time mark : ℤ) → int_le time mark ≡ false → int_le mark time ≡ true
unreached time mark h = grind (arith, ints)

above : (mark time : ℤ) → int_lt mark time ≡ true → int_le mark time ≡ true
above mark time h = grind (arith, ints)

-- a time that the mark of the last tick hasn't reached isn't before that tick
later-unreached : (last : Option ℤ) (mark : Option Moment) (time : ℤ) → option_map At last ≡ mark → is_reached mark time ≡ false → IsNotBefore last time
later-unreached last mark time marked low = by_last last (ap (λ m. is_reached m time) marked ∙ low) where
  by_last : (l : Option ℤ) → is_reached (option_map At l) time ≡ false → IsNotBefore l time
  by_last None h = tt
  by_last (Some t) h = unreached time t h

-- a mark that rises isn't before the last tick
pub later-above : (last : Option ℤ) (mark : Option Moment) (time : ℤ) → option_map At last ≡ mark → is_above mark time ≡ true → IsNotBefore last time
later-above last mark time marked high = by_last last (ap (λ m. is_above m time) marked ∙ high) where
  by_last : (l : Option ℤ) → is_above (option_map At l) time ≡ true → IsNotBefore l time
  by_last None h = tt
  by_last (Some t) h = above t time h

-- ---- events that are handed over

passing : {X : Type 0} (p : X → Bool) (xs : List X) → Each (λ x. p x ≡ true) (filter p xs)
passing p [] = tt
passing p (x ∷ xs) = chosen (p x) refl (passing p xs) where
  chosen : (b : Bool) → p x ≡ b → Each (λ y. p y ≡ true) (filter p xs) → Each (λ y. p y ≡ true) (if b then x ∷ filter p xs else filter p xs)
  chosen true is k = (is, k)
  chosen false is k = k

-- the first event was taken, and the rest can be
pub takes-next : (event : Event) (waiting rest : List Event) (a b : State) → waiting ≡ event ∷ rest → CanTake waiting a → IsReady b → b.last ≡ Some event.ts
    → CanTake rest b
takes-next event waiting rest a b is h ready last =
    let all = subst (λ l. CanTake l a) is h in
    record {
      ready = ready;
      upward = all.upward.1;
      later =
          subst (λ l. Each (λ (e : Event). IsNotBefore l e.ts) rest) (sym last)
          (each-more (λ (e : Event). is_sooner e event ≡ false) (λ (e : Event). int_le event.ts e.ts ≡ true) (in_time event) rest all.upward.0);
    }

-- it isn't before the last tick
pub later-next : (event : Event) (waiting rest : List Event) (a : State) → waiting ≡ event ∷ rest → CanTake waiting a → IsNotBefore a.last event.ts
later-next event waiting rest a is h = let all = subst (λ l. CanTake l a) is h in all.later.0

-- and not above the mark that released it
pub reached-next : (order : OrderState) (event : Event) (rest : List Event) (time : ℤ) → ready order ≡ event ∷ rest → order.mark ≡ Some (At time)
    → int_le event.ts time ≡ true
reached-next order event rest time is mark =
    let all = subst (Each (λ (e : Event). is_reached order.mark e.ts ≡ true)) is (passing (λ (e : Event). is_reached order.mark e.ts) order.waiting) in
    ap (λ m. is_reached m event.ts) (sym mark) ∙ all.0

-- ---- between two records

pub running-begun : (lag : Option ℕ) (order : OrderState) (engine : State) → order ≡ order_of lag [] → engine.last ≡ None → IsReady engine
    → IsRunning order engine
unfolding order_of
running-begun lag order engine is last ready = subst (λ o. IsRunning o engine) (sym is)
    (record { takes = record { ready = ready; upward = tt; later = tt }; marked = ap (option_map At) last })

pub nothing-taken : (lag : Option ℕ) (order : OrderState) (engine : State) → order ≡ order_of lag [] → engine.runs.position ≡ 0
    → taken_and_waiting order.waiting engine ≤ 0
nothing-taken lag order engine is none =
    let waiting : length order.waiting ≡ 0 = ap length (ap (λ (o : OrderState). o.waiting) is ∙ nothing_waits lag) in omega (arith, none, waiting)

-- an event that comes waits, where the mark hasn't reached it
pub running-arrived : (order next : OrderState) (engine : State) (event : Event) → next ≡ with_event order event → IsRunning order engine
    → IsRunning next engine
running-arrived order next engine event is h = subst (λ o. IsRunning o engine) (sym is)
    (record { takes = chosen (is_reached order.mark event.ts) refl; marked = h.marked }) where
      chosen : (b : Bool) → is_reached order.mark event.ts ≡ b → CanTake (if b then order.waiting else put_in_order event order.waiting) engine
      chosen true is = h.takes
      chosen false is = record {
        ready = h.takes.ready;
        upward = put-upward event order.waiting h.takes.upward;
        later = put-each (λ (e : Event). IsNotBefore engine.last e.ts) event order.waiting
            (later-unreached engine.last order.mark event.ts h.marked is) h.takes.later;
      }

length-put : (event : Event) (events : List Event) → length (put_in_order event events) ≡ length events + 1
length-put event [] = omega arith
length-put event (first ∷ later) = chosen (is_sooner first event) (length-put event later) where
  chosen : (b : Bool) → length (put_in_order event later) ≡ length later + 1
      → length (if b then first ∷ put_in_order event later else event ∷ first ∷ later) ≡ length (first ∷ later) + 1
  chosen true h = omega (arith, h)
  chosen false h = omega arith

pub one-more-waits : (order next : OrderState) (event : Event) → next ≡ with_event order event → length next.waiting ≤ length order.waiting + 1
one-more-waits order next event is = subst (λ (o : OrderState). length o.waiting ≤ length order.waiting + 1) (sym is)
    (chosen (is_reached order.mark event.ts)) where
      chosen : (b : Bool) → length (if b then order.waiting else put_in_order event order.waiting) ≤ length order.waiting + 1
      chosen true = omega arith
      chosen false = omega (arith, length-put event order.waiting)

-- the mark's own tick was taken behind the events that it released
pub running-marked : (time : ℤ) (order next : OrderState) (a b : State) → order.mark ≡ Some (At time) → next ≡ settled order → CanTake next.waiting a
    → IsReady b → b.last ≡ Some time → IsRunning next b
running-marked time order next a b mark rest h ready last = record {
  takes = record {
    ready = ready;
    upward = h.upward;
    later =
        subst (λ l. Each (λ (e : Event). IsNotBefore l e.ts) next.waiting) (sym last)
        (subst (Each (λ (e : Event). int_le time e.ts ≡ true)) (sym (ap (λ (o : OrderState). o.waiting) rest))
        (each-more (λ (e : Event). not (is_reached order.mark e.ts) ≡ true) (λ (e : Event). int_le time e.ts ≡ true) left
        (filter (λ (e : Event). not (is_reached order.mark e.ts)) order.waiting) (passing (λ (e : Event). not (is_reached order.mark e.ts)) order.waiting)));
  };
  marked = ap (option_map At) last ∙ sym mark ∙ sym (ap (λ (o : OrderState). o.mark) rest);
} where
  was_not : (b : Bool) → not b ≡ true → b ≡ false
  was_not true k = sym k
  was_not false k = refl

  left : (e : Event) → not (is_reached order.mark e.ts) ≡ true → int_le time e.ts ≡ true
  left e h = unreached e.ts time (ap (λ m. is_reached m e.ts) (sym mark) ∙ was_not (is_reached order.mark e.ts) h)

-- items that were handed out change nothing
pub stands-drained : (ticks : List Tick) (a b : State) → b ≡ record a { items = [] } → StandsFor ticks a → StandsFor ticks b
stands-drained ticks a b is h = subst (StandsFor ticks) (sym is) (record { parts = h.parts; last = h.last })
