-- One mark, one record and the end, from what arrives to what is told.
use Rattle.std.proofs.Common.{◌≡◌, ◌≤◌, refl, sym, ◌∙◌, ap, subst, ℕ, length, Bool, true, false, List, [], ◌∷◌, ◌++◌, map, append_assoc, append-nil, length-append, ◌+◌, arith, Option, None}
use Rattle.std.specs.Prelude.{OnOk, ℤ, Result, Ok, Err, if◌then◌else◌}
use Rattle.cep_event.specs.declared.event.Event.{Event}
use Rattle.cep_event.specs.declared.record.LineRecord.{LineRecord}
use Rattle.cep_event.specs.declared.record.LineRecord.TheVariants.{Blank, Mark, Row}
use Rattle.cep_event.specs.declared.record.Moment.TheVariants.{At, End}
use Rattle.cep_plan.specs.declared.plan.Plan.{Plan}
use Rattle.cep_plan.specs.EventTime.{Arrival, arrived, marked, rises, released, marks_behind, arrivals_of, ticks_of, ticks_of_mark, ticks_of_end, ticks_after}
use Rattle.cep_plan.specs.Tick.{Tick, event_tick, mark_tick}
use Rattle.cep_plan.specs.Keys.{kept_at}
use Rattle.cep_engine.specs.State.{State, StandsFor}
use Rattle.watermark_order.specs.Order.{OrderState, order_of, ready, settled, event_times, HandsOut}
use Rattle.watermark_order.proofs.OrderLaws.{order_of-stays, rises_is}
use Rattle.watermark_order.proofs.RecordLaws.{ticks_of-nothing, arrivals_of-blank, arrivals_of-mark, arrivals_of-row, ticks_of-blank, ticks_of-mark, ticks_of-row, ticks_of_end_is}
use Rattle.event_pipeline.specs.declared.outputs.TellFault.{TellFault}
use Rattle.event_pipeline.specs.Told.{Told, item_told, added_items, told_of, told_at_end}
use Rattle.event_pipeline.specs.Telling.{AreTold, StopsAmong, Tells}
use Rattle.event_pipeline.specs.Ticks.{HasTaken, Takes, HasMet, Meets, HasGone, Goes, told_late, told_more}
use Rattle.event_pipeline.proofs.TellLaws.{told-then, cut-later, cut-more, tells-then}
use Rattle.event_pipeline.specs.declared.pipeline.Pipeline.{Pipeline}
use Rattle.event_pipeline.specs.Handled.{HasHandled, Handles}
use Rattle.event_pipeline.specs.Running.{IsRunning, taken_and_waiting}
use Rattle.event_pipeline.proofs.RunningLaws.{running-begun, nothing-taken}
use Rattle.event_pipeline.proofs.TickLaws.{taken-nothing, takes-then, takes-cut, added-more, ticks_after-one, told_more-append, told_more-one}

-- ---- no record

pub begun : (lag : Option ℕ) (plan : Plan) (order : OrderState) (engine : State) → order ≡ order_of lag [] → engine.plan ≡ plan → StandsFor [] engine
    → engine.items ≡ [] → length plan.stages ≤ 65536
    → engine.last ≡ None → engine.runs.position ≡ 0 → engine.spent ≡ false → HasHandled lag plan [] (record { order = order; engine = engine })
begun lag plan order engine is same stands empty few last none fresh = record {
  planned = same;
  ordered = is;
  ticked = subst (λ t. StandsFor t engine) (sym (ticks_of-nothing lag)) stands;
  running = running-begun lag order engine is last (record {
    fresh = fresh;
    drained = empty;
    few = subst (λ (p : Plan). length p.stages ≤ 65536)
        (sym same) few;
  });
  within = nothing-taken lag order engine is none;
}

-- ---- a mark

-- the ticks of one mark behind arrivals
pub mark_ticks : (arrivals : List Arrival) (time : ℤ) (b : Bool) → rises arrivals time ≡ b
    → (if b then ticks_of_mark arrivals (At time) else []) ≡ ticks_after arrivals (marked time ∷ [])
mark_ticks arrivals time b is = ap (λ c. if c then ticks_of_mark arrivals (At time) else []) (sym is) ∙ sym (ticks_after-one arrivals time)

pub raised_ticks : (arrivals : List Arrival) (time : ℤ) (o after : OrderState) → rises arrivals time ≡ true → HandsOut o (released arrivals (At time)) after
    → map event_tick (ready o) ++ mark_tick (At time) ∷ [] ≡ ticks_after arrivals (marked time ∷ [])
raised_ticks arrivals time o after up hands = ap (λ l. map event_tick l ++ mark_tick (At time) ∷ []) hands.events_ready ∙ mark_ticks arrivals time true up

module _ {S : Type 0} (tells : S → S → Told → Type 0) (plan : Plan) (lag : Option ℕ) (arrivals : List Arrival) (ticks : List Tick) (o : OrderState)
    (now : State) (a : S) where
  -- a mark that doesn't rise
  pub not-raised : (time : ℤ) (p : OrderState) → o ≡ order_of lag arrivals → StandsFor ticks now → rises arrivals time ≡ false → p ≡ o
      → HasMet tells plan lag arrivals (marked time ∷ []) ticks p now a a
  not-raised time p is stands low same = record {
    order_is = same ∙ is ∙ sym (order_of-stays lag arrivals time (sym (rises_is arrivals time) ∙ low));
    taken = subst (λ l. HasTaken tells plan ticks l now a a) (mark_ticks arrivals time false low) (taken-nothing tells plan ticks now a stands);
  }

  -- no mark behind an event
  pub met-nothing : (more : List Arrival) → more ≡ [] → o ≡ order_of lag arrivals → StandsFor ticks now → HasMet tells plan lag arrivals more ticks o now a a
  met-nothing more none is stands = subst (λ l. HasMet tells plan lag arrivals l ticks o now a a) (sym none) (record {
    order_is = is ∙ ap (order_of lag) (sym (append-nil arrivals));
    taken = taken-nothing tells plan ticks now a stands;
  })

module _ {S : Type 0} (tells : S → S → Told → Type 0) (stops : TellFault → S → S → Told → Type 0) (plan : Plan) where
  module _ (lag : Option ℕ) (arrivals : List Arrival) (ticks : List Tick) (time : ℤ) (o : OrderState) (up : rises arrivals time ≡ true)
      (hands : HandsOut o (released arrivals (At time)) (order_of lag (arrivals ++ marked time ∷ []))) where
    -- a mark that rises: its events were taken, and its own tick was, or telling stopped at it
    pub raised : {T : Type 0} (p : OrderState) (mid now : State) (a m b : S) (r : Result T TellFault) → p ≡ settled o
        → HasTaken tells plan ticks (map event_tick (ready o)) mid a m
        → Takes tells stops plan (ticks ++ map event_tick (ready o)) (mark_tick (At time) ∷ []) now m b r
        → Meets tells stops plan lag arrivals (marked time ∷ []) ticks p now a b r
    raised {T = T} p mid now a m b r rest events mark =
        whole r (subst (λ l. Takes tells stops plan ticks l now a b r) (raised_ticks arrivals time o (order_of lag (arrivals ++ marked time ∷ [])) up hands)
        (takes-then tells stops plan ticks (map event_tick (ready o)) (mark_tick (At time) ∷ []) mid now a m b r events mark))
      where
        whole : (q : Result T TellFault) → Takes tells stops plan ticks (ticks_after arrivals (marked time ∷ [])) now a b q
            → Meets tells stops plan lag arrivals (marked time ∷ []) ticks p now a b q
        whole (Ok done) taken = record { order_is = rest ∙ hands.then_settled; taken = taken }
        whole (Err fault) stopped = stopped

    -- telling stopped among its events
    pub raised-cut : (a b : S) (fault : TellFault) → StopsAmong tells stops fault a b (told_more plan ticks (map event_tick (ready o)))
        → StopsAmong tells stops fault a b (told_more plan ticks (ticks_after arrivals (marked time ∷ [])))
    raised-cut a b fault stopped =
        subst (λ l. StopsAmong tells stops fault a b (told_more plan ticks l))
        (raised_ticks arrivals time o (order_of lag (arrivals ++ marked time ∷ [])) up hands)
        (takes-cut tells stops plan ticks (map event_tick (ready o)) (mark_tick (At time) ∷ []) a b fault stopped)

  -- ---- a record

  module _ (lag : Option ℕ) (records : List LineRecord) where
    pub gone-blank : (next : LineRecord) (o : OrderState) (now : State) (a : S) → next ≡ Blank → o ≡ order_of lag (arrivals_of lag records)
        → StandsFor (ticks_of lag records) now
        → HasGone tells plan lag records next o now a a
    gone-blank next o now a blank is stands = subst (λ n. HasGone tells plan lag records n o now a a) (sym blank) (record {
      order_is = is ∙ ap (order_of lag) (sym (arrivals_of-blank lag records));
      stands = subst (λ t. StandsFor t now) (sym (ticks_of-blank lag records)) stands;
      told =
          subst (λ l. AreTold tells a a (map item_told l))
          (sym (added-more plan (ticks_of lag records) []) ∙ ap (added_items plan (ticks_of lag records))
          (append-nil (ticks_of lag records) ∙ sym (ticks_of-blank lag records))) refl;
    })

    told-mark : (time : ℤ) → told_more plan (ticks_of lag records) (ticks_after (arrivals_of lag records) (marked time ∷ []))
        ≡ told_of lag plan records (Mark time)
    told-mark time =
        ap (map item_told) (sym (added-more plan (ticks_of lag records) (ticks_after (arrivals_of lag records) (marked time ∷ [])))
        ∙ ap (added_items plan (ticks_of lag records)) (ap (λ l. ticks_of lag records ++ l) (ticks_after-one (arrivals_of lag records) time)
        ∙ sym (ticks_of-mark lag records time)))

    pub gone-mark : {T : Type 0} (time : ℤ) (o : OrderState) (now : State) (a b : S) (r : Result T TellFault)
        → Meets tells stops plan lag (arrivals_of lag records) (marked time ∷ []) (ticks_of lag records) o now a b r
        → Goes tells stops plan lag records (Mark time) o now a b r
    gone-mark time o now a b (Ok done) met = record {
      order_is = met.order_is ∙ ap (order_of lag) (sym (arrivals_of-mark lag records time));
      stands = subst (λ t. StandsFor t now) (ap (λ l. ticks_of lag records ++ l) (ticks_after-one (arrivals_of lag records) time)
          ∙ sym (ticks_of-mark lag records time)) met.taken.stands;
      told = subst (AreTold tells a b) (told-mark time) met.taken.told;
    }
    gone-mark time o now a b (Err fault) stopped = subst (StopsAmong tells stops fault a b) (told-mark time) stopped

    module _ (event : Event) where
      abbrev behind : List Arrival
      behind = marks_behind lag (event_times (arrivals_of lag records)) event.ts

      abbrev row_ticks : List Tick
      row_ticks = ticks_after (arrivals_of lag records ++ arrived event ∷ []) behind

      told-row : told_late (arrivals_of lag records) event ++ told_more plan (ticks_of lag records) row_ticks ≡ told_of lag plan records (Row event)
      told-row =
          ap (λ l. told_late (arrivals_of lag records) event ++ map item_told l)
          (sym (added-more plan (ticks_of lag records) row_ticks) ∙ ap (added_items plan (ticks_of lag records)) (sym (ticks_of-row lag records event)))

      pub gone-row : {T : Type 0} (o : OrderState) (now : State) (a m b : S) (r : Result T TellFault)
          → AreTold tells a m (told_late (arrivals_of lag records) event)
          → Meets tells stops plan lag (arrivals_of lag records ++ arrived event ∷ []) behind (ticks_of lag records) o now m b r
          → Goes tells stops plan lag records (Row event) o now a b r
      gone-row o now a m b (Ok done) late met = record {
        order_is = met.order_is ∙ ap (order_of lag) (append_assoc (arrivals_of lag records) (arrived event ∷ []) behind
            ∙ sym (arrivals_of-row lag records event));
        stands = subst (λ t. StandsFor t now) (sym (ticks_of-row lag records event)) met.taken.stands;
        told = subst (AreTold tells a b) told-row (told-then tells a m b (told_late (arrivals_of lag records) event)
            (told_more plan (ticks_of lag records) row_ticks) late met.taken.told);
      }
      gone-row o now a m b (Err fault) late stopped =
          subst (StopsAmong tells stops fault a b) told-row (cut-later tells stops fault a m b (told_late (arrivals_of lag records) event)
          (told_more plan (ticks_of lag records) row_ticks) late stopped)

      -- telling stopped at the late event
      pub gone-late : (a b : S) (fault : TellFault) → StopsAmong tells stops fault a b (told_late (arrivals_of lag records) event)
          → StopsAmong tells stops fault a b (told_of lag plan records (Row event))
      gone-late a b fault stopped =
          subst (StopsAmong tells stops fault a b) told-row (cut-more tells stops fault a b (told_late (arrivals_of lag records) event)
          (told_more plan (ticks_of lag records) row_ticks) stopped)

    -- ---- the end

    module _ (o after : OrderState) (hands : HandsOut o (released (arrivals_of lag records) End) after) where
      end-told : told_more plan (ticks_of lag records) (map event_tick (ready o))
          ++ map item_told (kept_at plan (ticks_of lag records ++ map event_tick (ready o)) (mark_tick End)) ≡ told_at_end lag plan records
      end-told =
          let ticks = ticks_of lag records in
          let events = map event_tick (ready o) in
          let last : List Tick = mark_tick End ∷ [] in
          let ends : ticks_of_end lag records ≡ events ++ last = ticks_of_end_is lag records ∙ ap (λ l. map event_tick l ++ last) (sym hands.events_ready) in
          ap (λ l. told_more plan ticks events ++ l) (sym (told_more-one plan (ticks ++ events) (mark_tick End)))
          ∙ sym (told_more-append plan ticks events last)
          ∙ ap (map item_told) (sym (added-more plan ticks (events ++ last)) ∙ ap (λ l. added_items plan ticks (ticks ++ l)) (sym ends))

      pub ended : (a m b : S) (r : Result Unit TellFault) → AreTold tells a m (told_more plan (ticks_of lag records) (map event_tick (ready o)))
          → Tells tells stops m b (map item_told (kept_at plan (ticks_of lag records ++ map event_tick (ready o)) (mark_tick End))) r
          → Tells tells stops a b (told_at_end lag plan records) r
      ended a m b r events last =
          subst (λ l. Tells tells stops a b l r) end-told
          (tells-then tells stops a m b (told_more plan (ticks_of lag records) (map event_tick (ready o)))
          (map item_told (kept_at plan (ticks_of lag records ++ map event_tick (ready o)) (mark_tick End))) r events last)

      pub ended-cut : (a b : S) (fault : TellFault) → StopsAmong tells stops fault a b (told_more plan (ticks_of lag records) (map event_tick (ready o)))
          → StopsAmong tells stops fault a b (told_at_end lag plan records)
      ended-cut a b fault stopped =
          subst (StopsAmong tells stops fault a b) end-told
          (cut-more tells stops fault a b (told_more plan (ticks_of lag records) (map event_tick (ready o)))
          (map item_told (kept_at plan (ticks_of lag records ++ map event_tick (ready o)) (mark_tick End))) stopped)

-- the same, where what the mark's tick did is said of another name of the plan
module _ {S : Type 0} (tells : Plan → S → S → Told → Type 0) (stops : Plan → TellFault → S → S → Told → Type 0) (shown plan : Plan) (same : shown ≡ plan) where
  module _ (lag : Option ℕ) (arrivals : List Arrival) (ticks : List Tick) (time : ℤ) (o : OrderState) (up : rises arrivals time ≡ true)
      (hands : HandsOut o (released arrivals (At time)) (order_of lag (arrivals ++ marked time ∷ []))) where
    pub raised-at : {T : Type 0} (p : OrderState) (mid now : State) (a m b : S) (r : Result T TellFault) → p ≡ settled o
        → HasTaken (tells plan) plan ticks (map event_tick (ready o)) mid a m
        → Takes (tells shown) (stops shown) shown (ticks ++ map event_tick (ready o)) (mark_tick (At time) ∷ []) now m b r
        → Meets (tells plan) (stops plan) plan lag arrivals (marked time ∷ []) ticks p now a b r
    raised-at p mid now a m b r rest events mark =
        raised (tells plan) (stops plan) plan lag arrivals ticks time o up hands p mid now a m b r rest events
        (subst (λ q. Takes (tells q) (stops q) q (ticks ++ map event_tick (ready o)) (mark_tick (At time) ∷ []) now m b r) same mark)

  pub row-at : {T : Type 0} (lag : Option ℕ) (records : List LineRecord) (event : Event) (o : OrderState) (now : State) (a m b : S) (r : Result T TellFault)
      → AreTold (tells plan) a m (told_late (arrivals_of lag records) event)
      → Meets (tells shown) (stops shown) shown lag (arrivals_of lag records ++ arrived event ∷ [])
      (marks_behind lag (event_times (arrivals_of lag records)) event.ts) (ticks_of lag records) o now m b r
      → Goes (tells plan) (stops plan) plan lag records (Row event) o now a b r
  row-at lag records event o now a m b r late met =
      gone-row (tells plan) (stops plan) plan lag records event o now a m b r late
      (subst (λ q. Meets (tells q) (stops q) q lag (arrivals_of lag records ++ arrived event ∷ [])
      (marks_behind lag (event_times (arrivals_of lag records)) event.ts) (ticks_of lag records) o now m b r) same met)

  pub ended-at : (lag : Option ℕ) (records : List LineRecord) (o after : OrderState) (hands : HandsOut o (released (arrivals_of lag records) End) after)
      (a m b : S) (r : Result Unit TellFault)
      → AreTold (tells plan) a m (told_more plan (ticks_of lag records) (map event_tick (ready o)))
      → Tells (tells shown) (stops shown) m b (map item_told (kept_at shown (ticks_of lag records ++ map event_tick (ready o)) (mark_tick End))) r
      → Tells (tells plan) (stops plan) a b (told_at_end lag plan records) r
  ended-at lag records o after hands a m b r events last =
      ended (tells plan) (stops plan) plan lag records o after hands a m b r events
      (subst (λ q. Tells (tells q) (stops q) m b (map item_told (kept_at q (ticks_of lag records ++ map event_tick (ready o)) (mark_tick End))) r) same last)

-- ---- a pipeline

-- a record was taken
pub handles : {S T : Type 0} (tells : Plan → S → S → Told → Type 0) (stops : Plan → TellFault → S → S → Told → Type 0) (lag : Option ℕ) (plan : Plan)
    (records : List LineRecord) (next : LineRecord) (p q : Pipeline) (a b : S) (r : Result T TellFault)
    → HasHandled lag plan records p → q.engine.plan ≡ p.engine.plan → OnOk r (IsRunning q.order q.engine)
    → OnOk r (taken_and_waiting q.order.waiting q.engine ≤ taken_and_waiting p.order.waiting p.engine + 1)
    → Goes (tells p.engine.plan) (stops p.engine.plan) p.engine.plan lag records next q.order q.engine a b r
    → Handles (tells plan) (stops plan) lag plan records next q a b r
handles tells stops lag plan records next p q a b (Ok done) h same running grown gone = (
  record {
    planned = same ∙ h.planned;
    ordered = gone.order_is;
    ticked = gone.stands;
    running = running;
    within = omega (arith, grown, h.within, length-append records (next ∷ []));
  },
  subst (λ l. AreTold (tells l) a b (told_of lag l records next)) h.planned gone.told,
)
handles tells stops lag plan records next p q a b (Err fault) h same running grown stopped =
    subst (λ l. StopsAmong (tells l) (stops l) fault a b (told_of lag l records next)) h.planned stopped
