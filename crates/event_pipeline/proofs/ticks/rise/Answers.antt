use Rattle.std.proofs.Common.{◌++◌, sym, ℕ, ap, subst, [], ◌∷◌, length, map, arith, to_z-of_z}
use Rattle.std.specs.Prelude.{Ok, Err}
use Rattle.std.proofs.lemmas.Result.{err_from_is_err_and}
use Rattle.cep_plan.specs.EventTime.{marked, ticks_after}
use Rattle.cep_plan.specs.Tick.{event_tick, mark_tick}
use Rattle.cep_event.specs.declared.record.Moment.TheVariants.{At}
use Rattle.watermark_order.specs.Order.{OrderState, ready}
use Rattle.event_pipeline.specs.Running.{CanTake}
use Rattle.sharing_laws.specs.Sizes.{sizes_from}
use Rattle.event_pipeline.specs.Shown.{Shows}
use Rattle.event_pipeline.specs.Telling.{StopsAmong}
use Rattle.event_pipeline.specs.Ticks.{Meets, told_more}
use Rattle.event_pipeline.proofs.RecordLaws.{raised-at, raised-cut, raised_ticks}
use Rattle.event_pipeline.proofs.ShownLaws.{shows-then, shows-part, shows-more}
use Rattle.event_pipeline.proofs.RunningLaws.{later-above, running-marked}
use Rattle.event_pipeline.proofs.ticks.rise.Goals as goal

pub take_ready-requires-clause-takes : goal.take_ready-requires-clause-takes
take_ready-requires-clause-takes g c = subst (λ (o : OrderState). CanTake o.waiting c.args.engine.now)
    (sym c.if-not-mark.ensures.state) c.requires.running.takes

pub take_ready-requires-clause-room : goal.take_ready-requires-clause-room
take_ready-requires-clause-room g c = omega (arith, ap (λ (o : OrderState). length o.waiting) c.if-not-mark.ensures.state, c.requires.room)

pub take_mark-requires-clause-room : goal.take_mark-requires-clause-room
take_mark-requires-clause-room g c = omega (
  arith,
  c.in_ok-greatest.ensures.kept,
  ap
      (λ (o : OrderState). length o.waiting) c.if-not-mark.ensures.state,
  c.requires.room,
)

pub take_mark-requires-clause-time : goal.take_mark-requires-clause-time
take_mark-requires-clause-time g c =
    c.in_ok-greatest.ensures.last _ (ap (λ (o : OrderState). o.mark) c.if-not-mark.ensures.state)
    (later-above c.args.engine.now.last c.args.order.now.mark _ c.requires.running.marked (sym c.if-not-mark.ensures.by_mark))

pub take_mark-requires-clause-stands : goal.take_mark-requires-clause-stands
take_mark-requires-clause-stands g c =
    let taken = c.in_ok-greatest.ensures.taken c.requires.stands.0 c.requires.stands.1 in
    (c.requires.stands.0 ++ map event_tick (ready c.mark.new.self), taken.stands)

pub returns-clause-running : goal.returns-clause-running
returns-clause-running g c =
    running-marked _ c.mark.new.self c.take_ready.new.order c.take_ready.new.engine c.take_mark.new.engine
    (ap (λ (o : OrderState). o.mark) c.if-not-mark.ensures.state) c.in_ok-greatest.ensures.settled c.in_ok-greatest.ensures.takes
    c.in_ok-held.ensures.ready c.in_ok-held.ensures.last

pub returns-clause-kept : goal.returns-clause-kept
returns-clause-kept g c = omega (
  arith,
  c.in_ok-held.ensures.position,
  c.in_ok-greatest.ensures.kept,
  ap
      (λ (o : OrderState). length o.waiting) c.if-not-mark.ensures.state,
)

pub returns-clause-met : goal.returns-clause-met
returns-clause-met g c = λ lag arrivals ticks is stands.
    let taken = c.in_ok-greatest.ensures.taken ticks stands in
    subst (λ t. Meets (g.O.Outputs.tells c.args.engine.now.plan) (g.O.Outputs.stops c.args.engine.now.plan) c.args.engine.now.plan lag arrivals
    (marked t ∷ []) ticks c.take_ready.new.order c.take_mark.new.engine (c.args.outputs.now, c.args.to.now) (c.take_mark.new.outputs, c.take_mark.new.to)
    (Ok c.in_ok-held.held)) (to_z-of_z c.ranges.time)
    (raised-at g.O.Outputs.tells g.O.Outputs.stops c.take_ready.new.engine.plan c.args.engine.now.plan c.take_ready.ensures.plan lag arrivals ticks _ c.mark.new.self (sym (c.if-not-mark.ensures.rises lag arrivals is)) (c.if-not-mark.ensures.hands lag arrivals is)
    c.take_ready.new.order c.take_ready.new.engine c.take_mark.new.engine (c.args.outputs.now, c.args.to.now) (c.take_ready.new.outputs, c.take_ready.new.to)
    (c.take_mark.new.outputs, c.take_mark.new.to) (Ok c.in_ok-held.held) c.in_ok-greatest.ensures.settled taken
    (c.in_ok-held.ensures.taken (ticks ++ map event_tick (ready c.mark.new.self)) taken.stands))

pub returns-in_err-held-clause-met : goal.returns-in_err-held-clause-met
returns-in_err-held-clause-met g c = λ lag arrivals ticks is stands.
    let taken = c.in_ok-greatest.ensures.taken ticks stands in
    let p = err_from_is_err_and c.from_residual-in_err-held.result c.from_residual-in_err-held.ensures.1 in
    rw (p.1, p.2) (subst (λ t. Meets {T = ℕ} (g.O.Outputs.tells c.args.engine.now.plan)
    (g.O.Outputs.stops c.args.engine.now.plan) c.args.engine.now.plan lag arrivals (marked t ∷ []) ticks c.take_ready.new.order c.take_mark.new.engine
    (c.args.outputs.now, c.args.to.now) (c.take_mark.new.outputs, c.take_mark.new.to) (Err c.in_err-held.field-0.0)) (to_z-of_z c.ranges.time)
    (raised-at g.O.Outputs.tells g.O.Outputs.stops c.take_ready.new.engine.plan c.args.engine.now.plan c.take_ready.ensures.plan lag arrivals ticks _ c.mark.new.self (sym (c.if-not-mark.ensures.rises lag arrivals is)) (c.if-not-mark.ensures.hands lag arrivals is) {T = ℕ}
    c.take_ready.new.order c.take_ready.new.engine c.take_mark.new.engine (c.args.outputs.now, c.args.to.now) (c.take_ready.new.outputs, c.take_ready.new.to)
    (c.take_mark.new.outputs, c.take_mark.new.to) (Err c.in_err-held.field-0.0) c.in_ok-greatest.ensures.settled taken
    (c.in_err-held.ensures.taken (ticks ++ map event_tick (ready c.mark.new.self)) taken.stands)))

pub returns-in_err-greatest-clause-met : goal.returns-in_err-greatest-clause-met
returns-in_err-greatest-clause-met g c = λ lag arrivals ticks is stands.
    let p = err_from_is_err_and c.from_residual.result c.from_residual.ensures.1 in
    rw (p.1, p.2) (subst (λ t. StopsAmong (g.O.Outputs.tells c.args.engine.now.plan) (g.O.Outputs.stops c.args.engine.now.plan) c.in_err-greatest.field-0.0
    (c.args.outputs.now, c.args.to.now) (c.take_ready.new.outputs, c.take_ready.new.to)
    (told_more c.args.engine.now.plan ticks (ticks_after arrivals (marked t ∷ [])))) (to_z-of_z c.ranges.time)
    (raised-cut (g.O.Outputs.tells c.args.engine.now.plan)
    (g.O.Outputs.stops c.args.engine.now.plan) c.args.engine.now.plan lag arrivals ticks _ c.mark.new.self
    (sym (c.if-not-mark.ensures.rises lag arrivals is)) (c.if-not-mark.ensures.hands lag arrivals is)
    (c.args.outputs.now, c.args.to.now) (c.take_ready.new.outputs, c.take_ready.new.to) c.in_err-greatest.field-0.0
    (c.in_err-greatest.ensures.taken ticks stands)))

pub returns-clause-shown : goal.returns-clause-shown
returns-clause-shown g c = λ lag arrivals ticks is stands.
    let plan = c.args.engine.now.plan in
    let events = map event_tick (ready c.mark.new.self) in
    let time = to_z-of_z c.ranges.time in
    let taken = c.in_ok-greatest.ensures.taken ticks stands in
    let all = raised_ticks arrivals _ c.mark.new.self _ (sym (c.if-not-mark.ensures.rises lag arrivals is)) (c.if-not-mark.ensures.hands lag arrivals is) in
    subst (λ t. Shows (g.G.Gauge.seen c.args.gauge.now) (g.G.Gauge.seen c.take_mark.new.gauge) (sizes_from plan ticks (ticks_after arrivals (marked t ∷ [])))
    (Ok c.greater.result)) time
    (subst (λ l. Shows (g.G.Gauge.seen c.args.gauge.now) (g.G.Gauge.seen c.take_mark.new.gauge) (sizes_from plan ticks l) (Ok c.greater.result)) all
    (shows-then c.take_ready.new.engine.plan plan c.take_ready.ensures.plan ticks events _ (g.G.Gauge.seen c.args.gauge.now)
    (g.G.Gauge.seen c.take_ready.new.gauge) (g.G.Gauge.seen c.take_mark.new.gauge)
    c.in_ok-greatest.greatest c.in_ok-held.held c.greater.result c.greater.ensures (c.in_ok-greatest.ensures.shown ticks stands)
    (c.in_ok-held.ensures.shown (ticks ++ events) taken.stands)))

pub returns-in_err-held-clause-shown : goal.returns-in_err-held-clause-shown
returns-in_err-held-clause-shown g c = λ lag arrivals ticks is stands.
    let plan = c.args.engine.now.plan in
    let events = map event_tick (ready c.mark.new.self) in
    let time = to_z-of_z c.ranges.time in
    let taken = c.in_ok-greatest.ensures.taken ticks stands in
    let p = err_from_is_err_and c.from_residual-in_err-held.result c.from_residual-in_err-held.ensures.1 in
    let all = raised_ticks arrivals _ c.mark.new.self _ (sym (c.if-not-mark.ensures.rises lag arrivals is)) (c.if-not-mark.ensures.hands lag arrivals is) in
    subst (λ t. Shows (g.G.Gauge.seen c.args.gauge.now) (g.G.Gauge.seen c.take_mark.new.gauge)
    (sizes_from plan ticks (ticks_after arrivals (marked t ∷ []))) c.from_residual-in_err-held.result) time
    (subst (λ l. Shows (g.G.Gauge.seen c.args.gauge.now) (g.G.Gauge.seen c.take_mark.new.gauge)
    (sizes_from plan ticks l) c.from_residual-in_err-held.result) all
    (shows-part c.take_ready.new.engine.plan plan c.take_ready.ensures.plan ticks events _ (g.G.Gauge.seen c.args.gauge.now)
    (g.G.Gauge.seen c.take_ready.new.gauge) (g.G.Gauge.seen c.take_mark.new.gauge)
    c.in_ok-greatest.greatest c.in_err-held.field-0.0 p.0 c.from_residual-in_err-held.result (c.in_ok-greatest.ensures.shown ticks stands)
    (c.in_err-held.ensures.shown (ticks ++ events) taken.stands) p.1))

pub returns-in_err-greatest-clause-shown : goal.returns-in_err-greatest-clause-shown
returns-in_err-greatest-clause-shown g c = λ lag arrivals ticks is stands.
    let plan = c.args.engine.now.plan in
    let time = to_z-of_z c.ranges.time in
    let p = err_from_is_err_and c.from_residual.result c.from_residual.ensures.1 in
    let all = raised_ticks arrivals _ c.mark.new.self _ (sym (c.if-not-mark.ensures.rises lag arrivals is)) (c.if-not-mark.ensures.hands lag arrivals is) in
    subst (λ t. Shows (g.G.Gauge.seen c.args.gauge.now) (g.G.Gauge.seen c.take_ready.new.gauge)
    (sizes_from plan ticks (ticks_after arrivals (marked t ∷ []))) c.from_residual.result) time
    (subst (λ l. Shows (g.G.Gauge.seen c.args.gauge.now) (g.G.Gauge.seen c.take_ready.new.gauge) (sizes_from plan ticks l) c.from_residual.result) all
    (shows-more plan ticks (map event_tick (ready c.mark.new.self)) (mark_tick (At _) ∷ []) (g.G.Gauge.seen c.args.gauge.now)
    (g.G.Gauge.seen c.take_ready.new.gauge) c.in_err-greatest.field-0.0 p.0 c.from_residual.result
    (c.in_err-greatest.ensures.shown ticks stands) p.1))
