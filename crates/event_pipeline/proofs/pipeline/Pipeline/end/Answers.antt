use Rattle.std.proofs.Common.{◌++◌, sym, ◌∙◌, ap, subst, length, map, arith}
use Rattle.std.specs.Prelude.{Ok, Err}
use Rattle.std.proofs.lemmas.Result.{err_from_is_err_and}
use Rattle.cep_plan.specs.declared.plan.Plan.{Plan}
use Rattle.cep_plan.specs.EventTime.{arrivals_of, ticks_of}
use Rattle.cep_plan.specs.Tick.{event_tick}
use Rattle.watermark_order.specs.Order.{OrderState, ready}
use Rattle.event_pipeline.specs.Running.{CanTake}
use Rattle.event_pipeline.specs.Telling.{Tells, StopsAmong}
use Rattle.event_pipeline.specs.Told.{told_at_end}
use Rattle.sharing_laws.specs.Sizes.{sizes_from}
use Rattle.event_pipeline.specs.Shown.{Shows, sizes_at_end}
use Rattle.event_pipeline.proofs.TellLaws.{tells-err}
use Rattle.event_pipeline.proofs.ShownLaws.{shows-whole, shows-err}
use Rattle.event_pipeline.proofs.RecordLaws.{ended-at, ended-cut}
use Rattle.event_pipeline.proofs.pipeline.Pipeline.end.Goals as goal

pub take_ready-requires-clause-takes : goal.take_ready-requires-clause-takes
take_ready-requires-clause-takes g c = subst (λ (o : OrderState). CanTake o.waiting c.args.self.engine) (sym c.end.ensures.state) c.requires.3.running.takes

pub take_ready-requires-clause-room : goal.take_ready-requires-clause-room
take_ready-requires-clause-room g c = omega (arith, ap (λ (o : OrderState). length o.waiting) c.end.ensures.state, c.requires.3.within, c.requires.4)

pub take_ready-requires-clause-stands : goal.take_ready-requires-clause-stands
take_ready-requires-clause-stands g c = (_, c.requires.3.ticked)

pub finish-requires-clause-room : goal.finish-requires-clause-room
finish-requires-clause-room g c = omega (
  arith,
  c.in_ok-greatest.ensures.kept,
  ap
      (λ (o : OrderState). length o.waiting) c.end.ensures.state,
  c.requires.3.within,
  c.requires.4,
)

pub finish-requires-clause-stands : goal.finish-requires-clause-stands
finish-requires-clause-stands g c = (_, (c.in_ok-greatest.ensures.taken (ticks_of c.requires.0 c.requires.2) c.requires.3.ticked).stands)

pub returns-clause-told : goal.returns-clause-told
returns-clause-told g c = λ lag plan records h.
    let order = c.end.new.self in
    let e = c.in_ok-greatest.ensures in
    let taken = e.taken (ticks_of lag records) h.ticked in
    subst (λ p. Tells (g.O.Outputs.tells p) (g.O.Outputs.stops p) (c.args.outputs.now, c.args.to.now) (c.finish.new.outputs, c.finish.new.to)
    (told_at_end lag p records) (Ok c.in_ok-greatest.greatest)) h.planned
    (ended-at g.O.Outputs.tells g.O.Outputs.stops c.take_ready.new.engine.plan c.args.self.engine.plan e.plan lag records order _
    (c.end.ensures.hands lag (arrivals_of lag records) h.ordered)
    (c.args.outputs.now, c.args.to.now) (c.take_ready.new.outputs, c.take_ready.new.to) (c.finish.new.outputs, c.finish.new.to) (Ok tt) taken.told
    (c.in_ok-finish.ensures (ticks_of lag records ++ map event_tick (ready order)) taken.stands))

pub returns-in_err-finish-clause-told : goal.returns-in_err-finish-clause-told
returns-in_err-finish-clause-told g c = λ lag plan records h.
    let order = c.end.new.self in
    let e = c.in_ok-greatest.ensures in
    let taken = e.taken (ticks_of lag records) h.ticked in
    let p = err_from_is_err_and c.from_residual-in_err-finish.result c.from_residual-in_err-finish.ensures.1 in
    tells-err (g.O.Outputs.tells plan) (g.O.Outputs.stops plan) (c.args.outputs.now, c.args.to.now) (c.finish.new.outputs, c.finish.new.to)
    (told_at_end lag plan records) c.in_err-finish.field-0.0 c.from_residual-in_err-finish.result
    (subst (λ q. StopsAmong (g.O.Outputs.tells q) (g.O.Outputs.stops q) c.in_err-finish.field-0.0 (c.args.outputs.now, c.args.to.now)
    (c.finish.new.outputs, c.finish.new.to) (told_at_end lag q records)) h.planned
    (ended-at g.O.Outputs.tells g.O.Outputs.stops c.take_ready.new.engine.plan c.args.self.engine.plan e.plan lag records order _
    (c.end.ensures.hands lag (arrivals_of lag records) h.ordered)
    (c.args.outputs.now, c.args.to.now) (c.take_ready.new.outputs, c.take_ready.new.to) (c.finish.new.outputs, c.finish.new.to)
    (Err c.in_err-finish.field-0.0) taken.told (c.in_err-finish.ensures (ticks_of lag records ++ map event_tick (ready order)) taken.stands)))
    (p.1 ∙ ap (λ e. Err e) p.2)

pub returns-in_err-greatest-clause-told : goal.returns-in_err-greatest-clause-told
returns-in_err-greatest-clause-told g c = λ lag plan records h.
    let order = c.end.new.self in
    let p = err_from_is_err_and c.from_residual.result c.from_residual.ensures.1 in
    rw (p.1, p.2) (subst (λ q. StopsAmong (g.O.Outputs.tells q) (g.O.Outputs.stops q) c.in_err-greatest.field-0.0 (c.args.outputs.now, c.args.to.now)
    (c.take_ready.new.outputs, c.take_ready.new.to) (told_at_end lag q records)) h.planned
    (ended-cut (g.O.Outputs.tells c.args.self.engine.plan) (g.O.Outputs.stops c.args.self.engine.plan) c.args.self.engine.plan lag records order _
    (c.end.ensures.hands lag (arrivals_of lag records) h.ordered)
    (c.args.outputs.now, c.args.to.now) (c.take_ready.new.outputs, c.take_ready.new.to) c.in_err-greatest.field-0.0
    (c.in_err-greatest.ensures.taken (ticks_of lag records) h.ticked)))

pub returns-clause-shown : goal.returns-clause-shown
returns-clause-shown g c = λ lag plan records h.
    let hands = c.end.ensures.hands lag (arrivals_of lag records) h.ordered in
    subst (λ (p : Plan). Shows (g.G.Gauge.seen c.args.gauge.now) (g.G.Gauge.seen c.take_ready.new.gauge) (sizes_at_end lag p records)
    (Ok c.in_ok-greatest.greatest)) h.planned
    (subst (λ l. Shows (g.G.Gauge.seen c.args.gauge.now) (g.G.Gauge.seen c.take_ready.new.gauge)
    (sizes_from c.args.self.engine.plan (ticks_of lag records) (map event_tick l)) (Ok c.in_ok-greatest.greatest)) hands.events_ready
    (c.in_ok-greatest.ensures.shown (ticks_of lag records) h.ticked))

pub returns-in_err-finish-clause-shown : goal.returns-in_err-finish-clause-shown
returns-in_err-finish-clause-shown g c = λ lag plan records h.
    let hands = c.end.ensures.hands lag (arrivals_of lag records) h.ordered in
    let p = err_from_is_err_and c.from_residual-in_err-finish.result c.from_residual-in_err-finish.ensures.1 in
    let all = subst (λ (p : Plan). Shows (g.G.Gauge.seen c.args.gauge.now) (g.G.Gauge.seen c.take_ready.new.gauge) (sizes_at_end lag p records)
    (Ok c.in_ok-greatest.greatest)) h.planned
    (subst (λ l. Shows (g.G.Gauge.seen c.args.gauge.now) (g.G.Gauge.seen c.take_ready.new.gauge)
    (sizes_from c.args.self.engine.plan (ticks_of lag records) (map event_tick l)) (Ok c.in_ok-greatest.greatest)) hands.events_ready
    (c.in_ok-greatest.ensures.shown (ticks_of lag records) h.ticked)) in
    shows-whole _ _ (sizes_at_end lag plan records) p.0 c.from_residual-in_err-finish.result all.0 p.1

pub returns-in_err-greatest-clause-shown : goal.returns-in_err-greatest-clause-shown
returns-in_err-greatest-clause-shown g c = λ lag plan records h.
    let hands = c.end.ensures.hands lag (arrivals_of lag records) h.ordered in
    let p = err_from_is_err_and c.from_residual.result c.from_residual.ensures.1 in
    shows-err _ _ (sizes_at_end lag plan records) c.in_err-greatest.field-0.0 p.0 c.from_residual.result
    (subst (λ (p : Plan). Shows (g.G.Gauge.seen c.args.gauge.now) (g.G.Gauge.seen c.take_ready.new.gauge) (sizes_at_end lag p records)
    (Err c.in_err-greatest.field-0.0)) h.planned
    (subst (λ l. Shows (g.G.Gauge.seen c.args.gauge.now) (g.G.Gauge.seen c.take_ready.new.gauge)
    (sizes_from c.args.self.engine.plan (ticks_of lag records) (map event_tick l)) (Err c.in_err-greatest.field-0.0)) hands.events_ready
    (c.in_err-greatest.ensures.shown (ticks_of lag records) h.ticked))) p.1
