use Rattle.std.proofs.Common.{refl, ℕ, subst, arith}
use Rattle.cep_event.specs.declared.record.LineRecord.TheVariants.{Row}
use Rattle.std.specs.Prelude.{Ok, Err}
use Rattle.std.proofs.lemmas.Result.{err_from_is_err_and}
use Rattle.cep_plan.specs.EventTime.{arrivals_of, ticks_of}
use Rattle.event_pipeline.proofs.RecordLaws.{row-at, gone-late}
use Rattle.event_pipeline.proofs.RunningLaws.{running-arrived, one-more-waits}
use Rattle.watermark_order.proofs.RecordLaws.{ticks_of-row}
use Rattle.event_pipeline.specs.Shown.{Shows, sizes_added}
use Rattle.event_pipeline.proofs.ShownLaws.{sizes_added-is, shows-none, shows-err}
use Rattle.event_pipeline.proofs.ticks.take_arrived.Goals as goal

pub follow-requires-clause-running : goal.follow-requires-clause-running
follow-requires-clause-running g c =
    running-arrived c.args.order.now c.arrive.new.order c.args.engine.now c.args.event c.in_ok-arrive.ensures.state c.requires.running

pub follow-requires-clause-room : goal.follow-requires-clause-room
follow-requires-clause-room g c = omega (arith, one-more-waits c.args.order.now c.arrive.new.order c.args.event c.in_ok-arrive.ensures.state, c.requires.room)

pub returns-clause-grown : goal.returns-clause-grown
returns-clause-grown g c = omega
    (arith, one-more-waits c.args.order.now c.arrive.new.order c.args.event c.in_ok-arrive.ensures.state, c.in_ok-greatest.ensures.kept)

pub returns-clause-gone : goal.returns-clause-gone
returns-clause-gone g c = λ lag records is stands.
    let before = arrivals_of lag records in
    row-at g.O.Outputs.tells g.O.Outputs.stops c.args.engine.now.plan c.args.engine.now.plan refl lag records c.args.event c.follow.new.order c.follow.new.engine
    (c.args.outputs.now, c.args.to.now) (c.arrive.new.outputs, c.arrive.new.to) (c.follow.new.outputs, c.follow.new.to) (Ok c.in_ok-greatest.greatest)
    (c.in_ok-arrive.ensures.told c.args.engine.now.plan lag before is)
    (c.in_ok-greatest.ensures.met lag before c.args.event (ticks_of lag records) (c.in_ok-arrive.ensures.order lag before is) stands)

pub returns-in_err-greatest-clause-gone : goal.returns-in_err-greatest-clause-gone
returns-in_err-greatest-clause-gone g c = λ lag records is stands.
    let before = arrivals_of lag records in
    let p = err_from_is_err_and c.from_residual-in_err-greatest.result c.from_residual-in_err-greatest.ensures.1 in
    rw (p.1, p.2)
    (row-at g.O.Outputs.tells g.O.Outputs.stops c.args.engine.now.plan c.args.engine.now.plan refl {T =
    ℕ} lag records c.args.event c.follow.new.order c.follow.new.engine
    (c.args.outputs.now, c.args.to.now) (c.arrive.new.outputs, c.arrive.new.to) (c.follow.new.outputs, c.follow.new.to) (Err c.in_err-greatest.field-0.0)
    (c.in_ok-arrive.ensures.told c.args.engine.now.plan lag before is)
    (c.in_err-greatest.ensures.met lag before c.args.event (ticks_of lag records) (c.in_ok-arrive.ensures.order lag before is) stands))

pub returns-in_err-arrive-clause-gone : goal.returns-in_err-arrive-clause-gone
returns-in_err-arrive-clause-gone g c = λ lag records is stands.
    let before = arrivals_of lag records in
    let p = err_from_is_err_and c.from_residual.result c.from_residual.ensures.1 in
    rw (p.1, p.2) (gone-late (g.O.Outputs.tells c.args.engine.now.plan)
    (g.O.Outputs.stops c.args.engine.now.plan) c.args.engine.now.plan lag records c.args.event (c.args.outputs.now, c.args.to.now)
    (c.arrive.new.outputs, c.arrive.new.to) c.in_err-arrive.field-0.0
    (c.in_err-arrive.ensures.told c.args.engine.now.plan lag before is))

pub returns-clause-shown : goal.returns-clause-shown
returns-clause-shown g c = λ lag records is stands.
    let before = arrivals_of lag records in
    subst (λ l. Shows (g.G.Gauge.seen c.args.gauge.now) (g.G.Gauge.seen c.follow.new.gauge) l (Ok c.in_ok-greatest.greatest))
    (sizes_added-is lag c.args.engine.now.plan records (Row c.args.event) _ (ticks_of-row lag records c.args.event))
    (c.in_ok-greatest.ensures.shown lag before c.args.event (ticks_of lag records) (c.in_ok-arrive.ensures.order lag before is) stands)

pub returns-in_err-greatest-clause-shown : goal.returns-in_err-greatest-clause-shown
returns-in_err-greatest-clause-shown g c = λ lag records is stands.
    let before = arrivals_of lag records in
    let p = err_from_is_err_and c.from_residual-in_err-greatest.result c.from_residual-in_err-greatest.ensures.1 in
    shows-err _ _ (sizes_added lag c.args.engine.now.plan records (Row c.args.event)) c.in_err-greatest.field-0.0 p.0 c.from_residual-in_err-greatest.result
    (subst (λ l. Shows (g.G.Gauge.seen c.args.gauge.now) (g.G.Gauge.seen c.follow.new.gauge) l (Err c.in_err-greatest.field-0.0))
    (sizes_added-is lag c.args.engine.now.plan records (Row c.args.event) _ (ticks_of-row lag records c.args.event))
    (c.in_err-greatest.ensures.shown lag before c.args.event (ticks_of lag records) (c.in_ok-arrive.ensures.order lag before is) stands)) p.1

pub returns-in_err-arrive-clause-shown : goal.returns-in_err-arrive-clause-shown
returns-in_err-arrive-clause-shown g c = λ lag records is stands.
    let p = err_from_is_err_and c.from_residual.result c.from_residual.ensures.1 in
    shows-none _ _ (sizes_added lag c.args.engine.now.plan records (Row c.args.event)) p.0 c.from_residual.result refl p.1
