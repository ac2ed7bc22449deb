use Rattle.std.proofs.Common.{◌∙◌, [], ◌∷◌, ◌++◌, ap, sym, subst, to_z-of_z}
use Rattle.cep_event.specs.declared.record.LineRecord.TheVariants.{Mark}
use Rattle.cep_plan.specs.EventTime.{arrivals_of, ticks_of, ticks_after, marked}
use Rattle.sharing_laws.specs.Sizes.{sizes_from}
use Rattle.event_pipeline.specs.Shown.{Shows}
use Rattle.event_pipeline.specs.Ticks.{Meets}
use Rattle.watermark_order.proofs.RecordLaws.{ticks_of-mark}
use Rattle.event_pipeline.proofs.RecordLaws.{gone-mark}
use Rattle.event_pipeline.proofs.ShownLaws.{sizes_added-is}
use Rattle.event_pipeline.proofs.TickLaws.{ticks_after-one}
use Rattle.event_pipeline.proofs.ticks.take_marked.Goals as goal

pub returns-clause-gone : goal.returns-clause-gone
returns-clause-gone g c = λ lag records is stands.
    gone-mark (g.O.Outputs.tells c.args.engine.now.plan)
    (g.O.Outputs.stops c.args.engine.now.plan) c.args.engine.now.plan lag records c.args.time c.rise.new.order c.rise.new.engine
    (c.args.outputs.now, c.args.to.now) (c.rise.new.outputs, c.rise.new.to) c.rise.result
    (subst (λ t. Meets (g.O.Outputs.tells c.args.engine.now.plan) (g.O.Outputs.stops c.args.engine.now.plan) c.args.engine.now.plan lag
    (arrivals_of lag records) (marked t ∷ []) (ticks_of lag records) c.rise.new.order c.rise.new.engine (c.args.outputs.now, c.args.to.now)
    (c.rise.new.outputs, c.rise.new.to) c.rise.result) (to_z-of_z c.ranges.time)
    (c.rise.ensures.met lag (arrivals_of lag records) (ticks_of lag records) is stands))

pub returns-clause-shown : goal.returns-clause-shown
returns-clause-shown g c = λ lag records is stands.
    let plan = c.args.engine.now.plan in
    let arrivals = arrivals_of lag records in
    let more = ticks_after arrivals (marked c.args.time ∷ []) in
    let all = ticks_of-mark lag records c.args.time ∙ ap (λ l. ticks_of lag records ++ l) (sym (ticks_after-one arrivals c.args.time)) in
    subst (λ l. Shows (g.G.Gauge.seen c.args.gauge.now) (g.G.Gauge.seen c.rise.new.gauge) l c.rise.result)
    (sizes_added-is lag plan records (Mark c.args.time) more all)
    (subst (λ t. Shows (g.G.Gauge.seen c.args.gauge.now) (g.G.Gauge.seen c.rise.new.gauge)
    (sizes_from plan (ticks_of lag records) (ticks_after arrivals (marked t ∷ []))) c.rise.result) (to_z-of_z c.ranges.time)
    (c.rise.ensures.shown lag arrivals (ticks_of lag records) is stands))
