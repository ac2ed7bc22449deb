use Rattle.std.proofs.Common.{ap, subst, arith}
use Rattle.cep_plan.specs.declared.plan.Plan.{Plan}
use Rattle.event_pipeline.specs.Shown.{Shows, sizes_added}
use Rattle.watermark_order.specs.Order.{OrderState}
use Rattle.event_pipeline.proofs.RecordLaws.{handles}
use Rattle.event_pipeline.proofs.RowLaws.{behind_waiting}
use Rattle.event_pipeline.proofs.pipeline.Pipeline.take.Goals as goal

pub take_record-requires-clause-rows : goal.take_record-requires-clause-rows
take_record-requires-clause-rows g c =
    let h = c.requires.3 in
    behind_waiting c.requires.0 c.requires.2 c.args.next c.args.self.now.order.waiting (ap (λ (o : OrderState). o.waiting) h.ordered) c.requires.4

pub take_record-requires-clause-room : goal.take_record-requires-clause-room
take_record-requires-clause-room g c = omega (arith, c.requires.3.within, c.requires.5)

pub take_record-requires-clause-stands : goal.take_record-requires-clause-stands
take_record-requires-clause-stands g c = (_, c.requires.3.ticked)

pub returns-clause-handled : goal.returns-clause-handled
returns-clause-handled g c = λ lag plan records h.
    handles g.O.Outputs.tells g.O.Outputs.stops lag plan records c.args.next c.args.self.now _ (c.args.outputs.now, c.args.to.now)
    (c.take_record.new.outputs, c.take_record.new.to) c.take_record.result h
    c.take_record.ensures.plan c.take_record.ensures.running c.take_record.ensures.grown (c.take_record.ensures.gone lag records h.ordered h.ticked)

pub returns-clause-shown : goal.returns-clause-shown
returns-clause-shown g c = λ lag plan records h.
    subst (λ (p : Plan). Shows (g.G.Gauge.seen c.args.gauge.now) (g.G.Gauge.seen c.take_record.new.gauge)
    (sizes_added lag p records c.args.next) c.take_record.result) h.planned
    (c.take_record.ensures.shown lag records h.ordered h.ticked)
