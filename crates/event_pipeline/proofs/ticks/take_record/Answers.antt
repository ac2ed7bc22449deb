use Rattle.std.proofs.Common.{[], ◌∷◌, ◌++◌, sym, ◌∙◌, ap, subst, append-nil}
use Rattle.std.specs.Prelude.{Ok}
use Rattle.cep_plan.specs.EventTime.{ticks_of}
use Rattle.watermark_order.proofs.RecordLaws.{ticks_of-blank}
use Rattle.event_pipeline.specs.Shown.{Shows}
use Rattle.event_pipeline.proofs.ShownLaws.{sizes_added-is, shows-nothing}
use Rattle.event_pipeline.proofs.RecordLaws.{gone-blank}
use Rattle.event_pipeline.proofs.ticks.take_record.Goals as goal

pub returns-in-Blank-clause-gone : goal.returns-in-Blank-clause-gone
returns-in-Blank-clause-gone g c = λ lag records is stands.
    gone-blank (g.O.Outputs.tells c.args.engine.now.plan)
    (g.O.Outputs.stops c.args.engine.now.plan) c.args.engine.now.plan lag records c.args.next c.args.order.now c.args.engine.now
    (c.args.outputs.now, c.args.to.now) c.in-Blank.is is stands

pub returns-in-Blank-clause-shown : goal.returns-in-Blank-clause-shown
returns-in-Blank-clause-shown g c = λ lag records is stands.
    let all = ap (λ r. ticks_of lag (records ++ r ∷ [])) c.in-Blank.is ∙ ticks_of-blank lag records ∙ sym (append-nil (ticks_of lag records)) in
    subst (λ l. Shows (g.G.Gauge.seen c.args.gauge.now) (g.G.Gauge.seen c.args.gauge.now) l (Ok 0))
    (sizes_added-is lag c.args.engine.now.plan records c.args.next [] all) (shows-nothing (g.G.Gauge.seen c.args.gauge.now))
