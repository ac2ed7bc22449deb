use Rattle.std.proofs.Common.{subst, map}
use Rattle.std.proofs.lemmas.Result.{err_from_is_err_and}
use Rattle.event_pipeline.specs.Telling.{StopsAmong}
use Rattle.event_pipeline.specs.Told.{item_told}
use Rattle.event_pipeline.proofs.TellLaws.{items-told, items-cut}
use Rattle.event_pipeline.proofs.ticks.tell_items.Goals as goal

pub loop-item-preserved : goal.loop-item-preserved
loop-item-preserved g c =
    items-told (g.O.Outputs.tells c.args.plan.now) (c.args.outputs.now, c.args.to.now) (c.loop-item.outputs, c.loop-item.to)
    (c.item.new.self, c.item.new.to) c.as_slice-item-items.result.now c.loop-item.item-index c.item-item.result
    c.loop-item-test.true c.item-item.is c.loop-item.invariant c.in_ok-item.ensures

pub returns-in_err-item : goal.returns-in_err-item
returns-in_err-item g c =
    let p = err_from_is_err_and c.from_residual.result c.from_residual.ensures.1 in
    let cut = items-cut (g.O.Outputs.tells c.args.plan.now) (c.args.outputs.now, c.args.to.now) (c.loop-item.outputs, c.loop-item.to)
    (c.item.new.self, c.item.new.to) c.as_slice-item-items.result.now c.loop-item.item-index c.item-item.result
    c.loop-item-test.true c.item-item.is c.loop-item.invariant (g.O.Outputs.stops c.args.plan.now) c.in_err-item.field-0.0 c.in_err-item.ensures in
    rw (p.1, p.2) (subst (λ l. StopsAmong (g.O.Outputs.tells c.args.plan.now) (g.O.Outputs.stops c.args.plan.now) c.in_err-item.field-0.0
    (c.args.outputs.now, c.args.to.now) (c.item.new.self, c.item.new.to) (map item_told l)) c.as_slice-item-items.ensures cut)
