use Rattle.shared_buffer.proofs.ConditionLaws.{Fits-yes, Fits-no}
use Rattle.shared_buffer.proofs.conditions.fits_node.Goals as goal

pub returns-then-row-stage : goal.returns-then-row-stage
returns-then-row-stage c =
    Fits-yes c.args.nodes.now.slots c.args.node c.in-Some.node c.slot.result c.args.stage c.args.label.now c.index-row.result.now c.is_apart.result
    c.in-Some.is c.slot.ensures c.index-row.ensures c.if-row-stage.true c.is_apart.ensures

pub returns-else-row-stage : goal.returns-else-row-stage
returns-else-row-stage c =
    Fits-no c.args.nodes.now.slots c.args.node c.in-Some.node c.slot.result c.args.stage c.args.label.now c.index-row.result.now
    c.in-Some.is c.slot.ensures c.index-row.ensures c.if-row-stage.false
