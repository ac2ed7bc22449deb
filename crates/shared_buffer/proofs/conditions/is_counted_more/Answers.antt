use Rattle.std.proofs.Common.{◌∙◌, arith}
use Rattle.shared_buffer.proofs.ConditionLaws.{successors-entries}
use Rattle.shared_buffer.proofs.conditions.is_counted_more.Goals as goal

pub loop-key-init : goal.loop-key-init
loop-key-init c =
    let left = c.into_iter-key-iterator.ensures.into_iter_gives ∙ c.iter-key-items.ensures.rest in
    (tt, tt, rw left (omega (arith, successors-entries c.args.node c.args.label.now 0 c.args.nodes.now.slots)))
