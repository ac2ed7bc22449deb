use Rattle.cond_sums.proofs.OrderLaws.{numbers-pushed}
use Rattle.cond_sums.proofs.asked.add_each_stage.Goals as goal

pub loop-stage-preserved : goal.loop-stage-preserved
loop-stage-preserved c =
    numbers-pushed c.args.counted.now.items c.loop-stage.counted.items c.push.new.self.items c.loop-stage.stage c.loop-stage.invariant
    c.in_ok-push.ensures.items
