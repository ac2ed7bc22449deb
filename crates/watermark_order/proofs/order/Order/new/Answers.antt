use Rattle.std.proofs.Common.{None}
use Rattle.watermark_order.specs.Order.{order_of}
use Rattle.watermark_order.proofs.order.Order.new.Goals as goal

pub returns : goal.returns
unfolding order_of
returns c = λ i. record { lag = c.args.lag; mark = None; greatest = None; waiting = c.new.ensures i }
