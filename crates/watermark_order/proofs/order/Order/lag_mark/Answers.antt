use Rattle.std.proofs.Common.{◌∙◌}
use Rattle.watermark_order.proofs.OrderLaws.{lag_behind}
use Rattle.watermark_order.proofs.order.Order.lag_mark.Goals as goal

pub returns-clause-behind : goal.returns-clause-behind
returns-clause-behind c = λ lag before event is. c.mark_of_lag.ensures ∙ lag_behind lag before event _ (c.self.view_is ∙ is)
