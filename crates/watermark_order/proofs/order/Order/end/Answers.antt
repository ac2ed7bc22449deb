use Rattle.std.proofs.Common.{◌∙◌, sym, ap, subst}
use Rattle.cep_event.specs.declared.record.Moment.TheVariants.{End}
use Rattle.cep_plan.specs.EventTime.{released}
use Rattle.watermark_order.specs.Order.{HandsOut, ended, order_of, with_mark}
use Rattle.watermark_order.proofs.OrderLaws.{HandsOut-end}
use Rattle.watermark_order.proofs.order.Order.end.Goals as goal

pub returns-clause-hands : goal.returns-clause-hands
returns-clause-hands c =
    λ lag arrivals is. subst (λ o. HandsOut o (released arrivals End) (ended (order_of lag arrivals)))
    (sym (ap (λ o. with_mark o End) (c.self.view_is ∙ is))) (HandsOut-end lag arrivals)
