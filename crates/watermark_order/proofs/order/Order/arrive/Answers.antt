use Rattle.std.proofs.Common.{◌∙◌, sym, ap, subst, ◌<◌, if◌then◌else◌}
use Rattle.std.specs.List.{AllByRecursion}
use Rattle.std.proofs.lemmas.Result.{IfOk-weaker, on_ok_weaker}
use Rattle.watermark_order.specs.Reached.{is_reached}
use Rattle.watermark_order.specs.Order.{with_event}
use Rattle.watermark_order.specs.declared.order.Arrived.TheVariants as answers
use Rattle.watermark_order.proofs.OrderLaws.{late_is, order_of-arrived}
use Rattle.watermark_order.proofs.order.Order.arrive.Goals as goal

pub returns-clause-answer : goal.returns-clause-answer
returns-clause-answer c =
    IfOk-weaker c.admit.result _ _
    (λ answer by_mark lag arrivals is.
    by_mark
    ∙ ap (λ b. if b then answers.Late c.args.event.row else answers.Kept)
    (ap (λ o. is_reached o.mark c.args.event.ts) is ∙ sym (late_is lag arrivals c.args.event)))
    c.admit.ensures.by_mark

pub returns-clause-stands : goal.returns-clause-stands
returns-clause-stands c =
    on_ok_weaker c.admit.result
    (λ state lag arrivals is.
    state
    ∙ ap (λ o. with_event o c.args.event) is
    ∙ sym (order_of-arrived lag arrivals c.args.event (subst (λ o. AllByRecursion (λ waiting. waiting.row < c.args.event.row) o.waiting) is c.requires.rows)))
    c.admit.ensures.state
