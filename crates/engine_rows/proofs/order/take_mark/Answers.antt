use Rattle.std.proofs.Common.{sym, subst, ◌<◌}
use Rattle.std.specs.List.{AllByRecursion}
use Rattle.cep_event.specs.declared.event.Event.{Event}
use Rattle.watermark_order.proofs.OrderLaws.{each-mark, each-settled}
use Rattle.engine_rows.proofs.order.take_mark.Goals as goal

pub returns-in_ok-push : goal.returns-in_ok-push
returns-in_ok-push c = λ n rows.
    subst (λ o. AllByRecursion (λ (event : Event). event.row < n) o.waiting) (sym c.in_ok-hand_out.ensures.order)
    (each-settled (λ event. event.row < n) c.mark.new.self
    (each-mark (λ event. event.row < n) c.mark.result c.args.order.now c.mark.new.self _ c.mark.ensures.state rows))
