use Rattle.std.proofs.Common.{sym, subst, ◌<◌}
use Rattle.std.specs.List.{AllByRecursion}
use Rattle.cep_event.specs.declared.event.Event.{Event}
use Rattle.watermark_order.proofs.OrderLaws.{each-settled}
use Rattle.engine_rows.proofs.order.take_end.Goals as goal

pub returns : goal.returns
returns c = λ n rows.
    subst (λ o. AllByRecursion (λ (event : Event). event.row < n) o.waiting) (sym c.in_ok-hand_out.ensures.order)
    (each-settled (λ event. event.row < n) c.end.new.self
    (subst (λ o. AllByRecursion (λ (event : Event). event.row < n) o.waiting) (sym c.end.ensures.state) rows))
