use Rattle.std.proofs.Common.{sym, subst, ◌<◌, ◌+◌, arith}
use Rattle.std.specs.List.{AllByRecursion}
use Rattle.cep_event.specs.declared.event.Event.{Event}
use Rattle.watermark_order.proofs.TimeLaws.{each-more}
use Rattle.watermark_order.proofs.OrderLaws.{each-event}
use Rattle.engine_rows.proofs.order.take_event.Goals as goal

pub returns-in_ok-take_mark : goal.returns-in_ok-take_mark
returns-in_ok-take_mark c =
    c.in_ok-take_mark.ensures (c.args.event.row + 1)
    (subst (λ o. AllByRecursion (λ (event : Event). event.row < c.args.event.row + 1) o.waiting) (sym c.in_ok-row.ensures.state)
    (each-event (λ event. event.row < c.args.event.row + 1) c.args.order.now c.args.event (omega arith)
    (each-more (λ (event : Event). event.row < c.args.event.row) (λ event. event.row < c.args.event.row + 1) (λ event below. omega (arith, below))
    c.args.order.now.waiting c.requires)))

pub returns-in_default-lag_mark : goal.returns-in_default-lag_mark
returns-in_default-lag_mark c =
    subst (λ o. AllByRecursion (λ (event : Event). event.row < c.args.event.row + 1) o.waiting) (sym c.in_ok-row.ensures.state)
    (each-event (λ event. event.row < c.args.event.row + 1) c.args.order.now c.args.event (omega arith)
    (each-more (λ (event : Event). event.row < c.args.event.row) (λ event. event.row < c.args.event.row + 1) (λ event below. omega (arith, below))
    c.args.order.now.waiting c.requires))
