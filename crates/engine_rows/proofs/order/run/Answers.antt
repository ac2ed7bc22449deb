use Rattle.std.proofs.Common.{◌∙◌, sym, ap, subst, ◌<◌}
use Rattle.std.specs.List.{AllByRecursion}
use Rattle.cep_event.specs.declared.event.Event.{Event}
use Rattle.watermark_order.proofs.OrderLaws.{nothing_waits}
use Rattle.engine_rows.proofs.order.run.Goals as goal

pub loop-step-init : goal.loop-step-init
loop-step-init c = subst (AllByRecursion (λ (event : Event). event.row < 1)) (sym (ap (λ o. o.waiting) c.new-order.ensures ∙ nothing_waits c.args.lag)) tt
