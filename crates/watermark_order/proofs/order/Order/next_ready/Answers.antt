use Rattle.std.proofs.Common.{◌≡◌, subst, [], IfNone}
use Rattle.watermark_order.specs.Order.{OrderState, ready}
use Rattle.watermark_order.proofs.OrderLaws.{nothing_ready, nothing_settles, nothing_changes}
use Rattle.watermark_order.proofs.order.Order.next_ready.Goals as goal

pub returns-clause-none : goal.returns-clause-none
returns-clause-none c =
    subst (λ o. IfNone c.pop_reached.result (ready o ≡ [])) c.self.view_is
    (nothing_ready c.self.inside.lag c.self.inside.mark c.self.inside.greatest c.pop_reached.result c.self.inside.waiting c.pop_reached.new.self
    c.pop_reached.ensures.rest c.pop_reached.ensures.none)

pub returns-clause-unchanged : goal.returns-clause-unchanged
returns-clause-unchanged c =
    let new : OrderState = record { lag = c.self.inside.lag; mark = c.self.inside.mark; greatest = c.self.inside.greatest; waiting = c.pop_reached.new.self } in
    subst (λ o. IfNone c.pop_reached.result (new ≡ o)) c.self.view_is
    (nothing_changes c.self.inside.lag c.self.inside.mark c.self.inside.greatest c.pop_reached.result c.self.inside.waiting c.pop_reached.new.self
    c.pop_reached.ensures.rest)

pub returns-clause-done : goal.returns-clause-done
returns-clause-done c =
    nothing_settles c.self.inside.lag c.self.inside.mark c.self.inside.greatest c.pop_reached.result c.pop_reached.new.self c.pop_reached.ensures.none
