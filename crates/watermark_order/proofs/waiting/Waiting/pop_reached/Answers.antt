use Rattle.std.proofs.Common.{◌∙◌, sym, ap}
use Rattle.std.specs.Map.{values_of}
use Rattle.watermark_order.specs.Held.{first_reached}
use Rattle.watermark_order.proofs.HeldLaws.{pop-queued, pop-aside}
use Rattle.watermark_order.proofs.waiting.Waiting.pop_reached.Goals as goal

pub returns-then-is_first_queued : goal.returns-then-is_first_queued
returns-then-is_first_queued c =
    let popped =
    pop-queued c.args.mark c.self.inside.queue.items c.pop_queue.new.queue.items (values_of c.self.inside.aside.entries) c.pop_queue.result
    c.self.invariant.queue_upward c.self.invariant.aside_upward (sym c.is_first_queued.ensures ∙ c.if-is_first_queued.true) c.pop_queue.ensures.first
    c.pop_queue.ensures.rest in
    record { first = popped.first ∙ ap (first_reached c.args.mark) c.self.view_is; rest = sym c.self.view_is ∙ popped.rest; none = popped.none }

pub returns-else-is_first_queued : goal.returns-else-is_first_queued
returns-else-is_first_queued c =
    let popped =
    pop-aside c.args.mark c.self.inside.queue.items (values_of c.self.inside.aside.entries) (values_of c.pop_aside.new.aside.entries) c.pop_aside.result
    c.self.invariant.queue_upward c.self.invariant.aside_upward (sym c.is_first_queued.ensures ∙ c.if-is_first_queued.false)
    c.pop_aside.ensures.first c.pop_aside.ensures.rest in
    record { first = popped.first ∙ ap (first_reached c.args.mark) c.self.view_is; rest = sym c.self.view_is ∙ popped.rest; none = popped.none }
