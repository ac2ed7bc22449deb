use Rattle.std.proofs.Common.{◌∙◌, ap, ◌<◌, not, length, rules}
use Rattle.watermark_order.proofs.HeldLaws.{first-here}
use Rattle.watermark_order.proofs.waiting.is_first_queued.Goals as goal

pub returns-in-Some-first_key_value : goal.returns-in-Some-first_key_value
returns-in-Some-first_key_value c =
    let some : 0 < length c.args.queue.now.items = search rules in
    ap not c.is_sooner.ensures
    ∙ first-here c.args.queue.now.items c.args.aside.now.entries c.in-Some.event.now c.in-Some-first_key_value.other.now
    c.in-Some-first_key_value._key.now some c.in-Some.ensures.lookup c.in-Some-first_key_value.ensures.first
