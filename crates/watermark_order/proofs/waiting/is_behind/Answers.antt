use Rattle.std.proofs.Common.{◌≡◌, ◌∙◌, ap, suc, ◌-◌, ◌<◌, length, deque_len, arith, rules, int_le, to_z-of_z, SFits, w64}
use Rattle.watermark_order.proofs.HeldLaws.{behind-at}
use Rattle.watermark_order.proofs.waiting.is_behind.Goals as goal

pub returns-in-Some : goal.returns-in-Some
returns-in-Some c =
    let fits : SFits w64 c.in-Some.last.now.ts = search rules in
    let some : 0 < length c.args.queue.now.items = search rules in
    let size : length c.args.queue.now.items ≡ suc (deque_len c.args.queue.now - 1) = omega (arith, some) in
    (λ i. int_le (to_z-of_z fits i) (to_z-of_z c.ranges.time i))
    ∙ ap (λ e. int_le e.ts c.args.time) c.in-Some.ensures.lookup
    ∙ behind-at c.args.queue.now.items (deque_len c.args.queue.now - 1) c.in-Some.last.now c.args.time size
