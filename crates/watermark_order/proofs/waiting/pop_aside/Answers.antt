use Rattle.std.proofs.Common.{◌∙◌, sym, ap, rules, to_z-of_z, SFits, w64}
use Rattle.watermark_order.specs.Reached.{is_reached}
use Rattle.watermark_order.proofs.HeldLaws.{unreached-first}
use Rattle.watermark_order.proofs.waiting.pop_aside.Goals as goal

pub returns-then-not-has_reached-clause-first : goal.returns-then-not-has_reached-clause-first
returns-then-not-has_reached-clause-first c =
    let fits : SFits w64 c.in_ok-_key.first.now.ts = search rules in
    unreached-first c.args.mark c.args.aside.now.entries c.in_ok-_key.first.now c.in_ok-_key._key.now c.in_ok-_key.ensures.first
    (ap (is_reached c.args.mark) (sym (to_z-of_z fits)) ∙ sym c.has_reached.ensures ∙ c.if-not-has_reached.true)
