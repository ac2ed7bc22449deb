use Rattle.std.proofs.Common.{◌≡◌, sym, rules, false}
use Rattle.time_limit.specs.Limits.{is_front_over}
use Rattle.time_limit.proofs.LimitLaws.{first_over-none, without_first_over-none}
use Rattle.time_limit.proofs.queue.take_over.Goals as goal

pub returns-then-not-is_front_reached-clause-due : goal.returns-then-not-is_front_reached-clause-due
returns-then-not-is_front_reached-clause-due c =
    let shut : is_front_over c.args.limit c.args.now c.args.places.now.items ≡ false = search rules in
    sym (first_over-none c.args.limit c.args.now c.args.places.now.items c.requires shut)

pub returns-then-not-is_front_reached-clause-left : goal.returns-then-not-is_front_reached-clause-left
returns-then-not-is_front_reached-clause-left c =
    let shut : is_front_over c.args.limit c.args.now c.args.places.now.items ≡ false = search rules in
    sym (without_first_over-none c.args.limit c.args.now c.args.places.now.items c.requires shut)
