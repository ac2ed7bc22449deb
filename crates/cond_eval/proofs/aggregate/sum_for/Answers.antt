use Rattle.std.proofs.Common.{◌≡◌, arith, ◌∙◌, ap, pos, get_or}
use Rattle.std.specs.Option.{unwrap_or}
use Rattle.std.proofs.lemmas.Int.{ints}
use Rattle.cep_plan.specs.Answer.{in_word}
use Rattle.cond_eval.specs.Known.{number_taken}
use Rattle.cond_eval.proofs.AggregateLaws.{summed-more, summed-all}
use Rattle.cond_eval.proofs.aggregate.sum_for.Goals as goal

pub loop-taken-preserved : goal.loop-taken-preserved
loop-taken-preserved c =
    let more = summed-more c.args.types.now c.args.stage c.args.field c.args.list.now c.loop-taken.taken-index c.taken-item.result c.loop-taken-test.true in
    let same : c.from-total.result ≡ c.unwrap_or.result = omega (arith, ints) in
    let read : c.unwrap_or.result ≡ unwrap_or (number_taken c.args.types.now c.args.stage c.args.field (get_or c.args.list.now c.loop-taken.taken-index c.taken-item.result)) (pos 0) = cc (c.unwrap_or.ensures, c.number_taken.ensures, c.taken-item.is) in
    record { summed = omega (arith, ints, same, read, more); low = omega (arith, ints); high = omega (arith, ints) }

pub returns : goal.returns
returns c =
    c.in_word.ensures
    ∙ ap in_word (c.loop-taken.invariant.summed
    ∙ summed-all c.args.types.now c.args.stage c.args.field c.args.list.now c.loop-taken.taken-index c.loop-taken-test.false)
