use Rattle.std.proofs.Common.{rules, arith}
use Rattle.cep_print.specs.Same.{unplaced}
use Rattle.cep_print.proofs.SameLaws.{map_at}
use Rattle.cep_print.proofs.compared.same_shown.Goals as goal

pub returns-then-not-same_expression : goal.returns-then-not-same_expression
returns-then-not-same_expression c =
    let at = map_at unplaced c.args.shown.now c.args.others.now c.loop-place.place c.index-shown-place.result c.index-others-place.result (omega (arith, c.loop-place-test.true, c.loop-place.auto.place-end, c.if-shown-others.false)) (omega (arith, c.loop-place-test.true, c.loop-place.auto.place-end, c.if-shown-others.false)) c.index-shown-place.is c.index-others-place.is in
    search (rules, at)
