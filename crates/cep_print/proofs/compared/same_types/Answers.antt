use Rattle.std.proofs.Common.{rules, arith}
use Rattle.cep_print.specs.SameFile.{unplaced_type}
use Rattle.cep_print.proofs.SameLaws.{map_at}
use Rattle.cep_print.proofs.compared.same_types.Goals as goal

pub returns-then-not-same_type : goal.returns-then-not-same_type
returns-then-not-same_type c =
    let at = map_at unplaced_type c.args.types.now c.args.others.now c.loop-place.place c.index-types-place.result c.index-others-place.result (omega (arith, c.loop-place-test.true, c.loop-place.auto.place-end, c.if-types-others.false)) (omega (arith, c.loop-place-test.true, c.loop-place.auto.place-end, c.if-types-others.false)) c.index-types-place.is c.index-others-place.is in
    search (rules, at)
