use Rattle.std.proofs.Common.{rules, arith}
use Rattle.cep_print.specs.SameFile.{unplaced_field}
use Rattle.cep_print.proofs.SameLaws.{map_at}
use Rattle.cep_print.proofs.compared.same_fields.Goals as goal

pub returns-then-not-same_field : goal.returns-then-not-same_field
returns-then-not-same_field c =
    let at = map_at unplaced_field c.args.fields.now c.args.others.now c.loop-place.place c.index-fields-place.result c.index-others-place.result (omega (arith, c.loop-place-test.true, c.loop-place.auto.place-end, c.if-fields-others.false)) (omega (arith, c.loop-place-test.true, c.loop-place.auto.place-end, c.if-fields-others.false)) c.index-fields-place.is c.index-others-place.is in
    search (rules, at)
