use Rattle.std.proofs.Common.{rules, arith}
use Rattle.cep_print.specs.SameFile.{unplaced_modifier}
use Rattle.cep_print.proofs.SameLaws.{map_at}
use Rattle.cep_print.proofs.compared.same_modifiers.Goals as goal

pub returns-then-not-same_modifier : goal.returns-then-not-same_modifier
returns-then-not-same_modifier c =
    let at = map_at unplaced_modifier c.args.mods.now c.args.others.now c.loop-place.place c.index-mods-place.result c.index-others-place.result (omega (arith, c.loop-place-test.true, c.loop-place.auto.place-end, c.if-mods-others.false)) (omega (arith, c.loop-place-test.true, c.loop-place.auto.place-end, c.if-mods-others.false)) c.index-mods-place.is c.index-others-place.is in
    search (rules, at)
