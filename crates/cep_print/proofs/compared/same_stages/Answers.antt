use Rattle.std.proofs.Common.{rules, arith}
use Rattle.cep_print.specs.SameFile.{unplaced_stage}
use Rattle.cep_print.proofs.SameLaws.{map_at}
use Rattle.cep_print.proofs.compared.same_stages.Goals as goal

pub returns-then-not-same_stage : goal.returns-then-not-same_stage
returns-then-not-same_stage c =
    let at = map_at unplaced_stage c.args.stages.now c.args.others.now c.loop-place.place c.index-stages-place.result c.index-others-place.result (omega (arith, c.loop-place-test.true, c.loop-place.auto.place-end, c.if-stages-others.false)) (omega (arith, c.loop-place-test.true, c.loop-place.auto.place-end, c.if-stages-others.false)) c.index-stages-place.is c.index-others-place.is in
    search (rules, at)
