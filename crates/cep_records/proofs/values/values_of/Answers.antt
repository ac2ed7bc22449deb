use Rattle.std.proofs.Common.{◌+◌, ◌∙◌, arith, sym}
use Rattle.cep_records.proofs.ValueLaws.{behind-next, values_in-step}
use Rattle.cep_records.proofs.values.values_of.Goals as goal

pub loop-place-preserved : goal.loop-place-preserved
loop-place-preserved c =
    let i = c.loop-place.place in
    let step = values_in-step (i + 1) i (i + 2) (i + 1 + 2) c.args.declared.now c.args.fields.now c.index-declared-place.result (omega arith) c.loop-place-test.true c.index-declared-place.is in
    behind-next _ _ _ _ _ _ _ _ c.loop-place.invariant step (sym c.in_ok-value.ensures ∙ c.in-Some.is) c.in_ok-push-in-Some.ensures.ok
