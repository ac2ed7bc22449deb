use Rattle.std.proofs.Common.{Bool, Some}
use Rattle.cep_plan.specs.declared.condition.Part.{Part}
use Rattle.cep_plan.specs.Answer.{is_true}
use Rattle.cep_plan.specs.Value.{value_of}
use Rattle.cep_plan.specs.Condition.{condition_holds}
use Rattle.cond_ready.proofs.AloneLaws.{parts-refuted}
use Rattle.cond_ready.proofs.never.never_met.Goals as goal

pub returns-in-len1-up : goal.returns-in-len1-up
unfolding condition_holds
returns-in-len1-up c = λ never list.
    let holds : Part → Bool = λ part. is_true (value_of c.args.plan.now.types (Some c.args.event.now) list part.expr) in
    parts-refuted holds c.args.cond.now.parts c.as_slice.result.now c.first-item.result c.as_slice.ensures c.in-len1-up.len_at_least c.first-item.is
    (c.rest_never_holds.ensures never list (holds c.first-item.result) (λ first. c.never_true-first.ensures first list))
