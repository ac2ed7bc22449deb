use Rattle.pattern_file.specs.Answers.{IsPlanOf}
use Rattle.pattern_file.specs.Checked.{ArePlannedAs}
use Rattle.pattern_file.proofs.OnePlan.{file-planned, answers_too}
use Rattle.pattern_file.proofs.whole.plan_in.Goals as goal

pub returns-in-Ok-clause-told : goal.returns-in-Ok-clause-told
returns-in-Ok-clause-told c =
    let file = c.in-Ok.file in
    let bytes = c.args.bytes.now in
    answers_too (IsPlanOf file) (ArePlannedAs bytes) (λ a. file-planned bytes file a c.in-Ok.ensures.read) c.plan_of.result c.plan_of.ensures.told
