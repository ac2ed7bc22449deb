use Rattle.pattern_file.specs.Answers.{IsTextOf}
use Rattle.pattern_file.specs.Checked.{ArePrintedAs}
use Rattle.pattern_file.proofs.OnePlan.{text-printed, answers_too}
use Rattle.pattern_file.proofs.whole.printed_in.Goals as goal

pub returns-in-Ok : goal.returns-in-Ok
returns-in-Ok c =
    let file = c.in-Ok.file in
    let bytes = c.args.bytes.now in
    answers_too (IsTextOf file) (ArePrintedAs bytes) (λ a. text-printed bytes file a c.in-Ok.ensures.read) c.checked_text.result c.checked_text.ensures
