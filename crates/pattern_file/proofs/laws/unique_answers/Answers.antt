use Rattle.pattern_file.proofs.OnePlan.{one_planned, one_printed}
use Rattle.pattern_file.proofs.laws.unique_answers.Goals as goal

pub returns : goal.returns
returns c = record { planned = one_planned; printed = one_printed }
