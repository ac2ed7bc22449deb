use Rattle.pattern_file.proofs.UsableLaws.{usable}
use Rattle.pattern_file.proofs.whole.plan_of.Goals as goal

pub returns-in-Ok-clause-usable : goal.returns-in-Ok-clause-usable
returns-in-Ok-clause-usable c = usable c.args.file.now c.in-Ok.plan c.requires c.in-Ok.ensures.checked c.in-Ok.ensures.named c.in-Ok.ensures.answer.1
