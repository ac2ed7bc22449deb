use Rattle.std.proofs.Common.{◌∙◌, sym}
use Rattle.cond_eval.proofs.AggregateLaws.{length-taken_for}
use Rattle.cond_eval.proofs.aggregate.count_for.Goals as goal

pub returns : goal.returns
returns c = c.count_taken.ensures ∙ sym (length-taken_for c.args.stage c.args.list.now)
