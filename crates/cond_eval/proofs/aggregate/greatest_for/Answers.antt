use Rattle.std.proofs.Common.{◌∙◌, ap}
use Rattle.cep_plan.specs.Aggregate.{greater}
use Rattle.cond_eval.specs.Known.{number_if_known}
use Rattle.cond_eval.proofs.AggregateLaws.{drawn-more, drawn-all}
use Rattle.cond_eval.proofs.aggregate.greatest_for.Goals as goal

pub loop-taken-preserved : goal.loop-taken-preserved
loop-taken-preserved c =
    let more = drawn-more c.args.types.now c.args.stage c.args.field c.args.list.now greater c.loop-taken.taken-index c.taken-item.result c.loop-taken-test.true in
    cc (more, c.greater_of-greatest.ensures, c.number_taken.ensures, c.taken-item.is, c.loop-taken.invariant)

pub returns : goal.returns
returns c =
    c.number_if_known.ensures
    ∙ ap number_if_known c.loop-taken.invariant
    ∙ drawn-all c.args.types.now c.args.stage c.args.field c.args.list.now greater c.loop-taken.taken-index c.loop-taken-test.false
