use Rattle.std.proofs.Common.{◌∙◌, sym, ap, Some}
use Rattle.cond_eval.proofs.AggregateLaws.{last_event-here}
use Rattle.cond_eval.proofs.aggregate.last_event.Goals as goal

pub returns-then-taken-stage : goal.returns-then-taken-stage
returns-then-taken-stage c =
    sym (c.loop-place.invariant.same
    ∙ last_event-here c.args.stage c.args.list.now c.loop-place.place c.index-list-place.result c.loop-place-test.true c.loop-place.invariant.within
    (ap (λ t. t.stage) (sym c.index-list-place.is) ∙ c.if-taken-stage.true)
    ∙ ap (λ t. Some t.event) (sym c.index-list-place.is))
