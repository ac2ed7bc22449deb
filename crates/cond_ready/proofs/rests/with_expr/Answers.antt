use Rattle.std.proofs.Common.{◌∙◌, ap, ◌&&◌, Some}
use Rattle.std.specs.List.{Contains}
use Rattle.std.proofs.lemmas.Option.{IfSome_then}
use Rattle.cep_plan.specs.Answer.{is_true}
use Rattle.cond_eval.proofs.ChainLaws.{value-All}
use Rattle.cond_eval.proofs.QuestionLaws.{can-All}
use Rattle.cond_ready.specs.Rest.{rests_hold}
use Rattle.cond_ready.proofs.rests.with_expr.Goals as goal

pub returns-in-All : goal.returns-in-All
returns-in-All c = record {
  asks = IfSome_then c.with_all.result c.with_all.ensures.asks
      (λ made h. λ qs rests asks. h qs rests
      (can-All (Contains qs) c.args.expr.now c.in-All.parts c.as_slice.result.now c.in-All.is c.as_slice.ensures asks));
  holds = IfSome_then c.with_all.result c.with_all.ensures.holds
      (λ made h. λ list. h list ∙ ap (λ b. rests_hold c.args.plan.now.types c.args.event.now list c.args.rests && b)
      (ap is_true (value-All c.args.plan.now.types (Some c.args.event.now) list c.args.expr.now c.in-All.parts c.as_slice.result.now c.in-All.is
      c.as_slice.ensures)));
}

pub returns-in_default-clause-asks : goal.returns-in_default-clause-asks
returns-in_default-clause-asks c =
    IfSome_then c.and_rest.result c.and_rest.ensures.asks (λ made h. λ qs rests asks. h qs rests (c.rest_of.ensures.asks qs asks))
