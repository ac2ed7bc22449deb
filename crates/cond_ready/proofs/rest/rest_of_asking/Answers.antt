use Rattle.std.proofs.Common.{◌∙◌, ap, Some}
use Rattle.std.specs.List.{Contains}
use Rattle.cep_plan.specs.Answer.{is_true}
use Rattle.cond_eval.proofs.ChainLaws.{value-Compare}
use Rattle.cond_eval.proofs.QuestionLaws.{can-left, can-right}
use Rattle.cond_ready.proofs.rest.rest_of_asking.Goals as goal

pub returns-in-Some : goal.returns-in-Some
returns-in-Some c = record {
  asks = λ qs asks. c.in-Some.ensures.asks qs
      (can-left (Contains qs) c.args.expr.now c.in-Compare.cmp c.in-Compare.x c.in-Compare.y c.get.result.now c.in-Compare.is c.get.ensures asks)
      (can-right (Contains qs) c.args.expr.now c.in-Compare.cmp c.in-Compare.x c.in-Compare.y c.get-in-Compare.result.now c.in-Compare.is
      c.get-in-Compare.ensures asks);
  holds = λ list.
      c.in-Some.ensures.holds list
      ∙ ap is_true (value-Compare c.args.plan.now.types (Some c.args.event.now) list c.args.expr.now c.in-Compare.cmp c.in-Compare.x c.in-Compare.y
      c.get.result.now c.get-in-Compare.result.now c.in-Compare.is c.get.ensures c.get-in-Compare.ensures);
}
