use Rattle.std.proofs.Common.{ap, ◌∙◌, ◌++◌, None, List}
use Rattle.cep_plan.specs.declared.item.Taken.{Taken}
use Rattle.cep_plan.specs.Answer.{Answer}
use Rattle.cep_plan.specs.Value.{value_of}
use Rattle.cond_eval.specs.Listed.{Listed}
use Rattle.cep_select.specs.Output.{answer_text}
use Rattle.cep_select.specs.Pieces.{next_field}
use Rattle.cep_select.proofs.RowLaws.{base-none, selected-more}
use Rattle.cep_select.proofs.selected.push_selected.Goals as goal

pub loop-expr-init : goal.loop-expr-init
loop-expr-init c = base-none c.args.text.now

pub loop-expr-preserved : goal.loop-expr-preserved
loop-expr-preserved c =
    let list = ap (λ (x : Listed). x.list) c.new-taken.ensures in
    let value = c.value_in.ensures ∙ ap (λ (l : List Taken). value_of c.args.plan.now.types None l c.expr-item.result) list in
    selected-more c.args.text.now c.loop-expr.text c.push_value.new.text c.args.plan.now.types c.args.list.now c.args.exprs.now
    c.loop-expr.expr-index c.expr-item.result
    c.loop-expr-test.true c.expr-item.is c.loop-expr.invariant
    (c.in_ok-push_value.ensures ∙ ap (λ (a : Answer). c.loop-expr.text ++ next_field (answer_text a)) value)
