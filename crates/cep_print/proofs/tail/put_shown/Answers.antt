use Rattle.std.proofs.Common.{string_bytes, arith}
use Rattle.cep_print.specs.File as spec
use Rattle.cep_print.proofs.ChainLemmas.{chained-more, not_first}
use Rattle.cep_print.proofs.tail.put_shown.Goals as goal

pub loop-expr-preserved : goal.loop-expr-preserved
loop-expr-preserved c =
    let l = c.loop-expr in
    record {
      text =
          chained-more spec.shown_part c.args.shown.now l.expr-index c.expr-item.result l.is_first (string_bytes c.args.out.now) (string_bytes l.out)
          (string_bytes c.put_sign.new.out) (string_bytes c.put_expression.new.out)
          (omega (arith, c.loop-expr-test.true, l.auto.expr-index-end)) c.expr-item.is l.invariant.first c.in_ok-put_sign.ensures
          c.in_ok-put_expression.ensures l.invariant.text;
      first = not_first l.expr-index;
    }
