use Rattle.std.proofs.Common.{string_bytes, arith}
use Rattle.cep_print.specs.File as spec
use Rattle.cep_print.proofs.ChainLemmas.{chained-more, not_first}
use Rattle.cep_print.proofs.declaration.put_fields.Goals as goal

pub loop-field-preserved : goal.loop-field-preserved
loop-field-preserved c =
    let l = c.loop-field in
    record {
      text =
          chained-more spec.field_part c.args.fields.now l.field-index c.field-item.result l.is_first (string_bytes c.args.out.now)
          (string_bytes l.out) (string_bytes c.put_sign.new.out) (string_bytes c.put_field.new.out)
          (omega (arith, c.loop-field-test.true, l.auto.field-index-end)) c.field-item.is l.invariant.first c.in_ok-put_sign.ensures
          c.in_ok-put_field.ensures l.invariant.text;
      first = not_first l.field-index;
    }
