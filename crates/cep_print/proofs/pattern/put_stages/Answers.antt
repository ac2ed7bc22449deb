use Rattle.std.proofs.Common.{string_bytes, arith}
use Rattle.cep_print.specs.File as spec
use Rattle.cep_print.proofs.ChainLemmas.{chained-more, not_first}
use Rattle.cep_print.proofs.pattern.put_stages.Goals as goal

pub loop-stage-preserved : goal.loop-stage-preserved
loop-stage-preserved c =
    let l = c.loop-stage in
    record {
      text =
          chained-more spec.stage_part c.args.stages.now l.stage-index c.stage-item.result l.is_first (string_bytes c.args.out.now)
          (string_bytes l.out) (string_bytes c.put_sign.new.out) (string_bytes c.put_stage.new.out)
          (omega (arith, c.loop-stage-test.true, l.auto.stage-index-end)) c.stage-item.is l.invariant.first c.in_ok-put_sign.ensures
          c.in_ok-put_stage.ensures l.invariant.text;
      first = not_first l.stage-index;
    }
