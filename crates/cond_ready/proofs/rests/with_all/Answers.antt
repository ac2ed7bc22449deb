use Rattle.std.proofs.Common.{rules, arith}
use Rattle.std.specs.List.{Contains}
use Rattle.std.proofs.lemmas.Grind.{common_steps}
use Rattle.cond_eval.specs.Asked.{questions_of}
use Rattle.cond_eval.proofs.QuestionLaws.{can-one}
use Rattle.cond_ready.proofs.rests.with_all.Goals as goal

pub loop-part-preserved : goal.loop-part-preserved
loop-part-preserved c = record {
  asks = λ qs rests asks. c.in-Some.ensures.asks qs (c.loop-part.invariant.asks qs rests asks)
      (c.rest_of.ensures.asks qs
      (can-one (Contains qs) questions_of c.args.parts.now c.loop-part.part-index c.part-item.result c.loop-part-test.true c.part-item.is asks));
  holds = first_of (search rules, grind (arith, common_steps));
}
