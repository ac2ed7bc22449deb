use Rattle.cond_eval.specs.Asked.{questions_of}
use Rattle.cond_eval.proofs.QuestionLaws.{can-one}
use Rattle.cond_eval.proofs.condition.rest_joined.Goals as goal

pub joined-so_far-requires : goal.joined-so_far-requires
joined-so_far-requires g c =
    can-one (g.M.Matched.can_answer c.args.taken.now) (λ part. questions_of part.expr) c.args.rest.now c.loop-part.part-index c.part-item.result
    c.loop-part-test.true c.part-item.is c.requires
