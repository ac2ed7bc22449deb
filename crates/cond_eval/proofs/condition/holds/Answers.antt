use Rattle.std.proofs.Common.{Some}
use Rattle.cep_plan.specs.Answer.{is_true}
use Rattle.cep_plan.specs.Value.{value_of}
use Rattle.cep_plan.specs.Condition.{condition_holds}
use Rattle.cond_eval.proofs.PartLaws.{can-others, holds-none, holds-all}
use Rattle.cond_eval.proofs.condition.holds.Goals as goal

pub rest_joined-requires : goal.rest_joined-requires
rest_joined-requires g c =
    can-others (g.M.Matched.can_answer c.args.taken.now) c.args.cond.now.parts c.as_slice.result.now c.first-item.result c.as_slice.ensures
    c.in-len1-up.len_at_least c.first-item.is c.requires

pub returns-in-empty : goal.returns-in-empty
unfolding condition_holds
returns-in-empty g c list stands =
    holds-none (λ part. is_true (value_of c.args.plan.now.types (Some c.args.event.now) list part.expr)) c.args.cond.now.parts c.as_slice.result.now
    c.as_slice.ensures c.in-empty.len_below

pub returns-in-len1-up : goal.returns-in-len1-up
unfolding condition_holds
returns-in-len1-up g c list stands =
    holds-all (λ part. is_true (value_of c.args.plan.now.types (Some c.args.event.now) list part.expr)) c.args.cond.now.parts c.as_slice.result.now
    c.first-item.result c.part_holds-first.result c.rest_joined.result c.as_slice.ensures c.in-len1-up.len_at_least c.first-item.is
    (c.part_holds-first.ensures list stands) (c.rest_joined.ensures list stands)
