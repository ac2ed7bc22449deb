use Rattle.std.proofs.Common.{◌≡◌, List, Some, fold, take}
use Rattle.cep_plan.specs.declared.item.Taken.{Taken}
use Rattle.cep_plan.specs.Answer.{is_true}
use Rattle.cep_plan.specs.Value.{value_of}
use Rattle.cep_plan.specs.Condition.{joined}
use Rattle.cond_eval.proofs.condition.rest_joined.Given as goal

abbrev pub invariant-loop-part : goal.invariant-loop-part
invariant-loop-part g l = (list : List Taken) → g.M.Matched.stands_for l.taken l.plan.types list
    → l.so_far
    ≡ fold (λ so_far next. joined next.join so_far (is_true (value_of l.plan.types (Some l.event) list next.expr))) l.first (take l.part-index l.rest)
