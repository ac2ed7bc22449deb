use Rattle.std.proofs.Common.{◌≡◌, List, Some, fold, take}
use Rattle.std.specs.List.{flat_map}
use Rattle.cep_plan.specs.declared.item.Taken.{Taken}
use Rattle.cep_plan.specs.Answer.{is_true}
use Rattle.cep_plan.specs.Question.{Question}
use Rattle.cep_plan.specs.Value.{value_of}
use Rattle.cep_plan.specs.Condition.{joined}
use Rattle.cond_eval.specs.Asked.{questions_of}
use Rattle.cond_ready.specs.Rest.{rests_hold, AsksOf, RestsAskOf}
use Rattle.cond_ready.proofs.rests.with_parts.Given as goal

-- what is left so far is left of the first part and the others so far
abbrev pub invariant-loop-part : goal.invariant-loop-part
invariant-loop-part l = record {
  asks : (qs : List Question) → RestsAskOf qs l.fn.first → AsksOf qs (flat_map (λ part. questions_of part.expr) l.others) → RestsAskOf qs l.so_far;
  holds : (list : List Taken) → rests_hold l.plan.types l.event list l.so_far
      ≡ fold (λ so_far next. joined next.join so_far (is_true (value_of l.plan.types (Some l.event) list next.expr)))
      (rests_hold l.plan.types l.event list l.fn.first) (take l.part-index l.others);
}
