use Rattle.std.proofs.Common.{◌≡◌, ◌&&◌, List, Some, take}
use Rattle.std.specs.List.{list_all, flat_map}
use Rattle.cep_plan.specs.declared.item.Taken.{Taken}
use Rattle.cep_plan.specs.Answer.{is_true}
use Rattle.cep_plan.specs.Question.{Question}
use Rattle.cep_plan.specs.Value.{value_of}
use Rattle.cond_eval.specs.Asked.{questions_of}
use Rattle.cond_ready.specs.Rest.{rests_hold, AsksOf, RestsAskOf}
use Rattle.cond_ready.proofs.rests.with_all.Given as goal

-- what is left so far is left of the parts so far
abbrev pub invariant-loop-part : goal.invariant-loop-part
invariant-loop-part l = record {
  asks : (qs : List Question) → RestsAskOf qs l.fn.rests → AsksOf qs (flat_map questions_of l.parts) → RestsAskOf qs l.so_far;
  holds : (list : List Taken) → rests_hold l.plan.types l.event list l.so_far
      ≡ (rests_hold l.plan.types l.event list l.fn.rests
      && list_all (λ x. is_true (value_of l.plan.types (Some l.event) list x)) (take l.part-index l.parts));
}
