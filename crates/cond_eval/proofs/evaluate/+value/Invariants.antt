use Rattle.std.proofs.Common.{◌≡◌, List, take, true, false}
use Rattle.std.specs.List.{list_any, list_all}
use Rattle.std.specs.Option.{option_copied}
use Rattle.cep_plan.specs.declared.item.Taken.{Taken}
use Rattle.cep_plan.specs.Answer.{answer_seen, is_true}
use Rattle.cep_plan.specs.Value.{value_of}
use Rattle.cond_eval.specs.Chain.{sum_of, product_of}
use Rattle.cond_eval.proofs.evaluate.+value.Given as goal

abbrev pub invariant-any_true-loop-part : goal.invariant-any_true-loop-part
invariant-any_true-loop-part g l = (list : List Taken) → g.M.Matched.stands_for l.taken l.plan.types list
    → list_any (λ x. is_true (value_of l.plan.types (option_copied l.event) list x)) (take l.part-index l.parts) ≡ false

abbrev pub invariant-all_true-loop-part : goal.invariant-all_true-loop-part
invariant-all_true-loop-part g l = (list : List Taken) → g.M.Matched.stands_for l.taken l.plan.types list
    → list_all (λ x. is_true (value_of l.plan.types (option_copied l.event) list x)) (take l.part-index l.parts) ≡ true

abbrev pub invariant-sum-loop-term : goal.invariant-sum-loop-term
invariant-sum-loop-term g l = (list : List Taken) → g.M.Matched.stands_for l.taken l.plan.types list
    → answer_seen l.so_far ≡ sum_of (value_of l.plan.types (option_copied l.event) list) (take l.term-index l.terms)

abbrev pub invariant-product-loop-factor : goal.invariant-product-loop-factor
invariant-product-loop-factor g l = (list : List Taken) → g.M.Matched.stands_for l.taken l.plan.types list
    → answer_seen l.so_far ≡ product_of (value_of l.plan.types (option_copied l.event) list) (take l.factor-index l.factors)
