use Rattle.std.proofs.Common.{◌≡◌, List, take, false, Some}
use Rattle.std.specs.List.{list_any}
use Rattle.cep_plan.specs.declared.item.Taken.{Taken}
use Rattle.cep_plan.specs.Answer.{is_true}
use Rattle.cep_plan.specs.Value.{value_of}
use Rattle.cond_ready.proofs.never.+never.Given as goal

abbrev pub invariant-one_never_holds-loop-part : goal.invariant-one_never_holds-loop-part
invariant-one_never_holds-loop-part l = Unit {0}

-- none of the parts so far holds
abbrev pub invariant-none_ever_holds-loop-part : goal.invariant-none_ever_holds-loop-part
invariant-none_ever_holds-loop-part l = (list : List Taken)
    → list_any (λ x. is_true (value_of l.plan.types (Some l.event) list x)) (take l.part-index l.parts) ≡ false
