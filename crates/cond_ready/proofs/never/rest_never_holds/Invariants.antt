-- The parts so far don't hold where that is known.
use Rattle.std.proofs.Common.{◌≡◌, Bool, true, false, List, Some, fold, take}
use Rattle.cep_plan.specs.declared.item.Taken.{Taken}
use Rattle.cep_plan.specs.Answer.{is_true}
use Rattle.cep_plan.specs.Value.{value_of}
use Rattle.cep_plan.specs.Condition.{joined}
use Rattle.cond_ready.proofs.never.rest_never_holds.Given as goal

abbrev pub invariant-loop-part : goal.invariant-loop-part
invariant-loop-part l = (list : List Taken) (held : Bool) → (l.fn.first ≡ true → held ≡ false) → l.never ≡ true
    → fold (λ so_far next. joined next.join so_far (is_true (value_of l.plan.types (Some l.event) list next.expr))) held (take l.part-index l.rest) ≡ false
