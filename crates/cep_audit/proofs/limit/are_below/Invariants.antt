-- What is left decides.
use Rattle.std.proofs.Common.{◌≡◌, drop}
use Rattle.std.specs.List.{list_all}
use Rattle.cep_plan.specs.Limit.{is_below_limit}
use Rattle.cep_audit.proofs.limit.are_below.Given as goal

abbrev pub invariant-loop-t : goal.invariant-loop-t
invariant-loop-t l =
    list_all (λ t. is_below_limit l.limit t.event.ts) (drop l.t-index l.taken) ≡ list_all (λ t. is_below_limit l.limit t.event.ts) l.taken
