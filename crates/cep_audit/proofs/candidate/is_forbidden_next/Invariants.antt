-- None of the negations so far forbids the event.
use Rattle.std.proofs.Common.{◌≡◌, ◌&&◌, false, take}
use Rattle.std.specs.List.{list_any}
use Rattle.cep_plan.specs.Candidate.{is_between, satisfies}
use Rattle.cep_audit.proofs.candidate.is_forbidden_next.Given as goal

abbrev pub invariant-loop-negation : goal.invariant-loop-negation
invariant-loop-negation l =
    list_any (λ n. n.next_only && is_between l.before l.after n && satisfies l.plan l.taken n l.event) (take l.negation-index l.plan.negations) ≡ false
