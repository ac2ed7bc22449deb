-- What is left decides.
use Rattle.std.proofs.Common.{◌≡◌, ◌+◌, drop}
use Rattle.std.specs.Prelude.{◌==◌}
use Rattle.std.specs.List.{list_any}
use Rattle.cep_plan.specs.Follow.{end_stage}
use Rattle.cep_audit.proofs.follow.is_closing.Given as goal

abbrev pub invariant-loop-negation : goal.invariant-loop-negation
invariant-loop-negation l =
    list_any (λ n. n.after + 1 == end_stage l.plan) (drop l.negation-index l.plan.negations) ≡ list_any (λ n. n.after + 1 == end_stage l.plan) l.plan.negations
