-- The answer is that of what is left.
use Rattle.std.proofs.Common.{◌≡◌}
use Rattle.cep_plan.specs.Follow.{all_optional}
use Rattle.cep_audit.proofs.follow.are_optional.Given as goal

abbrev pub invariant-loop-place : goal.invariant-loop-place
invariant-loop-place l = all_optional l.fn.plan l.fn.from l.fn.to ≡ all_optional l.fn.plan l.place l.fn.to
