use Rattle.std.proofs.Common.{sym, subst, not, ◌==◌}
use Rattle.std.specs.List.Sorted.{IsNonDecreasingBy}
use Rattle.std.proofs.lemmas.List.Kept.{IsNonDecreasingBy-filter}
use Rattle.run_step.specs.declared.runs.Run.{Run}
use Rattle.run_step.specs.Content.{start_of}
use Rattle.run_step.proofs.group.Group.expire.Goals as goal

pub invariant_of-self : goal.invariant_of-self
invariant_of-self c =
    subst (IsNonDecreasingBy start_of) (sym c.expire_start.ensures.runs)
    (IsNonDecreasingBy-filter start_of (λ (run : Run). not (run.start == c.in-Start.start)) c.self.inside.runs.items c.self.invariant)

pub invariant_of-self-in-Last : goal.invariant_of-self-in-Last
invariant_of-self-in-Last c =
    subst (IsNonDecreasingBy start_of) (sym c.expire_last.ensures.runs)
    (IsNonDecreasingBy-filter start_of (λ (run : Run). not (run.last.position == c.in-Last.last)) c.self.inside.runs.items c.self.invariant)
