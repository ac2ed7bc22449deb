use Rattle.cond_sums.specs.Questions.{IsWantedBy}
use Rattle.cond_sums.specs.Kept.{wanted_in}
use Rattle.cond_rows.proofs.conditions.summed.Given as goal

abbrev pub invariant-loop-stage : goal.invariant-loop-stage
invariant-loop-stage g l = IsWantedBy l.plan (wanted_in l.sums)
