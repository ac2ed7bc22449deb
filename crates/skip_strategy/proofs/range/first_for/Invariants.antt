-- The answer is that of what is left.
use Rattle.std.proofs.Common.{◌≡◌, drop}
use Rattle.cep_plan.specs.Skipping.{start_of, entries_for}
use Rattle.skip_strategy.proofs.range.first_for.Given as goal

abbrev pub invariant-loop-taken : goal.invariant-loop-taken
invariant-loop-taken l = start_of (entries_for l.stage l.list) ≡ start_of (entries_for l.stage (drop l.taken-index l.taken-items))
