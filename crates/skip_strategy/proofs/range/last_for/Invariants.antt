-- The last one so far.
use Rattle.std.proofs.Common.{◌≡◌, take}
use Rattle.cep_plan.specs.Skipping.{end_of, entries_for}
use Rattle.skip_strategy.proofs.range.last_for.Given as goal

abbrev pub invariant-loop-taken : goal.invariant-loop-taken
invariant-loop-taken l = l.last ≡ end_of (entries_for l.stage (take l.taken-index l.taken-items))
