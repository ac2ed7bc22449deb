-- The tips so far that aren't among the others.
use Rattle.std.proofs.Common.{◌≡◌, not}
use Rattle.std.specs.Prelude.{filter}
use Rattle.run_step.specs.Showing.{is_among}
use Rattle.run_step.proofs.shown.without.Given as goal

abbrev pub invariant-loop-tip : goal.invariant-loop-tip
invariant-loop-tip l = l.kept ≡ filter (λ tip. not (is_among l.others tip)) l.yielded
