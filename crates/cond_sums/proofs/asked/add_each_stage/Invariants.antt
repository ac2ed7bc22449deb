-- What was counted before, and the stages so far.
use Rattle.std.proofs.Common.{◌≡◌, ◌++◌}
use Rattle.std.specs.List.{range_with_len}
use Rattle.cond_sums.proofs.asked.add_each_stage.Given as goal

abbrev pub invariant-loop-stage : goal.invariant-loop-stage
invariant-loop-stage l = l.counted.items ≡ l.initial.counted.items ++ range_with_len 0 l.stage
