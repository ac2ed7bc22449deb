use Rattle.std.proofs.Common.{◌≡◌, ◌≤◌, map, take, length}
use Rattle.cond_sums.proofs.sums.counts_of.Given as goal

-- the counts of the stages so far
abbrev pub invariant-loop-stage : goal.invariant-loop-stage
invariant-loop-stage l = record {
  same : l.made.items ≡ map (λ stage. record { stage = stage; number = 0 }) (take l.stage-index l.stages);
  room : length l.stages ≤ l.made.capacity;
}
