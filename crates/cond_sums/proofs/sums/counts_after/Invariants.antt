use Rattle.std.proofs.Common.{◌≡◌, ◌≤◌, map, take, length}
use Rattle.cond_sums.specs.Kept.{count_after}
use Rattle.cond_sums.proofs.sums.counts_after.Given as goal

-- the counts so far, after the event
abbrev pub invariant-loop-count : goal.invariant-loop-count
invariant-loop-count l = record {
  same : l.made.items ≡ map (count_after l.stage) (take l.count-index l.counts);
  room : length l.counts ≤ l.made.capacity;
}
