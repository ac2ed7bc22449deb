use Rattle.std.proofs.Common.{◌≡◌, ◌≤◌, map, take, length}
use Rattle.cond_sums.specs.Kept.{shown, kept_of_none}
use Rattle.cond_sums.proofs.sums.slots_of.Given as goal

-- the slots of the pairs so far
abbrev pub invariant-loop-pair : goal.invariant-loop-pair
invariant-loop-pair l = record {
  same : map shown l.made.items ≡ map kept_of_none (take l.pair-index l.pairs);
  room : length l.pairs ≤ l.made.capacity;
}
