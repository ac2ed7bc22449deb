use Rattle.std.proofs.Common.{◌≡◌, ◌≤◌, take}
use Rattle.std.specs.List.{count_by}
use Rattle.pattern_check.specs.Numbers.{is_positive}
use Rattle.pattern_check.proofs.number.positive_ones.Given as goal

abbrev pub invariant-loop-opener : goal.invariant-loop-opener
invariant-loop-opener l = record {
  counted : l.count ≡ count_by is_positive (take l.opener-index l.openers);
  few : l.count ≤ l.opener-index;
}
