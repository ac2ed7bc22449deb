use Rattle.std.proofs.Common.{◌≡◌, ◌≤◌, ◌+◌, nat_lt, drop, take}
use Rattle.std.specs.List.{sum_by}
use Rattle.pattern_rules.specs.First.{first_from, place_if}
use Rattle.pattern_rules.specs.Bounds.{states_of}
use Rattle.pattern_rules.proofs.stages.too_many_states.Given as goal

abbrev pub invariant-loop-opener : goal.invariant-loop-opener
invariant-loop-opener l = record {
  sum : l.states ≡ sum_by states_of (take l.opener-index l.openers);
  few : l.states ≤ 1024;
  rest :
      first_from (λ k o. place_if (nat_lt 1024 (sum_by states_of (take k l.openers) + states_of o)) o.name.place) l.opener-index
      (drop l.opener-index l.openers)
      ≡ first_from (λ k o. place_if (nat_lt 1024 (sum_by states_of (take k l.openers) + states_of o)) o.name.place) 0 l.openers;
}
