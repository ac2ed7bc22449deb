use Rattle.std.proofs.Common.{◌≡◌, drop}
use Rattle.pattern_rules.specs.First.{first_some}
use Rattle.pattern_rules.specs.Kinds.{clash_in_opener}
use Rattle.pattern_rules.proofs.kind.clash_in_openers.Given as goal

abbrev pub invariant-loop-opener : goal.invariant-loop-opener
invariant-loop-opener l = first_some (clash_in_opener l.fields) (drop l.opener-index l.openers) ≡ first_some (clash_in_opener l.fields) l.openers
