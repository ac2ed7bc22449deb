use Rattle.std.proofs.Common.{◌≡◌, drop}
use Rattle.pattern_rules.specs.First.{first_from}
use Rattle.pattern_rules.specs.Mentioned.{bad_opener}
use Rattle.pattern_rules.proofs.mention.bad_conditions.Given as goal

abbrev pub invariant-loop-number : goal.invariant-loop-number
invariant-loop-number l =
    first_from (bad_opener l.rule l.file l.fields) l.number (drop l.number l.openers) ≡ first_from (bad_opener l.rule l.file l.fields) 0 l.openers
