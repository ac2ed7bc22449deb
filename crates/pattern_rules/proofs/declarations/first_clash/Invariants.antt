use Rattle.std.proofs.Common.{◌≡◌, drop}
use Rattle.pattern_rules.specs.First.{first_from}
use Rattle.pattern_rules.specs.Declarations.{clashing_field}
use Rattle.pattern_rules.proofs.declarations.first_clash.Given as goal

abbrev pub invariant-loop-number : goal.invariant-loop-number
invariant-loop-number l =
    first_from (clashing_field l.known l.fields) l.number (drop l.number l.fields) ≡ first_from (clashing_field l.known l.fields) 0 l.fields
