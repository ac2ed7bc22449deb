use Rattle.std.proofs.Common.{map, take}
use Rattle.pattern_rules.specs.Names.{IsIndexOf}
use Rattle.pattern_rules.proofs.names.names_of_stages.Given as goal

abbrev pub invariant-loop-number : goal.invariant-loop-number
invariant-loop-number l = IsIndexOf l.names (map (λ o. o.name.text) (take l.number l.openers))
