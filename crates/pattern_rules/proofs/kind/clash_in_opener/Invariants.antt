use Rattle.std.proofs.Common.{◌≡◌, drop}
use Rattle.pattern_rules.specs.First.{first_some}
use Rattle.pattern_rules.specs.Kinds.{clash_in_modifier}
use Rattle.pattern_rules.proofs.kind.clash_in_opener.Given as goal

abbrev pub invariant-loop-modifier : goal.invariant-loop-modifier
invariant-loop-modifier l =
    first_some (λ m. clash_in_modifier l.fields m.what) (drop l.modifier-index l.mods) ≡ first_some (λ m. clash_in_modifier l.fields m.what) l.mods
