use Rattle.std.proofs.Common.{◌≡◌, drop}
use Rattle.pattern_rules.specs.First.{first_some}
use Rattle.pattern_check.specs.Conditions.{until_in}
use Rattle.pattern_check.proofs.condition.until_of.Given as goal

abbrev pub invariant-loop-modifier : goal.invariant-loop-modifier
invariant-loop-modifier l =
    first_some (λ m. until_in l.fields l.openers m.what) (drop l.modifier-index l.mods) ≡ first_some (λ m. until_in l.fields l.openers m.what) l.mods
