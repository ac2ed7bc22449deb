use Rattle.std.proofs.Common.{◌≡◌, drop}
use Rattle.pattern_rules.specs.First.{first_some}
use Rattle.pattern_rules.specs.Bounds.{bounds_in}
use Rattle.pattern_rules.proofs.bounds.loop_bounds.Given as goal

abbrev pub invariant-loop-modifier : goal.invariant-loop-modifier
invariant-loop-modifier l = first_some (λ m. bounds_in m.what) (drop l.modifier-index l.mods) ≡ first_some (λ m. bounds_in m.what) l.mods
