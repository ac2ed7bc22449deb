use Rattle.std.proofs.Common.{◌≡◌, drop}
use Rattle.pattern_rules.specs.First.{first_some}
use Rattle.pattern_rules.specs.First.{place_if}
use Rattle.pattern_rules.specs.Role.{has_role}
use Rattle.pattern_rules.proofs.role.first_of.Given as goal

abbrev pub invariant-loop-modifier : goal.invariant-loop-modifier
invariant-loop-modifier l =
    first_some (λ m. place_if (has_role l.role m.what) m.place) (drop l.modifier-index l.mods)
    ≡ first_some (λ m. place_if (has_role l.role m.what) m.place) l.mods
