use Rattle.std.proofs.Common.{◌≡◌, false, take}
use Rattle.std.specs.List.{list_any}
use Rattle.pattern_rules.specs.Role.{has_role}
use Rattle.pattern_rules.proofs.role.has.Given as goal

abbrev pub invariant-loop-modifier : goal.invariant-loop-modifier
invariant-loop-modifier l = list_any (λ m. has_role l.role m.what) (take l.modifier-index l.mods) ≡ false
