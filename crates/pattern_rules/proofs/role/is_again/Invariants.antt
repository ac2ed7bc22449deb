use Rattle.std.proofs.Common.{◌≡◌, false, take}
use Rattle.std.specs.List.{list_any}
use Rattle.pattern_rules.specs.Role.{is_again}
use Rattle.pattern_rules.proofs.role.is_again.Given as goal

abbrev pub invariant-loop-role : goal.invariant-loop-role
invariant-loop-role l = list_any (is_again l.before l.modifier) (take l.role-index l.roles) ≡ false
