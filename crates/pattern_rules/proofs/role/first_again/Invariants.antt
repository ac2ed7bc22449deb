use Rattle.std.proofs.Common.{◌≡◌, drop, take}
use Rattle.pattern_rules.specs.First.{first_from, place_if}
use Rattle.std.specs.List.{list_any}
use Rattle.pattern_rules.specs.Role.{is_again}
use Rattle.pattern_rules.proofs.role.first_again.Given as goal

abbrev pub invariant-loop-number : goal.invariant-loop-number
invariant-loop-number l =
    first_from (λ k m. place_if (list_any (is_again (take k l.mods) m) l.roles) m.place) l.number (drop l.number l.mods)
    ≡ first_from (λ k m. place_if (list_any (is_again (take k l.mods) m) l.roles) m.place) 0 l.mods
