use Rattle.std.proofs.Common.{◌≡◌, drop, take}
use Rattle.pattern_rules.specs.First.{first_from, place_if}
use Rattle.pattern_rules.specs.Named.{is_type}
use Rattle.pattern_rules.proofs.declarations.twice_type.Given as goal

abbrev pub invariant-loop-number : goal.invariant-loop-number
invariant-loop-number l =
    first_from (λ k d. place_if (is_type (take k l.file.types) d.name.text) d.name.place) l.number (drop l.number l.file.types)
    ≡ first_from (λ k d. place_if (is_type (take k l.file.types) d.name.text) d.name.place) 0 l.file.types
