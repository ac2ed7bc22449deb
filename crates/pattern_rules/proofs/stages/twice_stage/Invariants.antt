use Rattle.std.proofs.Common.{◌≡◌, drop, take}
use Rattle.pattern_rules.specs.First.{first_from, place_if}
use Rattle.pattern_rules.specs.Named.{is_stage}
use Rattle.pattern_rules.proofs.stages.twice_stage.Given as goal

abbrev pub invariant-loop-number : goal.invariant-loop-number
invariant-loop-number l =
    first_from (λ k o. place_if (is_stage (take k l.file.openers) o.name.text) o.name.place) l.number (drop l.number l.file.openers)
    ≡ first_from (λ k o. place_if (is_stage (take k l.file.openers) o.name.text) o.name.place) 0 l.file.openers
