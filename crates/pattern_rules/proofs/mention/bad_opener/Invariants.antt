use Rattle.std.proofs.Common.{◌≡◌, drop}
use Rattle.pattern_rules.specs.First.{first_some}
use Rattle.pattern_rules.specs.Mentioned.{bad_modifier}
use Rattle.pattern_rules.proofs.mention.bad_opener.Given as goal

abbrev pub invariant-loop-modifier : goal.invariant-loop-modifier
invariant-loop-modifier l =
    first_some (λ m. bad_modifier l.rule l.file l.fields l.number m.what) (drop l.modifier-index l.mods)
    ≡ first_some (λ m. bad_modifier l.rule l.file l.fields l.number m.what) l.mods
