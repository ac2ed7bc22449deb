use Rattle.std.proofs.Common.{◌≡◌, take}
use Rattle.std.specs.List.{flat_map}
use Rattle.pattern_check.specs.Conditions.{parts_of}
use Rattle.pattern_check.proofs.condition.cond_of.Given as goal

abbrev pub invariant-loop-modifier : goal.invariant-loop-modifier
invariant-loop-modifier l = l.parts ≡ flat_map (λ m. parts_of l.fields l.openers m.what) (take l.modifier-index l.mods)
