use Rattle.std.proofs.Common.{◌≡◌, map, take}
use Rattle.pattern_check.specs.Plan.{type_of}
use Rattle.pattern_check.proofs.types.types_of.Given as goal

abbrev pub invariant-loop-declared : goal.invariant-loop-declared
invariant-loop-declared l = l.made ≡ map (type_of l.fields) (take l.declared-index l.types)
