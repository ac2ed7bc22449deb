use Rattle.std.proofs.Common.{◌≡◌, map, take}
use Rattle.pattern_check.specs.Plan.{field_of}
use Rattle.pattern_check.proofs.types.fields_of.Given as goal

abbrev pub invariant-loop-field : goal.invariant-loop-field
invariant-loop-field l = l.made ≡ map (field_of l.fields) (take l.field-index l.declared)
