use Rattle.std.proofs.Common.{take}
use Rattle.pattern_rules.specs.TypeFields.{AreFieldsOf}
use Rattle.pattern_rules.proofs.type_fields.fields_by_type.Given as goal

abbrev pub invariant-loop-declared : goal.invariant-loop-declared
invariant-loop-declared l = AreFieldsOf l.made (take l.declared-index l.types)
