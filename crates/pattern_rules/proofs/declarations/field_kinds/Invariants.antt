use Rattle.std.proofs.Common.{◌≡◌, drop}
use Rattle.pattern_rules.specs.First.{first_some}
use Rattle.pattern_rules.specs.Declarations.{clash_in_type}
use Rattle.pattern_rules.proofs.declarations.field_kinds.Given as goal

abbrev pub invariant-loop-declared : goal.invariant-loop-declared
invariant-loop-declared l =
    first_some (λ d. clash_in_type l.known d.fields) (drop l.declared-index l.types) ≡ first_some (λ d. clash_in_type l.known d.fields) l.types
