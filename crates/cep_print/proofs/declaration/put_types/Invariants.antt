use Rattle.std.proofs.Common.{◌≡◌, ◌++◌, string_bytes, take}
use Rattle.cep_print.specs.File as spec
use Rattle.cep_print.proofs.declaration.put_types.Given as goal

abbrev pub invariant-loop-declared : goal.invariant-loop-declared
invariant-loop-declared l = string_bytes l.out ≡ string_bytes l.fn.out ++ spec.types_text (take l.declared-index l.types)
