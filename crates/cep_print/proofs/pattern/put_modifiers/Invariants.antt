use Rattle.std.proofs.Common.{◌≡◌, ◌++◌, string_bytes, take}
use Rattle.cep_print.specs.File as spec
use Rattle.cep_print.proofs.pattern.put_modifiers.Given as goal

abbrev pub invariant-loop-modifier : goal.invariant-loop-modifier
invariant-loop-modifier l = string_bytes l.out ≡ string_bytes l.fn.out ++ spec.modifiers_text (take l.modifier-index l.mods)
