use Rattle.std.proofs.Common.{◌≡◌, take}
use Rattle.cep_print.specs.Literal as spec
use Rattle.cep_print.proofs.literal.escaped.Given as goal

abbrev pub invariant-loop-byte : goal.invariant-loop-byte
invariant-loop-byte l = l.found.items ≡ spec.escaped (take l.byte-index l.text)
