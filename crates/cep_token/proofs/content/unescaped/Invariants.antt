use Rattle.std.proofs.Common.{◌≡◌, ◌++◌, drop, false}
use Rattle.cep_token.specs.Content.{unescaped_from}
use Rattle.cep_token.proofs.content.unescaped.Given as goal

abbrev pub invariant-loop-byte : goal.invariant-loop-byte
invariant-loop-byte l = l.found.items ++ unescaped_from l.is_escaped (drop l.byte-index l.text) ≡ unescaped_from false l.text
