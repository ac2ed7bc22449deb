use Rattle.std.proofs.Common.{◌≡◌, ◌≤◌, take}
use Rattle.std.specs.List.{count_by}
use Rattle.cep_records.specs.Bare.{is_quote}
use Rattle.cep_records.proofs.bare.quotes_in.Given as goal

abbrev pub invariant-loop-byte : goal.invariant-loop-byte
invariant-loop-byte l = (l.quotes ≡ count_by is_quote (take l.byte-index l.line)) × (l.quotes ≤ l.byte-index)
