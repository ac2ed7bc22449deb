use Rattle.std.proofs.Common.{◌≡◌, ◌+◌, drop}
use Rattle.cep_records.specs.Record.{values_in}
use Rattle.cep_records.proofs.ValueLaws.{behind}
use Rattle.cep_records.proofs.values.values_of.Given as goal

abbrev pub invariant-loop-place : goal.invariant-loop-place
invariant-loop-place l =
    values_in 1 l.declared (drop 2 l.fields) ≡ behind l.values (values_in (l.place + 1) (drop l.place l.declared) (drop (l.place + 2) l.fields))
