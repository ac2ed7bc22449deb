use Rattle.std.proofs.Common.{◌≡◌, map, take}
use Rattle.cep_print.specs.SameFile.{unplaced_field}
use Rattle.cep_print.proofs.compared.same_fields.Given as goal

abbrev pub invariant-loop-place : goal.invariant-loop-place
invariant-loop-place l = map unplaced_field (take l.place l.fields) ≡ map unplaced_field (take l.place l.others)
