use Rattle.std.proofs.Common.{◌≡◌, map, take}
use Rattle.cep_print.specs.SameFile.{unplaced_type}
use Rattle.cep_print.proofs.compared.same_types.Given as goal

abbrev pub invariant-loop-place : goal.invariant-loop-place
invariant-loop-place l = map unplaced_type (take l.place l.types) ≡ map unplaced_type (take l.place l.others)
