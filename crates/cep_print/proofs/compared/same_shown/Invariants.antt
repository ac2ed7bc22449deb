use Rattle.std.proofs.Common.{◌≡◌, map, take}
use Rattle.cep_print.specs.Same.{unplaced}
use Rattle.cep_print.proofs.compared.same_shown.Given as goal

abbrev pub invariant-loop-place : goal.invariant-loop-place
invariant-loop-place l = map unplaced (take l.place l.shown) ≡ map unplaced (take l.place l.others)
