use Rattle.std.proofs.Common.{◌≡◌, map, take}
use Rattle.cep_print.specs.SameFile.{unplaced_stage}
use Rattle.cep_print.proofs.compared.same_stages.Given as goal

abbrev pub invariant-loop-place : goal.invariant-loop-place
invariant-loop-place l = map unplaced_stage (take l.place l.stages) ≡ map unplaced_stage (take l.place l.others)
