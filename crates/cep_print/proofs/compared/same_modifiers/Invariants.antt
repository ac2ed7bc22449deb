use Rattle.std.proofs.Common.{◌≡◌, map, take}
use Rattle.cep_print.specs.SameFile.{unplaced_modifier}
use Rattle.cep_print.proofs.compared.same_modifiers.Given as goal

abbrev pub invariant-loop-place : goal.invariant-loop-place
invariant-loop-place l = map unplaced_modifier (take l.place l.mods) ≡ map unplaced_modifier (take l.place l.others)
