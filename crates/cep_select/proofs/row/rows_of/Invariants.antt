use Rattle.std.proofs.Common.{◌≡◌, take}
use Rattle.cep_select.specs.Output.{rows_of}
use Rattle.cep_select.proofs.row.rows_of.Given as goal

abbrev pub invariant-loop-item : goal.invariant-loop-item
invariant-loop-item l = l.rows ≡ rows_of l.plan (take l.item-index l.items)
