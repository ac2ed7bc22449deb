use Rattle.std.proofs.Common.{◌≡◌, ◌∷◌, ◌++◌, map, take, pos}
use Rattle.cep_keeper.specs.declared.row.Cell.TheVariants as cell
use Rattle.cep_keeper.specs.Rows.{value_cell}
use Rattle.cep_keeper.proofs.save.push_event.Given as goal

abbrev pub invariant-loop-value : goal.invariant-loop-value
invariant-loop-value l =
    l.cells ≡ l.fn.cells ++ cell.Int l.event.ts ∷ cell.Int (pos l.event.row) ∷ cell.Int (pos l.event.type_no) ∷ map value_cell
    (take l.value-index l.value-items)
