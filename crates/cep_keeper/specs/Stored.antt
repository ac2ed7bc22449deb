-- Rows in memory, and what the calls of a keeper in memory do. Its calls are numbered from 1.
use Rattle.std.specs.Prelude.{ℕ, Bool, true, false, ◌&&◌, if◌then◌else◌, List, [], ◌∷◌, ◌++◌, fold, bytes_eq}
use Rattle.std.specs.List.{list_all}
use Rattle.cep_outside.specs.Memory.{next_count}
use Rattle.cep_keeper.specs.declared.row.Cell.{Cell}
use Rattle.cep_keeper.specs.declared.row.Cell.TheVariants as cell
use Rattle.cep_keeper.specs.declared.row.SavedRow.{SavedRow}
use Rattle.cep_keeper.specs.declared.memory.Stored.{Stored}

-- ---- what may be saved

abbrev pub is_intact : Cell → Bool
is_intact (cell.Int n) = true
is_intact (cell.Text t) = true
is_intact cell.Nothing = true
is_intact cell.Broken = false

abbrev pub has_cells : List Cell → Bool
has_cells [] = false
has_cells (c ∷ cells) = true

-- a row that may be saved has a cell, and no cell that is damaged
abbrev pub is_storable : SavedRow → Bool
is_storable row = has_cells row.cells && list_all is_intact row.cells

-- ---- rows in memory

-- the rows that were saved last under the name, and none where nothing was
abbrev pub rows_under : List Stored → List ℕ → List SavedRow
rows_under stores name = fold (λ found store. if bytes_eq store.name name then store.rows else found) [] stores

-- what was saved, in order, and the numbers of the calls that fail
pub record Keeping : Type 0 where
  pub stores : List Stored
  pub fails : List ℕ
  pub calls : ℕ
  pub faults : ℕ

-- these rows are saved too
abbrev pub with_rows : Keeping → List ℕ → List SavedRow → Keeping
with_rows k name rows = record { stores = k.stores ++ record { name = name; rows = rows } ∷ []; fails = k.fails; calls = k.calls; faults = k.faults }

-- what the keeper is after a call that saved nothing, whether the call was refused or not
abbrev pub after_call : Keeping → Bool → Keeping
after_call k refused = record { stores = k.stores; fails = k.fails; calls = next_count k.calls; faults = if refused then next_count k.faults else k.faults }

-- what it is after a call that saved these rows
abbrev pub after_save : Keeping → List ℕ → List SavedRow → Keeping
after_save k name rows = with_rows (after_call k false) name rows
