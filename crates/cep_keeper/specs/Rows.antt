-- The rows of what is saved. Four tables, in order: the head, the keys, the recent ticks, the events that wait.
use Rattle.std.specs.Prelude.{ℕ, ℤ, pos, List, [], ◌∷◌, ◌++◌, map, Option, Some, None}
use Rattle.cep_event.specs.declared.event.Event.{Event}
use Rattle.cep_event.specs.declared.value.Value.{Value}
use Rattle.cep_event.specs.declared.value.Value.TheVariants as value
use Rattle.cep_keeper.specs.declared.row.Cell.{Cell}
use Rattle.cep_keeper.specs.declared.row.Cell.TheVariants as cell
use Rattle.cep_keeper.specs.declared.row.SavedRow.{SavedRow}
use Rattle.cep_keeper.specs.declared.recent.Tick.{Tick}
use Rattle.cep_keeper.specs.declared.recent.Tick.TheVariants as tick
use Rattle.cep_keeper.specs.declared.saved.Saved.{Saved}

abbrev pub value_cell : Value → Cell
value_cell (value.Int n) = cell.Int n
value_cell (value.Text t) = cell.Text t

abbrev pub number_cell : Option ℤ → Cell
number_cell None = cell.Nothing
number_cell (Some n) = cell.Int n

-- the cells of an event: time, row, type number, values
abbrev pub event_cells : Event → List Cell
event_cells event = cell.Int event.ts ∷ cell.Int (pos event.row) ∷ cell.Int (pos event.type_no) ∷ map value_cell event.values

-- table 1: the text of the plan, the number of lines, the greatest mark, the greatest time of an event
abbrev pub head_row : List ℕ → Saved → SavedRow
head_row text saved = record { table = 1; cells = cell.Text text ∷ cell.Int (pos saved.lines) ∷ number_cell saved.mark ∷ number_cell saved.greatest ∷ [] }

-- table 2: a key
abbrev pub key_row : Value → SavedRow
key_row key = record { table = 2; cells = value_cell key ∷ [] }

-- table 3: 0 and an event, or 1 and the time of a mark
abbrev pub tick_row : Tick → SavedRow
tick_row (tick.Event event position) = record { table = 3; cells = cell.Int (pos 0) ∷ event_cells event }
tick_row (tick.Mark time) = record { table = 3; cells = cell.Int (pos 1) ∷ cell.Int time ∷ [] }

-- table 4: an event that waits
abbrev pub pending_row : Event → SavedRow
pending_row event = record { table = 4; cells = event_cells event }

-- all rows
abbrev pub saved_rows : List ℕ → Saved → List SavedRow
saved_rows text saved = head_row text saved ∷ [] ++ map key_row saved.keys ++ map tick_row saved.recent ++ map pending_row saved.pending
