-- What a row says by itself: the cells of each table are of their kinds, and there are no others.
use Rattle.std.specs.Prelude.{ℕ, ◌+◌, ◌^◌, ◌==◌, ℤ, pos, negsuc, nat_lt, if◌then◌else◌, List, [], ◌∷◌, length, drop, slice_get, Option, Some, None, option_map, option_and_then, unwrap_or}
use Rattle.cep_event.specs.declared.event.Event.{Event}
use Rattle.cep_event.specs.declared.value.Value.{Value}
use Rattle.cep_event.specs.declared.value.Value.TheVariants as value
use Rattle.cep_keeper.specs.declared.row.Cell.{Cell}
use Rattle.cep_keeper.specs.declared.row.Cell.TheVariants as cell
use Rattle.cep_keeper.specs.declared.row.SavedRow.{SavedRow}
use Rattle.cep_keeper.specs.declared.said.Said.{Said}
use Rattle.cep_keeper.specs.declared.said.Said.TheVariants as said

infixl 10 ◌>>=◌
abbrev pub ◌>>=◌ : {A B : Type 0} → Option A → (A → Option B) → Option B
o >>= f = option_and_then f o

-- ---- cells

abbrev pub int_in : Cell → Option ℤ
int_in (cell.Int n) = Some n
int_in (cell.Text t) = None
int_in cell.Nothing = None
int_in cell.Broken = None

-- a number, or nothing
abbrev pub maybe_in : Cell → Option (Option ℤ)
maybe_in (cell.Int n) = Some (Some n)
maybe_in (cell.Text t) = None
maybe_in cell.Nothing = Some None
maybe_in cell.Broken = None

abbrev pub text_in : Cell → Option (List ℕ)
text_in (cell.Int n) = None
text_in (cell.Text t) = Some t
text_in cell.Nothing = None
text_in cell.Broken = None

abbrev pub value_in : Cell → Option Value
value_in (cell.Int n) = Some (value.Int n)
value_in (cell.Text t) = Some (value.Text t)
value_in cell.Nothing = None
value_in cell.Broken = None

abbrev pub int_at : List Cell → ℕ → Option ℤ
int_at cells place = option_and_then int_in (slice_get cells place)

abbrev pub maybe_at : List Cell → ℕ → Option (Option ℤ)
maybe_at cells place = option_and_then maybe_in (slice_get cells place)

abbrev pub text_at : List Cell → ℕ → Option (List ℕ)
text_at cells place = option_and_then text_in (slice_get cells place)

abbrev pub value_at : List Cell → ℕ → Option Value
value_at cells place = option_and_then value_in (slice_get cells place)

-- a number from 0 to one below the bound
abbrev pub number_below : ℕ → ℤ → Option ℕ
number_below bound (pos n) = if nat_lt n bound then Some n else None
number_below bound (negsuc n) = None

abbrev pub count_of : ℤ → Option ℕ
count_of number = number_below (2 ^ 32) number

abbrev pub count_at : List Cell → ℕ → Option ℕ
count_at cells place = option_and_then count_of (int_at cells place)

abbrev pub type_of : ℤ → Option ℕ
type_of number = number_below (2 ^ 16) number

abbrev pub type_at : List Cell → ℕ → Option ℕ
type_at cells place = option_and_then type_of (int_at cells place)

-- all cells are values
abbrev pub values_in : List Cell → Option (List Value)
values_in [] = Some []
values_in (c ∷ cells) = option_and_then (λ v. option_map (λ vs. v ∷ vs) (values_in cells)) (value_in c)

abbrev pub event_of : ℤ → ℕ → ℕ → List Value → Event
event_of time row type values = record { row = row; ts = time; type_no = type; values = values }

-- the cells from a place on are those of an event: time, row, type number, values
abbrev pub event_from : List Cell → ℕ → Option Event
event_from cells at = do
  time ← int_at cells at
  row ← count_at cells (at + 1)
  type ← type_at cells (at + 2)
  values ← values_in (drop (at + 3) cells)
  Some (event_of time row type values)

-- ---- rows

-- table 1: a text, a number of lines, two numbers or nothing
abbrev pub head_in : List Cell → Option Said
head_in cells = do
  text ← text_at cells 0
  lines ← count_at cells 1
  mark ← maybe_at cells 2
  greatest ← maybe_at cells 3
  if length cells == 4 then Some (said.Head lines mark greatest) else None

-- table 2: a value
abbrev pub key_in : List Cell → Option Said
key_in cells = do
  key ← value_at cells 0
  if length cells == 1 then Some (said.Key key) else None

abbrev pub mark_in : List Cell → Option Said
mark_in cells = do
  time ← int_at cells 1
  if length cells == 2 then Some (said.Mark time) else None

abbrev pub event_said : List Cell → Option Said
event_said cells = option_map said.Event (event_from cells 1)

-- table 3: 0 and an event, or 1 and a time
abbrev pub tick_of : List Cell → ℤ → Option Said
tick_of cells (pos n) = if n == 0 then event_said cells else (if n == 1 then mark_in cells else None)
tick_of cells (negsuc n) = None

abbrev pub tick_in : List Cell → Option Said
tick_in cells = option_and_then (tick_of cells) (int_at cells 0)

-- table 4: an event
abbrev pub pending_in : List Cell → Option Said
pending_in cells = option_map said.Pending (event_from cells 0)

-- what a row says, where its table is one of the four
abbrev pub said_by : SavedRow → Option Said
said_by row =
    if row.table == 1 then head_in row.cells else
    (if row.table == 2 then key_in row.cells else
    (if row.table == 3 then tick_in row.cells else
    (if row.table == 4 then pending_in row.cells else None)))

-- the text of the plan in a row of table 1
abbrev pub text_of : SavedRow → List ℕ
text_of row = unwrap_or (text_at row.cells 0) []
