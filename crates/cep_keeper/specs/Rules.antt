-- The rules that a row must keep, from what the rows before it state, and what they state with it.
use Rattle.std.specs.Prelude.{ℕ, ◌+◌, ◌==◌, ℤ, nat_lt, nat_le, int_lt, int_le, Bool, true, false, not, ◌&&◌, if◌then◌else◌, List, [], ◌∷◌, ◌++◌, slice_get, Option, Some, None, option_and_then, option_map}
use Rattle.std.specs.List.{list_any}
use Rattle.std.specs.Option.{option_map_or}
use Rattle.cep_event.specs.declared.event.Event.{Event}
use Rattle.cep_event.specs.declared.event.EventType.{EventType}
use Rattle.cep_event.specs.declared.event.Field.{Field}
use Rattle.cep_event.specs.declared.value.Kind.{Kind}
use Rattle.cep_event.specs.declared.value.Kind.TheVariants as kind
use Rattle.cep_event.specs.declared.value.Value.{Value}
use Rattle.cep_event.specs.declared.value.Value.TheVariants as value
use Rattle.cep_plan.specs.declared.plan.Plan.{Plan}
use Rattle.cep_plan.specs.Aggregate.{field_place}
use Rattle.cep_plan.specs.Keys.{key_of, same_key, same_value}
use Rattle.cep_keeper.specs.declared.row.SavedRow.{SavedRow}
use Rattle.cep_keeper.specs.declared.recent.Tick.{Tick}
use Rattle.cep_keeper.specs.declared.recent.Tick.TheVariants as tick
use Rattle.cep_keeper.specs.declared.saved.Saved.{Saved}
use Rattle.cep_keeper.specs.declared.said.Said.{Said}
use Rattle.cep_keeper.specs.declared.said.Said.TheVariants as said
use Rattle.cep_keeper.specs.declared.reading.Reading.{Reading}
use Rattle.cep_keeper.specs.Said.{said_by}

-- ---- what the rows so far state

-- the contents of the empty list of lines
abbrev pub no_lines : Saved
no_lines = record { lines = 0; mark = None; greatest = None; keys = []; recent = []; pending = [] }

-- no row yet
abbrev pub no_rows : Reading
no_rows = record { table = 0; events = 0; time = None; row = 0; saved = no_lines }

-- ---- keys

abbrev pub is_of : Kind → Value → Bool
is_of kind.Int (value.Int n) = true
is_of kind.Int (value.Text t) = false
is_of kind.Text (value.Int n) = false
is_of kind.Text (value.Text t) = true

-- The kind of keys: that of the field that the pattern names, in the first type. All types have the field, with one kind.
abbrev pub kind_at : List Field → ℕ → Option Kind
kind_at fields place = option_map (λ field. field.kind) (slice_get fields place)

abbrev pub kind_in : ℕ → EventType → Option Kind
kind_in field type = option_and_then (kind_at type.fields) (field_place type field)

abbrev pub key_kind : Plan → Option Kind
key_kind plan = option_and_then (λ field. option_and_then (kind_in field) (slice_get plan.types 0)) plan.by

abbrev pub is_among : List Value → Value → Bool
is_among keys key = list_any (same_value key) keys

-- a key of the right kind that isn't there yet
abbrev pub is_new_key : Plan → List Value → Value → Bool
is_new_key plan keys key = option_map_or (λ kind. is_of kind key) (key_kind plan) false && not (is_among keys key)

-- where the pattern names a field: the event has a key, which is there
abbrev pub has_known_key : Plan → List Value → Event → Bool
has_known_key plan keys event = option_map_or (λ field. option_map_or (is_among keys) (key_of plan event) false) plan.by true

-- ---- events

-- a value of the right kind for each field, and no others
abbrev pub are_of : List Field → List Value → Bool
are_of [] [] = true
are_of [] (v ∷ vs) = false
are_of (f ∷ fs) [] = false
are_of (f ∷ fs) (v ∷ vs) = is_of f.kind v && are_of fs vs

abbrev pub has_type : List EventType → Event → Bool
has_type types event = option_map_or (λ type. are_of type.fields event.values) (slice_get types event.type_no) false

-- an event of a declared type, in one of the lines, and not more events than lines
abbrev pub is_event : Plan → Reading → Event → Bool
is_event plan r event = has_type plan.types event && nat_lt 0 event.row && nat_le event.row r.saved.lines && nat_lt r.events r.saved.lines

-- ---- times

-- there is such a time, and it isn't below this one
abbrev pub is_reached : Option ℤ → ℤ → Bool
is_reached limit time = option_map_or (λ last. int_le time last) limit false

-- no time before is above this one
abbrev pub is_not_before : Option ℤ → ℤ → Bool
is_not_before earlier time = option_map_or (λ last. int_le last time) earlier true

-- the mark, if there is one, is below this time
abbrev pub is_above : Option ℤ → ℤ → Bool
is_above mark time = option_map_or (λ last. int_lt last time) mark true

-- a tick's time
abbrev pub comes_next : Reading → ℤ → Bool
comes_next r time = is_not_before r.time time && is_reached r.saved.mark time

-- ---- a row

-- The first row is of table 1 and no other is. Tables don't fall.
abbrev pub may_follow : ℕ → ℕ → Bool
may_follow before table = if before == 0 then table == 1 else (nat_le before table && not (table == 1))

abbrev pub keeps : Plan → Reading → Said → Bool
keeps plan r (said.Head lines mark greatest) = true
keeps plan r (said.Key key) = is_new_key plan r.saved.keys key
keeps plan r (said.Event event) = comes_next r event.ts && is_event plan r event && has_known_key plan r.saved.keys event
keeps plan r (said.Mark time) = comes_next r time
keeps plan r (said.Pending event) = is_event plan r event && nat_lt r.row event.row && is_above r.saved.mark event.ts && is_reached r.saved.greatest event.ts

-- ---- what the rows state with this one

abbrev pub has_key : Plan → Option Value → Tick → Bool
has_key plan key (tick.Event event position) = same_key (key_of plan event) key
has_key plan key (tick.Mark time) = false

-- how many events of the key are among the ticks
abbrev pub key_count : Plan → Option Value → List Tick → ℕ
key_count plan key [] = 0
key_count plan key (t ∷ ticks) = (if has_key plan key t then 1 else 0) + key_count plan key ticks

-- an event behind the ticks, with its position among the events of its key
abbrev pub placed : Plan → List Tick → Event → Tick
placed plan ticks event = tick.Event event (key_count plan (key_of plan event) ticks)

abbrev pub with_key : Saved → Value → Saved
with_key s key = record { lines = s.lines; mark = s.mark; greatest = s.greatest; keys = s.keys ++ key ∷ []; recent = s.recent; pending = s.pending }

abbrev pub with_tick : Saved → Tick → Saved
with_tick s t = record { lines = s.lines; mark = s.mark; greatest = s.greatest; keys = s.keys; recent = s.recent ++ t ∷ []; pending = s.pending }

abbrev pub with_pending : Saved → Event → Saved
with_pending s event = record { lines = s.lines; mark = s.mark; greatest = s.greatest; keys = s.keys; recent = s.recent; pending = s.pending ++ event ∷ [] }

abbrev pub headed : ℕ → Option ℤ → Option ℤ → Reading
headed lines mark greatest =
    record {
      table =
          1;
      events = 0;
      time = None;
      row = 0;
      saved = record { lines = lines; mark = mark; greatest = greatest; keys = []; recent = []; pending = [] };
    }

abbrev pub after_key : Reading → Value → Reading
after_key r key = record { table = 2; events = r.events; time = r.time; row = r.row; saved = with_key r.saved key }

abbrev pub after_event : Plan → Reading → Event → Reading
after_event plan r event = record {
  table = 3;
  events = r.events + 1;
  time = Some event.ts;
  row = r.row;
  saved = with_tick r.saved
      (placed plan r.saved.recent event);
}

abbrev pub after_mark : Reading → ℤ → Reading
after_mark r time = record { table = 3; events = r.events; time = Some time; row = r.row; saved = with_tick r.saved (tick.Mark time) }

abbrev pub after_pending : Reading → Event → Reading
after_pending r event = record { table = 4; events = r.events + 1; time = r.time; row = event.row; saved = with_pending r.saved event }

abbrev pub after : Plan → Reading → Said → Reading
after plan r (said.Head lines mark greatest) = headed lines mark greatest
after plan r (said.Key key) = after_key r key
after plan r (said.Event event) = after_event plan r event
after plan r (said.Mark time) = after_mark r time
after plan r (said.Pending event) = after_pending r event

-- what the rows state with what this one says, unless it breaks a rule
abbrev pub taken : Plan → Reading → ℕ → Said → Option Reading
taken plan r table told = if may_follow r.table table && keeps plan r told then Some (after plan r told) else None

-- what the rows state with this one, unless it breaks a rule
abbrev pub next : Plan → Reading → SavedRow → Option Reading
next plan r row = option_and_then (taken plan r row.table) (said_by row)
