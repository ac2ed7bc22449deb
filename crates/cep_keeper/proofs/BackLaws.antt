-- What was saved is restored.
use Rattle.std.proofs.Common.{◌≡◌, refl, sym, ◌∙◌, ap, ℕ, ℤ, pos, ◌+◌, ◌<◌, ◌≤◌, ◌^◌, true, ◌&&◌, if◌then◌else◌, List, [], ◌∷◌, ◌++◌, map, length, append_assoc, arith}
use Rattle.std.specs.Prelude.{Option, Some, None, Ok, Err, nat_lt, nat_le, option_map, option_and_then}
use Rattle.std.specs.Option.{option_map_or}
use Rattle.std.proofs.lemmas.Bool.{and_from, lt-ltb, le-leb}
use Rattle.std.proofs.lemmas.List.{append-nil}
use Rattle.std.proofs.lemmas.Slice.Eq.{bytes_eq-Decides}
use Rattle.cep_event.specs.declared.event.Event.{Event}
use Rattle.cep_event.specs.declared.value.Value.{Value}
use Rattle.cep_event.specs.declared.value.Value.TheVariants as value
use Rattle.cep_plan.specs.declared.plan.Plan.{Plan}
use Rattle.cep_keeper.specs.declared.row.SavedRow.{SavedRow}
use Rattle.cep_keeper.specs.declared.recent.Tick.{Tick}
use Rattle.cep_keeper.specs.declared.recent.Tick.TheVariants as tick
use Rattle.cep_keeper.specs.declared.said.Said.{Said}
use Rattle.cep_keeper.specs.declared.said.Said.TheVariants as said
use Rattle.cep_keeper.specs.declared.saved.Saved.{Saved}
use Rattle.cep_keeper.specs.declared.saved.LoadFault.TheVariants as fault
use Rattle.cep_keeper.specs.declared.reading.Reading.{Reading}
use Rattle.cep_keeper.specs.Counted.{event_count}
use Rattle.cep_keeper.specs.Contents.{IsEvent, AreKeys, AreRecent, ArePending, CanRestore, placed_from, again, GivesBack}
use Rattle.cep_keeper.specs.Rows.{value_cell, number_cell, head_row, key_row, tick_row, pending_row}
use Rattle.cep_keeper.specs.Said.{value_in, values_in, maybe_in, count_of, type_of, event_of, said_by}
use Rattle.cep_keeper.specs.Rules.{no_rows, headed, is_event, keeps, may_follow, after, after_key, after_event, after_mark, after_pending, taken, next, placed}
use Rattle.cep_keeper.specs.Restored.{refused, read_on, read_own}
use Rattle.cep_keeper.proofs.RestoreLaws.{read_next}

-- ---- what the rows say

value_back : (v : Value) → value_in (value_cell v) ≡ Some v
value_back (value.Int n) = refl
value_back (value.Text t) = refl

maybe_back : (n : Option ℤ) → maybe_in (number_cell n) ≡ Some n
maybe_back None = refl
maybe_back (Some n) = refl

values_back : (vs : List Value) → values_in (map value_cell vs) ≡ Some vs
values_back [] = refl
values_back (v ∷ vs) =
    ap (λ o. option_and_then (λ v. option_map (λ vs. v ∷ vs) (values_in (map value_cell vs))) o) (value_back v) ∙ ap (option_map (λ l. v ∷ l)) (values_back vs)

below : (n bound : ℕ) → n < bound → (if nat_lt n bound then Some n else None) ≡ Some n
below n bound lt = ap (λ b. if b then Some n else None) (lt-ltb n bound lt)

-- the event in its cells, with how its numbers and values are read
abbrev read_as : ℤ → Option ℕ → Option ℕ → Option (List Value) → Option Event
read_as time row type values = option_and_then (λ row. option_and_then (λ type. option_and_then
    (λ values. Some (event_of time row type values)) values) type) row

event_back : (event : Event) → event.row < 2 ^ 32 → event.type_no < 2 ^ 16
    → read_as event.ts (count_of (pos event.row)) (type_of (pos event.type_no)) (values_in (map value_cell event.values)) ≡ Some event
event_back event row type = λ i. read_as event.ts (below event.row (2 ^ 32) row i) (below event.type_no (2 ^ 16) type i) (values_back event.values i)

key_said : (key : Value) → said_by (key_row key) ≡ Some (said.Key key)
key_said key = ap (λ o. option_and_then (λ k. Some (said.Key k)) o) (value_back key)

event_said_back : (event : Event) (position : ℕ) → event.row < 2 ^ 32 → event.type_no < 2 ^ 16
    → said_by (tick_row (tick.Event event position)) ≡ Some (said.Event event)
event_said_back event position row type = ap (option_map said.Event) (event_back event row type)

pending_said : (event : Event) → event.row < 2 ^ 32 → event.type_no < 2 ^ 16 → said_by (pending_row event) ≡ Some (said.Pending event)
pending_said event row type = ap (option_map said.Pending) (event_back event row type)

head_said : (text : List ℕ) (s : Saved) → s.lines < 2 ^ 32 → said_by (head_row text s) ≡ Some (said.Head s.lines s.mark s.greatest)
head_said text s lt = λ i. read_head (below s.lines (2 ^ 32) lt i) (maybe_back s.mark i) (maybe_back s.greatest i) where
  read_head : Option ℕ → Option (Option ℤ) → Option (Option ℤ) → Option Said
  read_head lines mark greatest = option_and_then (λ l. option_and_then (λ m. option_and_then (λ g. Some (said.Head l m g)) greatest) mark) lines

-- ---- rows one after another

next_is : (plan : Plan) (r : Reading) (row : SavedRow) (told : Said) → said_by row ≡ Some told → (may_follow r.table row.table && keeps plan r told) ≡ true
    → next plan r row ≡ Some (after plan r told)
next_is plan r row told says ok = ap (option_and_then (taken plan r row.table)) says ∙ ap (λ b. if b then Some (after plan r told) else None) ok

module _ (plan : Plan) (s : Saved) (room : s.lines < 2 ^ 32) where
  abbrev done : List Value → List Tick → List Event → Saved
  done keys ticks events = record { lines = s.lines; mark = s.mark; greatest = s.greatest; keys = keys; recent = ticks; pending = events }

  abbrev at : ℕ → ℕ → Option ℤ → ℕ → List Value → List Tick → List Event → Reading
  at table count time row keys ticks events = record { table = table; events = count; time = time; row = row; saved = done keys ticks events }

  is_event-at : (r : Reading) (event : Event) → r.saved.lines ≡ s.lines → IsEvent plan s.lines event → r.events < s.lines → is_event plan r event ≡ true
  is_event-at r event same h lt =
      and_from _ _ (and_from _ _ (and_from _ _ h.typed (lt-ltb 0 event.row h.from_one)) (ap (nat_le event.row) same ∙ le-leb event.row s.lines h.in_lines))
      (ap (nat_lt r.events) same ∙ lt-ltb r.events s.lines lt)

  row_fits : (event : Event) → IsEvent plan s.lines event → event.row < 2 ^ 32
  row_fits event h = let le = h.in_lines in omega (arith, le, room)

  pending_read : (before : List SavedRow) (table count : ℕ) (time : Option ℤ) (row : ℕ) (ticks : List Tick) (had events : List Event)
      → may_follow table 4 ≡ true → ArePending plan s row events → count + length events ≤ s.lines
      → read_on plan before (at table count time row s.keys ticks had) (map pending_row events) ≡ Ok (done s.keys ticks (had ++ events))
  pending_read before table count time row ticks had [] may are fits = ap (λ l. Ok (done s.keys ticks l)) (sym (append-nil had))
  pending_read before table count time row ticks had (event ∷ events) may are fits =
      let r = at table count time row s.keys ticks had in
      let lt : count < s.lines = omega (arith, fits) in
      let ok = and_from _ _ (and_from _ _ (and_from _ _ (is_event-at r event refl are.0 lt) (lt-ltb row event.row are.1)) are.2) are.3 in
      read_next plan before r (after_pending r event) (pending_row event) (map pending_row events)
      (next_is plan r (pending_row event) (said.Pending event) (pending_said event (row_fits event are.0) are.0.type_no) (and_from _ _ may ok))
      ∙ pending_read (before ++ pending_row event ∷ []) 4 (count + 1) time event.row ticks (had ++ event ∷ []) events refl are.4 (omega (arith, fits))
      ∙ ap (λ l. Ok (done s.keys ticks l)) (append_assoc had (event ∷ []) events)

  ticks_read : (before : List SavedRow) (table count : ℕ) (time : Option ℤ) (had ticks : List Tick)
      → may_follow table 3 ≡ true → may_follow table 4 ≡ true → AreRecent plan s time ticks → ArePending plan s 0 s.pending
      → count + (event_count ticks + length s.pending) ≤ s.lines
      → read_on plan before (at table count time 0 s.keys had []) (map tick_row ticks ++ map pending_row s.pending)
      ≡ Ok (done s.keys (placed_from plan had ticks) s.pending)
  ticks_read before table count time had [] may last are waiting fits = pending_read before table count time 0 had [] s.pending last waiting
      (omega (arith, fits))
  ticks_read before table count time had (tick.Event event position ∷ ticks) may last are waiting fits =
      let r = at table count time 0 s.keys had [] in
      let lt : count < s.lines = omega (arith, fits) in
      let comes = and_from _ _ are.0.0 are.0.1 in
      let ok = and_from _ _ (and_from _ _ comes (is_event-at r event refl are.1 lt)) are.2 in
      read_next plan before r (after_event plan r event) (tick_row (tick.Event event position)) (map tick_row ticks ++ map pending_row s.pending)
      (next_is plan r (tick_row (tick.Event event position)) (said.Event event) (event_said_back event position (row_fits event are.1) are.1.type_no)
      (and_from _ _ may ok))
      ∙ ticks_read (before ++ tick_row (tick.Event event position) ∷ []) 3 (count + 1) (Some event.ts)
      (had ++ placed plan had event ∷ []) ticks refl refl are.3 waiting (omega (arith, fits))
  ticks_read before table count time had (tick.Mark now ∷ ticks) may last are waiting fits =
      let r = at table count time 0 s.keys had [] in
      read_next plan before r (after_mark r now) (tick_row (tick.Mark now)) (map tick_row ticks ++ map pending_row s.pending)
      (next_is plan r (tick_row (tick.Mark now)) (said.Mark now) refl (and_from _ _ may (and_from _ _ are.0.0 are.0.1)))
      ∙ ticks_read (before ++ tick_row (tick.Mark now) ∷ []) 3 count (Some now) (had ++ tick.Mark now ∷ []) ticks refl refl are.1 waiting fits

  keys_read : (before : List SavedRow) (table : ℕ) (had keys : List Value)
      → may_follow table 2 ≡ true → may_follow table 3 ≡ true → may_follow table 4 ≡ true → had ++ keys ≡ s.keys → AreKeys plan had keys → CanRestore plan s
      → read_on plan before (at table 0 None 0 had [] []) (map key_row keys ++ (map tick_row s.recent ++ map pending_row s.pending)) ≡ Ok (again plan s)
  keys_read before table had [] may more last is are can =
      let rows = map tick_row s.recent ++ map pending_row s.pending in
      let same : had ≡ s.keys = sym (append-nil had) ∙ is in
      let fits = can.count in
      ap (λ l. read_on plan before (at table 0 None 0 l [] []) rows) same
      ∙ ticks_read before table 0 None [] s.recent more last can.recent can.pending (omega (arith, fits))
  keys_read before table had (key ∷ keys) may more last is are can =
      let r = at table 0 None 0 had [] [] in
      let rows = map key_row keys ++ (map tick_row s.recent ++ map pending_row s.pending) in
      read_next plan before r (after_key r key) (key_row key) rows (next_is plan r (key_row key) (said.Key key) (key_said key) (and_from _ _ may are.0))
      ∙ keys_read (before ++ key_row key ∷ []) 2 (had ++ key ∷ []) keys refl refl refl (append_assoc had (key ∷ []) keys ∙ is) are.1 can

pub gives_back : GivesBack
gives_back plan text s can =
    let first = head_row text s in
    let keys = map key_row s.keys in
    let ticks = map tick_row s.recent in
    let waiting = map pending_row s.pending in
    let later = keys ++ ticks ++ waiting in
    let start = headed s.lines s.mark s.greatest in
    ap (λ o. option_map_or (read_own plan text first later) o (Err (refused [] first)))
    (next_is plan no_rows first (said.Head s.lines s.mark s.greatest) (head_said text s can.lines) refl)
    ∙ ap (λ b. if b then read_on plan (first ∷ []) start later else Err (fault.OtherPlan text text)) ((bytes_eq-Decides text text).1 refl)
    ∙ ap (read_on plan (first ∷ []) start) (append_assoc keys ticks waiting)
    ∙ keys_read plan s can.lines (first ∷ []) 1 [] s.keys refl refl refl refl can.keys can
