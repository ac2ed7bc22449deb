-- Contents that can be restored: what a run gives keeps these rules.
use Rattle.std.specs.Prelude.{◌≡◌, ⊤, ℕ, ℤ, ◌+◌, ◌^◌, ◌<◌, ◌≤◌, true, List, [], ◌∷◌, ◌++◌, length, Option, Some, None, Ok}
use Rattle.cep_event.specs.declared.event.Event.{Event}
use Rattle.cep_event.specs.declared.value.Value.{Value}
use Rattle.cep_plan.specs.declared.plan.Plan.{Plan}
use Rattle.cep_keeper.specs.declared.recent.Tick.{Tick}
use Rattle.cep_keeper.specs.declared.recent.Tick.TheVariants as tick
use Rattle.cep_keeper.specs.declared.saved.Saved.{Saved}
use Rattle.cep_keeper.specs.Counted.{event_count}
use Rattle.cep_keeper.specs.Rules.{has_type, has_known_key, is_new_key, is_not_before, is_reached, is_above, placed}
use Rattle.cep_keeper.specs.Rows.{saved_rows}
use Rattle.cep_keeper.specs.Restored.{restored}

-- an event of a declared type, in one of the lines
pub record IsEvent (plan : Plan) (lines : ℕ) (event : Event) : Type 0 where
  pub type_no : event.type_no < 2 ^ 16
  pub typed : has_type plan.types event ≡ true
  pub from_one : 0 < event.row
  pub in_lines : event.row ≤ lines

-- the keys are of their kind, and none comes twice
abbrev pub AreKeys : Plan → List Value → List Value → Type 0
AreKeys plan before [] = ⊤
AreKeys plan before (key ∷ keys) = (is_new_key plan before key ≡ true) × AreKeys plan (before ++ key ∷ []) keys

-- a tick's time: not below that of the tick before, and the greatest mark has reached it
abbrev pub ComesNext : Saved → Option ℤ → ℤ → Type 0
ComesNext s earlier time = (is_not_before earlier time ≡ true) × (is_reached s.mark time ≡ true)

-- the ticks are of their types and keys, and their times never fall and are at most the greatest mark
abbrev pub AreRecent : Plan → Saved → Option ℤ → List Tick → Type 0
AreRecent plan s earlier [] = ⊤
AreRecent plan s earlier (tick.Event event position ∷ ticks) =
    ComesNext s earlier event.ts × IsEvent plan s.lines event × (has_known_key plan s.keys event ≡ true) × AreRecent plan s (Some event.ts) ticks
AreRecent plan s earlier (tick.Mark time ∷ ticks) = ComesNext s earlier time × AreRecent plan s (Some time) ticks

-- the events that wait are of their types, their rows rise, and their times are above the greatest mark and at most the greatest time
abbrev pub ArePending : Plan → Saved → ℕ → List Event → Type 0
ArePending plan s row [] = ⊤
ArePending plan s row (event ∷ events) =
    IsEvent plan s.lines event × (row < event.row) × (is_above s.mark event.ts ≡ true) × (is_reached s.greatest event.ts ≡ true)
    × ArePending plan s event.row events

pub record CanRestore (plan : Plan) (s : Saved) : Type 0 where
  pub lines : s.lines < 2 ^ 32
  pub keys : AreKeys plan [] s.keys
  pub recent : AreRecent plan s None s.recent
  pub pending : ArePending plan s 0 s.pending
  pub count : event_count s.recent + length s.pending ≤ s.lines

-- the ticks with positions that count the events of each key from 0
abbrev pub placed_from : Plan → List Tick → List Tick → List Tick
placed_from plan before [] = before
placed_from plan before (tick.Event event position ∷ ticks) = placed_from plan (before ++ placed plan before event ∷ []) ticks
placed_from plan before (tick.Mark time ∷ ticks) = placed_from plan (before ++ tick.Mark time ∷ []) ticks

-- the contents with positions that count from 0
abbrev pub again : Plan → Saved → Saved
again plan s = record { lines = s.lines; mark = s.mark; greatest = s.greatest; keys = s.keys; recent = placed_from plan [] s.recent; pending = s.pending }

-- What was saved is restored, with the positions of its ticks counted from 0.
abbrev pub GivesBack : Type 0
GivesBack = (plan : Plan) (text : List ℕ) (s : Saved) → CanRestore plan s → restored plan text (saved_rows text s) ≡ Ok (again plan s)
