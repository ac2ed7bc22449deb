-- What records make known, in the order in which it is told. Late events and items are those of the definitions of event time and of matches; that a
-- record's late event comes before the items that it causes is this project's own.
use Rattle.std.specs.Prelude.{ℕ, List, [], ◌∷◌, ◌++◌, length, map, drop, if◌then◌else◌, Option, Some, None}
use Rattle.std.specs.Option.{option_to_list}
use Rattle.cep_event.specs.declared.record.LineRecord.{LineRecord}
use Rattle.cep_event.specs.declared.record.LineRecord.TheVariants.{Blank, Mark, Row}
use Rattle.cep_plan.specs.declared.item.Item.{Item}
use Rattle.cep_plan.specs.declared.plan.Plan.{Plan}
use Rattle.cep_plan.specs.EventTime.{arrivals_of, is_late, ticks_of, all_ticks}
use Rattle.cep_plan.specs.History.{history}
use Rattle.cep_plan.specs.Skipping.{kept}
use Rattle.cep_plan.specs.Tick.{Tick}

-- a late event, by its row, or a kept item
pub data Told : Type 0 where
  late_told : ℕ → Told
  item_told : Item → Told

-- the row of a record that comes after others, where its event is late
abbrev pub late_in : Option ℕ → List LineRecord → LineRecord → Option ℕ
late_in lag before Blank = None
late_in lag before (Mark time) = None
late_in lag before (Row event) = if is_late (arrivals_of lag before) event then Some event.row else None

-- the items that ticks keep
abbrev pub kept_items : Plan → List Tick → List Item
kept_items plan ticks = kept plan.skip (history plan ticks)

-- the items that more ticks add to those that are kept
abbrev pub added_items : Plan → List Tick → List Tick → List Item
added_items plan before ticks = drop (length (kept_items plan before)) (kept_items plan ticks)

-- what a record makes known that comes after others: that it is late, and the items that its ticks add
abbrev pub told_of : Option ℕ → Plan → List LineRecord → LineRecord → List Told
told_of lag plan before next =
    map late_told (option_to_list (late_in lag before next)) ++ map item_told (added_items plan (ticks_of lag before) (ticks_of lag (before ++ next ∷ [])))

-- what the end makes known, where these records are all
abbrev pub told_at_end : Option ℕ → Plan → List LineRecord → List Told
told_at_end lag plan records = map item_told (added_items plan (ticks_of lag records) (all_ticks lag records))
