-- What is counted beside the contents: the events among the ticks, and for each key that the rows gave those that have it.
use Rattle.std.specs.Prelude.{◌≡◌, ℕ, if◌then◌else◌, List, Option, Some, None, is_some, unwrap_or}
use Rattle.std.specs.Option.{option_map_or}
use Rattle.std.specs.BTreeMap.{get, get_by_text}
use Rattle.std.specs.Ordering.{int_cmp}
use Rattle.cep_event.specs.declared.event.Event.{Event}
use Rattle.cep_event.specs.declared.value.Value.{Value}
use Rattle.cep_event.specs.declared.value.Value.TheVariants as value
use Rattle.cep_plan.specs.declared.plan.Plan.{Plan}
use Rattle.cep_plan.specs.Keys.{key_of}
use Rattle.cep_keeper.specs.declared.recent.Tick.{Tick}
use Rattle.cep_keeper.specs.declared.counts.Counts.{Counts}
use Rattle.cep_keeper.specs.Counted.{event_count}
use Rattle.cep_keeper.specs.Rules.{is_among, key_count}

-- how many events have the key, where the rows gave it
abbrev pub count_of : Counts → Value → Option ℕ
count_of c (value.Int number) = get int_cmp c.numbers number
count_of c (value.Text text) = get_by_text c.texts text

-- how many events with the key of this one came before it
abbrev pub count_before : Plan → Counts → Event → ℕ
count_before plan c event = option_map_or (λ key. unwrap_or (count_of c key) 0) (key_of plan event) c.events

-- the keys that are counted are these
abbrev pub Lists : Counts → List Value → Type 0
Lists c keys = (key : Value) → is_some (count_of c key) ≡ is_among keys key

-- the counts are those of these keys and ticks
pub record Tallies (plan : Plan) (c : Counts) (keys : List Value) (ticks : List Tick) : Type 0 where
  pub all : c.events ≡ event_count ticks
  pub own : (key : Value) → count_of c key ≡ (if is_among keys key then Some (key_count plan (Some key) ticks) else None)
