-- For which ticks the recent ones stand.
use Rattle.std.specs.Prelude.{◌≡◌, ⊤, ℕ, nat_le, nat_lt, Bool, true, false, if◌then◌else◌, List, [], ◌∷◌, ◌++◌, map, filter, length, find, fold, Option, option_map}
use Rattle.std.specs.Option.{option_map_or}
use Rattle.cep_event.specs.declared.record.Moment.TheVariants.{At}
use Rattle.cep_event.specs.declared.value.Value.{Value}
use Rattle.cep_plan.specs.declared.plan.Plan.{Plan}
use Rattle.cep_plan.specs.Keys.{key_of, same_key, ticks_of_key}
use Rattle.cep_plan.specs.Tick as plain_tick
use Rattle.cep_plan.specs.Tick.{event_tick, mark_tick}
use Rattle.recent_laws.specs.Recent.{oldest, place_after}
use Rattle.cep_keeper.specs.declared.recent.Tick.{Tick}
use Rattle.cep_keeper.specs.declared.recent.Tick.TheVariants as tick

-- the start listed for the key, if one is
abbrev pub start_listed : List (Option Value × ℕ) → Option Value → Option ℕ
start_listed starts key = option_map (λ p. p.1) (find (λ p. same_key p.0 key) starts)

-- The tick is still recent, behind so many that are: an event from the oldest start of its key on, and a mark behind such an event.
abbrev pub stays : Plan → List (Option Value × ℕ) → ℕ → Tick → Bool
stays plan starts behind (tick.Event event position) = option_map_or (λ start. nat_le start position) (start_listed starts (key_of plan event)) false
stays plan starts behind (tick.Mark time) = nat_lt 0 behind

abbrev pub with_recent : Plan → List (Option Value × ℕ) → List Tick → Tick → List Tick
with_recent plan starts kept t = if stays plan starts (length kept) t then kept ++ t ∷ [] else kept

-- the ticks that are still recent
abbrev pub noted : Plan → List (Option Value × ℕ) → List Tick → List Tick
noted plan starts ticks = fold (with_recent plan starts) [] ticks

-- ---- for which ticks the recent ones stand

abbrev pub plain : Tick → plain_tick.Tick
plain (tick.Event event position) = event_tick event
plain (tick.Mark time) = mark_tick (At time)

-- each event has its position among those of its key
abbrev pub IsPlaced : Plan → List plain_tick.Tick → List Tick → Type 0
IsPlaced plan before [] = ⊤
IsPlaced plan before (tick.Event event position ∷ ticks) = (position ≡ place_after plan before (key_of plan event))
    × IsPlaced plan (before ++ event_tick event ∷ []) ticks
IsPlaced plan before (tick.Mark time ∷ ticks) = IsPlaced plan (before ++ mark_tick (At time) ∷ []) ticks

-- the starts are the oldest after the ticks, key by key
abbrev pub ListsOldest : Plan → List (Option Value × ℕ) → List plain_tick.Tick → Type 0
ListsOldest plan starts ticks = (key : Option Value) → start_listed starts key ≡ oldest plan (ticks_of_key plan key ticks)

abbrev pub is_kept : Plan → (Option Value → Option ℕ) → Tick → Bool
is_kept plan starts (tick.Event event position) = option_map_or (λ start. nat_le start position) (starts (key_of plan event)) false
is_kept plan starts (tick.Mark time) = true

abbrev pub from_first : List Tick → List Tick
from_first [] = []
from_first (tick.Event event position ∷ ticks) = tick.Event event position ∷ ticks
from_first (tick.Mark time ∷ ticks) = from_first ticks

-- The ticks held stand for all ticks: they are the events from the oldest start of their key on, and the marks behind one of them. So they are the
-- recent ticks: see the laws.
pub record StandsFor (plan : Plan) (held all : List Tick) : Type 0 where
  pub placed : IsPlaced plan [] all
  pub is : held ≡ from_first (filter (is_kept plan (λ key. oldest plan (ticks_of_key plan key (map plain all)))) all)
