-- How much stands in a buffer after ticks, counted over the living lists alone. (This project's own.)
use Rattle.std.specs.Prelude.{ℕ, ◌+◌, Bool, if◌then◌else◌, List, [], ◌∷◌, ◌++◌, length, map, flat_map, filter, count_by, max}
use Rattle.std.specs.List.{list_any, range_with_len}
use Rattle.cep_plan.specs.declared.plan.Plan.{Plan}
use Rattle.cep_plan.specs.Entry.{Entry}
use Rattle.cep_plan.specs.Follow.{end_stage}
use Rattle.cep_plan.specs.Partial.{waits}
use Rattle.cep_plan.specs.Tick.{Tick, events_of}
use Rattle.cep_plan.specs.Living.{living, stand, reach}
use Rattle.shared_buffer.specs.declared.buffer.Held.{Held}
use Rattle.list_buffer.specs.Held.{is_list}
use Rattle.list_buffer.specs.Fronts.{Place, place_of, is_place}

-- ---- runs

-- a list that waits for a stage
pub record Waiting : Type 0 where
  pub list : List Entry
  pub stage : ℕ

abbrev pub waiting_for : List Entry → ℕ → Waiting
waiting_for list stage = record { list = list; stage = stage }

-- the list with each stage that it waits for after the ticks, the end stage among them, in order of stage
abbrev pub waiting_of : Plan → List Tick → List Entry → List Waiting
waiting_of plan ticks list = map (waiting_for list) (filter (waits plan (events_of ticks) list) (range_with_len 0 (end_stage plan + 1)))

-- the living lists after the ticks, each with each stage that it waits for
abbrev pub waiting_after : Plan → List Tick → List Waiting
waiting_after plan ticks = flat_map (waiting_of plan ticks) (living plan ticks)

-- how many runs there are of a list: one for each stage that it waits for, where it is living
abbrev pub runs_after : Plan → List Tick → List Entry → ℕ
runs_after plan ticks list = count_by (λ waiting. is_list waiting.list list) (waiting_after plan ticks)

-- ---- nodes

-- each element once
abbrev pub once_each : {X : Type 0} → (X → X → Bool) → List X → List X
once_each same [] = []
once_each same (x ∷ xs) = if list_any (same x) xs then once_each same xs else x ∷ once_each same xs

-- the places where lists of the stand end, each once
abbrev pub places : Plan → List Tick → List Place
places plan ticks = once_each is_place (map (place_of plan) (stand plan ticks))

-- ---- sizes

-- how many events, nodes and edges there are after the ticks: the positions in reach, the places where lists of the stand end, and these lists
abbrev pub sizes_after : Plan → List Tick → Held
sizes_after plan ticks = record { events = length (reach plan ticks); nodes = length (places plan ticks); edges = length (stand plan ticks) }

-- the sizes after each of these ticks, which come after others
abbrev pub sizes_from : Plan → List Tick → List Tick → List Held
sizes_from plan before [] = []
sizes_from plan before (tick ∷ later) = sizes_after plan (before ++ tick ∷ []) ∷ sizes_from plan (before ++ tick ∷ []) later

-- the sizes after each of the ticks, in order
abbrev pub sizes_of : Plan → List Tick → List Held
sizes_of plan ticks = sizes_from plan [] ticks

-- the greatest number of events among sizes, 0 where there are none
abbrev pub greatest_held : List Held → ℕ
greatest_held [] = 0
greatest_held (held ∷ later) = max held.events (greatest_held later)
