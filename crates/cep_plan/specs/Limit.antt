-- The time limits of a pattern: that of the whole (`within`), as in the FlinkCEP chapter of the Flink manual, and that between neighbouring events
-- (`withinGap`), which is this project's own, as their use together is. That the bounds are strict, and the moment at which a limit is reached, is
-- this project's own too. Times are milliseconds, and their sums are whole numbers that don't wrap.
use Rattle.std.specs.Prelude.{ℤ, pos, ◌+ℤ◌, Bool, true, false, not, ◌&&◌, List, [], ◌∷◌, Option, Some, None, option_map}
use Rattle.std.specs.List.{list_all}
use Rattle.std.specs.Option.{option_map_or}
use Rattle.cep_event.specs.declared.event.Event.{Event}
use Rattle.cep_event.specs.declared.record.Moment.{Moment}
use Rattle.cep_event.specs.declared.record.Moment.TheVariants.{At}
use Rattle.cep_event.specs.Moment.{has_reached}
use Rattle.cep_plan.specs.declared.plan.Plan.{Plan}
use Rattle.cep_plan.specs.declared.item.Taken.{Taken}
use Rattle.cep_plan.specs.Aggregate.{lesser}

-- the time at which the limit is reached of a list that begins with the event
abbrev pub limit_from : Plan → Event → Option ℤ
limit_from plan first = option_map (λ within. first.ts +ℤ pos within) plan.within

-- the time at which the limit between neighbours is reached of a list that ends with the event
abbrev pub limit_behind : Plan → Event → Option ℤ
limit_behind plan last = option_map (λ gap. last.ts +ℤ pos gap) plan.within_gap

-- the lesser of two limits, of those that are there
abbrev pub lesser_limit : Option ℤ → Option ℤ → Option ℤ
lesser_limit None other = other
lesser_limit (Some limit) None = Some limit
lesser_limit (Some limit) (Some other) = Some (lesser limit other)

-- the last event of taken events of which one is given
abbrev pub last_behind : Taken → List Taken → Taken
last_behind first [] = first
last_behind first (next ∷ later) = last_behind next later

-- The time at which a list's limit is reached, if it has one: the lesser of the limit that its first event sets and the one that its last event sets.
abbrev pub limit_of : Plan → List Taken → Option ℤ
limit_of plan [] = None
limit_of plan (first ∷ later) = lesser_limit (limit_from plan first.event) (limit_behind plan (last_behind first later).event)

-- the limit is reached at the moment
abbrev pub is_limit_reached : Option ℤ → Moment → Bool
is_limit_reached limit now = option_map_or (has_reached now) limit false

-- the limit isn't reached at the time
abbrev pub is_below_limit : Option ℤ → ℤ → Bool
is_below_limit limit time = not (is_limit_reached limit (At time))

-- all taken events come before the limit that the first of them sets
abbrev pub are_within : Plan → List Taken → Bool
are_within plan [] = true
are_within plan (first ∷ later) = list_all (λ t. is_below_limit (limit_from plan first.event) t.event.ts) (first ∷ later)

-- each of the later events comes before the limit that the one before it sets
abbrev pub are_near_behind : Plan → Taken → List Taken → Bool
are_near_behind plan before [] = true
are_near_behind plan before (next ∷ later) = is_below_limit (limit_behind plan before.event) next.event.ts && are_near_behind plan next later

-- each taken event but the first comes before the limit that the one before it sets
abbrev pub are_near : Plan → List Taken → Bool
are_near plan [] = true
are_near plan (first ∷ later) = are_near_behind plan first later

-- all taken events come before the limit that the first of them sets, and each but the first before the one that its neighbour sets
abbrev pub are_in_time : Plan → List Taken → Bool
are_in_time plan taken = are_within plan taken && are_near plan taken

-- The limit is reached now and wasn't at the moment before. Nothing is due at the first tick, which has no moment before it.
abbrev pub is_due : Option ℤ → Option Moment → Moment → Bool
is_due limit before now = option_map_or (λ moment. not (is_limit_reached limit moment) && is_limit_reached limit now) before false

-- the limit isn't reached at the moment of the last tick, if there was one
abbrev pub is_time_left : Option ℤ → Option Moment → Bool
is_time_left limit last = option_map_or (λ moment. not (is_limit_reached limit moment)) last true
