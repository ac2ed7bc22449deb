-- The order of time and row, as a test of two events. That ties of time are broken by the row is this project's own rule.
use Rattle.std.specs.Prelude.{◌≡◌, Bool, false, List, [], ◌∷◌}
use Rattle.std.specs.List.{AllByRecursion}
use Rattle.std.specs.Ordering.{is_lt}
use Rattle.cep_event.specs.declared.event.Event.{Event}
use Rattle.cep_plan.specs.EventTime.{time_cmp}

-- a comes before b: by time, and by row where the times are the same
abbrev pub is_sooner : Event → Event → Bool
is_sooner a b = is_lt (time_cmp a b)

-- no event is sooner than one before it
abbrev pub IsUpward : List Event → Type 0
IsUpward [] = Unit {0}
IsUpward (x ∷ xs) = AllByRecursion (λ y. is_sooner y x ≡ false) xs × IsUpward xs
