-- In which order the matches of a tick come, and up to where the kept ones kill starts. (This project's own.)
use Rattle.std.specs.Prelude.{ℕ, ◌≡◌, ◌≤◌, ⊤, Bool, false, nat_lt, if◌then◌else◌, List, [], ◌∷◌, Option, Some, None, IfSome}
use Rattle.std.specs.List.{list_any, AllByRecursion as Each}
use Rattle.std.specs.Option.{option_map_or}
use Rattle.cep_plan.specs.declared.plan.Skip.{Skip}
use Rattle.cep_plan.specs.declared.item.Taken.{Taken}
use Rattle.cep_plan.specs.Skipping.{start_of, kills_start}

-- the first list doesn't start after the second one
abbrev pub StartsNoLater : List Taken → List Taken → Type 0
StartsNoLater a b = IfSome (start_of a) (λ p. IfSome (start_of b) (λ q. p ≤ q))

-- no list starts after one behind it
abbrev pub AreInStartOrder : List (List Taken) → Type 0
AreInStartOrder [] = ⊤
AreInStartOrder (list ∷ later) = Each (StartsNoLater list) later × AreInStartOrder later

-- the list doesn't start after the position
abbrev pub StartsBy : ℕ → List Taken → Type 0
StartsBy position list = IfSome (start_of list) (λ p. p ≤ position)

-- Of the starts that don't come before those of the matches, they kill the ones below the reach.
abbrev pub KillBelow : Skip → List (List Taken) → ℕ → Type 0
KillBelow skip matches reach = (start : ℕ) → Each (StartsBy start) matches → list_any (λ match. kills_start skip match start) matches ≡ nat_lt start reach

-- the reach with one more range of killed starts
abbrev pub farther : ℕ → Option (ℕ × ℕ) → ℕ
farther reach None = reach
farther reach (Some (from, to)) = if nat_lt reach to then to else reach

-- the list starts below the reach
abbrev pub starts_below : ℕ → List Taken → Bool
starts_below reach list = option_map_or (λ p. nat_lt p reach) (start_of list) false
