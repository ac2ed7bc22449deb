-- What a load run writes. This is this project's own.
use Rattle.std.specs.Prelude.{ℕ, List, [], ◌∷◌, ◌++◌, codes, decimal}

-- a line of a name and a number
abbrev pub counted : List ℕ → ℕ → List ℕ
counted name number = name ++ (32 ∷ (decimal number ++ 10 ∷ []))

-- how many rows there were, how many late rows, matches and timeouts they came to, and the greatest number of events that were held after a tick
abbrev pub summary_of : ℕ → ℕ → ℕ → ℕ → ℕ → List ℕ
summary_of rows late matches timeouts greatest =
    counted (codes "rows") rows
    ++ (counted (codes "late") late ++ (counted (codes "matches") matches ++ (counted (codes "timeouts") timeouts ++ counted (codes "greatest held") greatest)))
