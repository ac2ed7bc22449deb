-- The first answer of a list, and what a place is told for. Plain words of this project's own.
use Rattle.std.specs.Prelude.{ℕ, suc, Bool, List, [], ◌∷◌, Option, Some, None, if◌then◌else◌}

-- the first answer, and else the second
abbrev pub or_else : {B : Type 0} → Option B → Option B → Option B
or_else None other = other
or_else (Some answer) other = Some answer

-- the answer of the first element that has one
abbrev pub first_some : {A B : Type 0} → (A → Option B) → List A → Option B
first_some judge [] = None
first_some judge (x ∷ xs) = or_else (judge x) (first_some judge xs)

-- the same, where an element is judged with its number, which counts from n
abbrev pub first_from : {A B : Type 0} → (ℕ → A → Option B) → ℕ → List A → Option B
first_from judge n [] = None
first_from judge n (x ∷ xs) = or_else (judge n x) (first_from judge (suc n) xs)

-- the same, counted from 0
abbrev pub first_numbered : {A B : Type 0} → (ℕ → A → Option B) → List A → Option B
first_numbered judge xs = first_from judge 0 xs

-- the place, where the rule is broken there
abbrev pub place_if : Bool → ℕ → Option ℕ
place_if is_broken place = if is_broken then Some place else None
