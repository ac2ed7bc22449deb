-- Fields that aren't there.
use Rattle.std.proofs.Common.{◌≡◌, ℕ, zero, suc, List, [], ◌∷◌, refl, get_or, None}
use Rattle.std.specs.Prelude.{slice_get}

-- where there is no field, the field is empty
pub none-at : (fields : List (List ℕ)) (place : ℕ) → None ≡ slice_get fields place → get_or fields place [] ≡ []
none-at [] place e = refl
none-at (field ∷ fields) zero e = cc e
none-at (field ∷ fields) (suc place) e = none-at fields place e
