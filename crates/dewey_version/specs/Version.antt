-- Versions, which a contract sees as lists of digits (after the Dewey numbers of the shared match buffer of Agrawal,
-- Diao, Gyllstrom and Immerman).
use Rattle.std.specs.Prelude.{ℕ, Bool, true, false, ◌==◌, ◌&&◌, List, [], ◌∷◌}
use Rattle.std.specs.declared.cmp.Ordering.{Ordering}
use Rattle.std.specs.Ordering.{nat_cmp}
use Rattle.std.specs.Cmp.Lexicographic.{slice_cmp}

-- the first version is a prefix of the second
abbrev pub begins : List ℕ → List ℕ → Bool
begins [] whole = true
begins (digit ∷ part) [] = false
begins (digit ∷ part) (first ∷ whole) = (digit == first) && begins part whole

-- the order of versions: digit by digit, and a proper prefix first
abbrev pub version_cmp : List ℕ → List ℕ → Ordering
version_cmp = slice_cmp nat_cmp
