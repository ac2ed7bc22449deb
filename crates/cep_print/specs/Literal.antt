-- The text of a literal. This is this project's own.
use Rattle.std.specs.Prelude.{ℕ, ◌||◌, if◌then◌else◌, ◌==◌, List, [], ◌∷◌, ◌++◌, flat_map, codes}

abbrev pub Text : Type 0
Text = List ℕ

-- `"` and `\` with a backslash before them, and every other byte as it is
abbrev pub escaped_byte : ℕ → Text
escaped_byte b = if b == 34 || b == 92 then 92 ∷ b ∷ [] else b ∷ []

abbrev pub escaped : Text → Text
escaped z = flat_map escaped_byte z

-- between quotes
abbrev pub literal : Text → Text
literal z = codes "\"" ++ (escaped z ++ codes "\"")
