-- Names of types that a line can show.
use Rattle.std.specs.Prelude.{ℕ, ◌≡◌, Bool, true, not, ◌&&◌, List, [], ◌∷◌, map}
use Rattle.std.specs.List.{list_all, list_any}
use Rattle.std.specs.Str.{bytes_eq}
use Rattle.cep_event.specs.declared.event.EventType.{EventType}
use Rattle.cep_token.specs.Form.{is_word}

-- no name stands again after itself
abbrev pub are_distinct : List (List ℕ) → Bool
are_distinct [] = true
are_distinct (name ∷ names) = not (list_any (bytes_eq name) names) && are_distinct names

-- each type's name has the form of a Word, and no two have one name
pub record AreNamed (types : List EventType) : Type 0 where
  pub words : list_all (λ (t : EventType). is_word t.name) types ≡ true
  pub distinct : are_distinct (map (λ (t : EventType). t.name) types) ≡ true
