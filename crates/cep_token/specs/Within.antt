-- How tokens lie in a text.
use Rattle.std.specs.Prelude.{◌≡◌, ℕ, ◌<◌, ◌≤◌, true, List, [], ◌∷◌, length, slice_range}
use Rattle.cep_token.specs.declared.token.Token.{Token}
use Rattle.cep_token.specs.Form.{has_form}

-- a token is a part of the text that is not empty, and has the form of its kind
pub record IsWithin (text : List ℕ) (token : Token) : Type 0 where
  pub some : token.start < token.end
  pub fits : token.end ≤ length text
  pub formed : has_form token.kind (slice_range text token.start token.end) ≡ true

-- each token begins where the one before it ends, or later, and the first at the place or later
abbrev pub AreInOrder : ℕ → List Token → Type 0
AreInOrder place [] = Unit {0}
AreInOrder place (token ∷ tokens) = (place ≤ token.start) × AreInOrder token.end tokens
