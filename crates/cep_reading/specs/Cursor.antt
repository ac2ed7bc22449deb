-- What a `Cursor` shows, and what it keeps.
use Rattle.std.specs.Prelude.{◌≡◌, ℕ, true, List, [], ◌∷◌, map, All, Option, Some, None}
use Rattle.std.specs.Borrow.{Bor}
use Rattle.std.specs.Str.{IsUtf8}
use Rattle.cep_token.specs.declared.token.TokenKind.{TokenKind}
use Rattle.cep_token.specs.Form.{has_form}
use Rattle.cep_token.specs.Within.{IsWithin}
use Rattle.cep_reading.specs.declared.cursor.Cursor.TheInside.{Inside}
use Rattle.cep_reading.specs.Lexeme.{Lexeme, lexeme_of}

abbrev pub lexemes_of : Inside → List Lexeme
lexemes_of c = map (lexeme_of c.source.now) c.left.now

pub record IsReady (c : Inside) : Type 0 where
  pub text : IsUtf8 c.source.now
  pub within : All (IsWithin c.source.now) c.left.now

-- the kind, the text and the place of the next token
abbrev pub Shows : List Lexeme → Option (TokenKind × Bor (List ℕ) × ℕ) → Type 0
Shows [] (Some found) = ⊥
Shows [] None = Unit {0}
Shows (t ∷ ts) (Some found) = (found.0 ≡ t.kind) × (found.1.now ≡ t.text) × (found.2 ≡ t.place)
Shows (t ∷ ts) None = ⊥

-- what is shown has the form of its kind
abbrev pub IsFormed : Option (TokenKind × Bor (List ℕ) × ℕ) → Type 0
IsFormed (Some found) = has_form found.0 found.1.now ≡ true
IsFormed None = Unit {0}
