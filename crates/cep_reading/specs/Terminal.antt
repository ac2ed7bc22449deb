-- What one token can stand for.
use Rattle.std.specs.Prelude.{ℕ, Bool, true, false, ◌&&◌, if◌then◌else◌, nat_le, List, length, Option, Some, None}
use Rattle.std.specs.Str.{bytes_eq}
use Rattle.cep_token.specs.declared.token.TokenKind.{TokenKind}
use Rattle.cep_token.specs.declared.token.TokenKind.TheVariants as token
use Rattle.cep_token.specs.Piece.{value_of}
use Rattle.cep_token.specs.Form as form
use Rattle.cep_token.specs.Content.{content_of}
use Rattle.cep_reading.specs.declared.name.Name.{Name}
use Rattle.cep_reading.specs.declared.name.TheConstants.{LONGEST_NAME}
use Rattle.cep_reading.specs.Lexeme.{Lexeme}

abbrev pub is_symbol : TokenKind → Bool
is_symbol token.Symbol = true
is_symbol _ = false

abbrev pub is_word : TokenKind → Bool
is_word token.Word = true
is_word _ = false

-- the symbol with this text
abbrev pub symbol : List ℕ → Lexeme → Bool
symbol text t = is_symbol t.kind && bytes_eq t.text text

-- the Word with this text
abbrev pub word : List ℕ → Lexeme → Bool
word text t = is_word t.kind && bytes_eq t.text text

-- only that such a token stands there
abbrev pub only : (Lexeme → Bool) → Lexeme → Option (Unit {0})
only is t = if is t then Some tt else None

abbrev pub any_word_by : TokenKind → List ℕ → ℕ → Option Name
any_word_by token.Word text place = Some (record { text = text; place = place })
any_word_by _ text place = None

-- a Word
unfoldable pub any_word : Lexeme → Option Name
any_word t = any_word_by t.kind t.text t.place

-- whether it is a Word
abbrev pub is_any_word : Lexeme → Bool
is_any_word t = is_word t.kind

-- the form of a Word, and at most 64 bytes
abbrev pub is_name : List ℕ → Bool
is_name text = form.is_word text && nat_le (length text) LONGEST_NAME

abbrev pub stage_name_by : TokenKind → List ℕ → ℕ → Option Name
stage_name_by token.Literal text place = if is_name (content_of text) then Some (record { text = content_of text; place = place }) else None
stage_name_by _ text place = None

-- a Name: a Literal whose content has the form of a Word and at most 64 bytes
unfoldable pub stage_name : Lexeme → Option Name
stage_name t = stage_name_by t.kind t.text t.place

abbrev pub number_by : TokenKind → List ℕ → Option ℕ
number_by token.Number text = Some (value_of text)
number_by _ text = None

-- a Number
unfoldable pub number : Lexeme → Option ℕ
number t = number_by t.kind t.text

-- the token has the form of its kind, as each token of a text has
abbrev pub has_form : Lexeme → Bool
has_form t = form.has_form t.kind t.text
