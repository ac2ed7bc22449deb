-- A token with its text.
use Rattle.std.specs.Prelude.{ℕ, List, slice_range}
use Rattle.cep_token.specs.declared.token.Token.{Token}
use Rattle.cep_token.specs.declared.token.TokenKind.{TokenKind}

pub record Lexeme : Type 0 where
  pub kind : TokenKind
  pub text : List ℕ
  pub place : ℕ

abbrev pub lexeme_of : List ℕ → Token → Lexeme
lexeme_of source token = record { kind = token.kind; text = slice_range source token.start token.end; place = token.start }
