-- What a text is read as: the faults of its tokens come first, then parentheses that open too deep, then the grammar.
use Rattle.std.specs.Prelude.{◌≡◌, ◌≢◌, ℕ, List, map, length, Option, Some, None, Result, Ok, Err}
use Rattle.cep_token.specs.declared.token.TokenFault.TheVariants as token
use Rattle.cep_token.specs.Tokens.{Tokens, tokens_of}
use Rattle.cep_reading.specs.Lexeme.{Lexeme, lexeme_of}
use Rattle.cep_syntax.specs.declared.fault.SyntaxFault.{SyntaxFault}
use Rattle.cep_syntax.specs.declared.fault.SyntaxFault.TheVariants.{NoMemory, Bad}
use Rattle.cep_syntax.specs.declared.fault.TheConstants.{TOO_DEEP}
use Rattle.cep_syntax.specs.declared.file.File.{File}
use Rattle.cep_syntax.specs.Depth.{too_deep_from}
use Rattle.cep_syntax.specs.Reads.{AreRead}

-- refused so, unless memory fails
abbrev pub IsRefused : ℕ → ℕ → Result File SyntaxFault → Type 0
IsRefused place code result = result ≢ Err NoMemory → result ≡ Err (Bad place code)

abbrev pub AreReadWithin : Option ℕ → List Lexeme → ℕ → Result File SyntaxFault → Type 0
AreReadWithin (Some place) lexemes end result = IsRefused place TOO_DEEP result
AreReadWithin None lexemes end result = AreRead lexemes end result

abbrev pub IsReadBy : Tokens → List ℕ → Result File SyntaxFault → Type 0
IsReadBy (Ok tokens) text result = let lexemes = map (lexeme_of text) tokens in AreReadWithin (too_deep_from 0 lexemes) lexemes (length text) result
IsReadBy (Err (token.Bad place code)) text result = IsRefused place code result
IsReadBy (Err token.NoMemory) text result = Unit {0}

-- what a text in UTF-8 of a length that is allowed is read as
abbrev pub IsRead : List ℕ → Result File SyntaxFault → Type 0
IsRead text result = IsReadBy (tokens_of text) text result
