-- What a file that was printed and read again is. This is this project's own law of the printed form.
use Rattle.std.specs.Prelude.{◌≡◌, List, map, None, Result, Ok, Err}
use Rattle.cep_token.specs.declared.token.Token.{Token}
use Rattle.cep_token.specs.Tokens.{tokens_of}
use Rattle.cep_reading.specs.Lexeme.{lexeme_of}
use Rattle.cep_syntax.specs.declared.fault.SyntaxFault.{SyntaxFault}
use Rattle.cep_syntax.specs.declared.fault.SyntaxFault.TheVariants.{NoMemory, Bad}
use Rattle.cep_syntax.specs.declared.file.File.{File}
use Rattle.cep_syntax.specs.Depth.{too_deep_from}
use Rattle.cep_syntax.specs.Grammar.{IsFile}
use Rattle.cep_print.specs.Literal.{Text}
use Rattle.cep_print.specs.SameFile.{IsSameFile}

-- The text has tokens, and they are a file of the grammar that is the same as this one.
pub record Denotes (z : Text) (f : File) : Type 0 where
  pub tokens : List Token
  pub are : tokens_of z ≡ Ok tokens
  pub file : File
  pub is : IsFile (map (lexeme_of z) tokens) file
  pub same : IsSameFile file f

-- in the text at most as many parentheses are open as a reader allows
abbrev pub IsShallow : Text → Type 0
IsShallow z = (tokens : List Token) → tokens_of z ≡ Ok tokens → too_deep_from 0 (map (lexeme_of z) tokens) ≡ None

-- the same file, unless memory fails: no refusal
abbrev pub GivesBack : File → Result File SyntaxFault → Type 0
GivesBack f (Ok file) = IsSameFile file f
GivesBack f (Err NoMemory) = Unit {0}
GivesBack f (Err (Bad place code)) = ⊥
