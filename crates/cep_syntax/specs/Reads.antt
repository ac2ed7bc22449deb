-- What a reading of tokens says of them: they are a file, or it is told where they stop to be one.
use Rattle.std.specs.Prelude.{◌≡◌, ℕ, true, ◌⊎◌, List, [], ◌∷◌, ◌++◌, codes, Result, Ok, Err}
use Rattle.cep_reading.specs.Lexeme.{Lexeme}
use Rattle.cep_reading.specs.Terminal.{word}
use Rattle.cep_syntax.specs.declared.fault.SyntaxFault.{SyntaxFault}
use Rattle.cep_syntax.specs.declared.fault.SyntaxFault.TheVariants.{NoMemory, Bad}
use Rattle.cep_syntax.specs.declared.fault.TheConstants.{EXPECTED, GREEDY}
use Rattle.cep_syntax.specs.declared.file.File.{File}
use Rattle.cep_syntax.specs.Grammar.{IsFile, BeginsFile, MayModify}

-- the tokens are this file and no other
pub record AreFile (tokens : List Lexeme) (f : File) : Type 0 where
  pub is : IsFile tokens f
  pub only : (g : File) → IsFile tokens g → g ≡ f

-- the tokens before t begin a file, and those up to and with t begin none
pub record StopsAt (tokens before : List Lexeme) (t : Lexeme) : Type 0 where
  pub behind : List Lexeme
  pub is : tokens ≡ before ++ t ∷ behind
  pub begins : BeginsFile before
  pub no_more : BeginsFile (before ++ t ∷ []) → ⊥

-- the tokens begin a file and are none
pub record EndsEarly (tokens : List Lexeme) : Type 0 where
  pub begins : BeginsFile tokens
  pub none : (f : File) → IsFile tokens f → ⊥

-- t is the Word `greedy`, and a modifier may stand behind the tokens before
abbrev pub IsGreedy : List Lexeme → Lexeme → Type 0
IsGreedy before t = (word (codes "greedy") t ≡ true) × MayModify before

-- the place of a token that was not expected and is no `greedy` in a modifier's place, or the end of the text
abbrev pub IsUnexpected : List Lexeme → ℕ → ℕ → Type 0
IsUnexpected tokens end place =
    ((before : List Lexeme) × (t : Lexeme) × StopsAt tokens before t × (IsGreedy before t → ⊥) × (place ≡ t.place))
    ⊎ (EndsEarly tokens × (place ≡ end))

-- the place of a `greedy` in a modifier's place
abbrev pub IsGreedyAt : List Lexeme → ℕ → Type 0
IsGreedyAt tokens place = (before : List Lexeme) × (t : Lexeme) × StopsAt tokens before t × IsGreedy before t × (place ≡ t.place)

-- what the tokens of a text that ends at `end` are read as, unless memory fails
abbrev pub AreRead : List Lexeme → ℕ → Result File SyntaxFault → Type 0
AreRead tokens end (Ok f) = AreFile tokens f
AreRead tokens end (Err NoMemory) = Unit {0}
AreRead tokens end (Err (Bad place code)) =
    ((code ≡ EXPECTED) × IsUnexpected tokens end place) ⊎ ((code ≡ GREEDY) × IsGreedyAt tokens place)
