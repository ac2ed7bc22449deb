-- The words of a grammar. A rule says which tokens are written for which value.
use Rattle.std.specs.Prelude.{◌≡◌, ℕ, ◌⊎◌, List, [], ◌∷◌, ◌++◌, fold, Option, Some, None}
use Rattle.cep_reading.specs.Lexeme.{Lexeme}
use Rattle.cep_reading.specs.Terminal.{only, symbol, word}
use Rattle.cep_reading.specs.Reading.{place_of}

abbrev pub Rule : Type 0 → Type 1
Rule A = List Lexeme → A → Type 0

-- one rule, and then another, which may depend on the value of the first
pub record InTurn {A B : Type 0} (r : Rule A) (s : A → Rule B) (used : List Lexeme) (b : B) : Type 0 where
  pub front : List Lexeme
  pub back : List Lexeme
  pub value : A
  pub is : used ≡ front ++ back
  pub first : r front value
  pub second : s value back b

infixl 10 ◌>>=◌
abbrev pub ◌>>=◌ : {A B : Type 0} → Rule A → (A → Rule B) → Rule B
r >>= s = InTurn r s

infixl 10 ◌>>◌
abbrev pub ◌>>◌ : {A B : Type 0} → Rule A → Rule B → Rule B
r >> s = InTurn r (λ _. s)

-- no token
abbrev pub pure : {A : Type 0} → A → Rule A
pure a = λ used b. (used ≡ []) × (b ≡ a)

infixr 9 ◌or◌
abbrev pub ◌or◌ : {A : Type 0} → Rule A → Rule A → Rule A
r or s = λ used a. r used a ⊎ s used a

-- one token, for which there is a value
pub record IsOne {A : Type 0} (f : Lexeme → Option A) (used : List Lexeme) (a : A) : Type 0 where
  pub token : Lexeme
  pub is : used ≡ token ∷ []
  pub gives : f token ≡ Some a

abbrev pub one : {A : Type 0} → (Lexeme → Option A) → Rule A
one f = IsOne f

-- the Word with this text
abbrev pub keyword : List ℕ → Rule (Unit {0})
keyword text = one (only (word text))

-- the symbol with this text
abbrev pub sign : List ℕ → Rule (Unit {0})
sign text = one (only (symbol text))

-- either this word and what comes behind it, or the other
abbrev pub branch : {A : Type 0} → List ℕ → Rule A → Rule A → Rule A
branch text r s = (keyword text >> r) or s

-- the rule or nothing
abbrev pub maybe : {A : Type 0} → Rule A → Rule (Option A)
maybe r = (r >>= (λ a. pure (Some a))) or pure None

-- any number of the rule in turn
abbrev pub many : {A : Type 0} → Rule A → Rule (List A)
many r used [] = used ≡ []
many r used (a ∷ others) = (front : List Lexeme) × (back : List Lexeme) × (used ≡ front ++ back) × r front a × many r back others

-- any number of rules in turn, where what was built before says which comes next
abbrev pub many_by : {S A : Type 0} → (S → A → S) → (S → Rule A) → S → Rule (List A)
many_by next r s used [] = used ≡ []
many_by next r s used (a ∷ others) = (front : List Lexeme) × (back : List Lexeme) × (used ≡ front ++ back) × r s front a × many_by next r (next s a) back others

pub record Builds {S A : Type 0} (next : S → A → S) (r : S → Rule A) (s : S) (used : List Lexeme) (built : S) : Type 0 where
  pub items : List A
  pub holds : many_by next r s used items
  pub is : built ≡ fold next s items

-- with the place of its first token
abbrev pub placed : {A : Type 0} → Rule A → Rule (ℕ × A)
placed r = λ used found. r used found.1 × (found.0 ≡ place_of used)
