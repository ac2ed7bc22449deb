-- The steps of a reader, which decides by the next token alone.
use Rattle.std.specs.Prelude.{◌≡◌, ◌≢◌, ℕ, zero, suc, Bool, false, if◌then◌else◌, List, [], ◌∷◌, Option, Some, None, Result, Ok, Err}
use Rattle.cep_reading.specs.declared.stop.Stop.{Stop}
use Rattle.cep_reading.specs.declared.stop.Stop.TheVariants.{NoMemory, Expected, Spent}
use Rattle.cep_reading.specs.Lexeme.{Lexeme}
use Rattle.cep_reading.specs.Terminal.{only, symbol, word}

abbrev pub Left : Type 0
Left = List Lexeme

-- what was read and the tokens behind it, or why nothing was and the tokens from the place on
abbrev pub Outcome : Type 0 → Type 0
Outcome A = Result (A × Left) (Stop × Left)

abbrev pub Reader : Type 0 → Type 0
Reader A = Left → Outcome A

abbrev pub and_then : {A B : Type 0} → Outcome A → (A → Reader B) → Outcome B
and_then (Ok found) f = f found.0 found.1
and_then (Err stop) f = Err stop

infixl 10 ◌>>=◌
abbrev pub ◌>>=◌ : {A B : Type 0} → Reader A → (A → Reader B) → Reader B
p >>= f = λ ts. and_then (p ts) f

infixl 10 ◌>>◌
abbrev pub ◌>>◌ : {A B : Type 0} → Reader A → Reader B → Reader B
p >> q = p >>= (λ _. q)

abbrev pub pure : {A : Type 0} → A → Reader A
pure a = λ ts. Ok (a, ts)

abbrev pub stop : {A : Type 0} → Stop → Reader A
stop why = λ ts. Err (why, ts)

-- ---- one token

abbrev pub taken : {A : Type 0} → Lexeme → Left → Option A → Outcome A
taken t ts (Some a) = Ok (a, ts)
taken t ts None = Err (Expected, t ∷ ts)

-- the tokens behind the next, if that is such a one
abbrev pub after : (Lexeme → Bool) → Left → Left
after p [] = []
after p (t ∷ ts) = if p t then ts else t ∷ ts

unfoldable pub one : {A : Type 0} → (Lexeme → Option A) → Reader A
one f [] = Err (Expected, [])
one f (t ∷ ts) = taken t ts (f t)

-- the Word with this text
abbrev pub keyword : List ℕ → Reader (Unit {0})
keyword text = one (only (word text))

-- the symbol with this text
abbrev pub sign : List ℕ → Reader (Unit {0})
sign text = one (only (symbol text))

-- whether the next token is such a one
abbrev pub next_is : (Lexeme → Bool) → Left → Bool
next_is p [] = false
next_is p (t ∷ ts) = p t

abbrev pub choose : {A : Type 0} → (Lexeme → Bool) → Reader A → Reader A → Reader A
choose first p q = λ ts. if next_is first ts then p ts else q ts

-- as many as begin with such a token, but no more than the number
unfoldable pub many : {A : Type 0} → ℕ → (Lexeme → Bool) → Reader A → Reader (List A)
many zero first p = stop Spent
many (suc n) first p = choose first (p >>= (λ a. many n first p >>= (λ more. pure (a ∷ more)))) (pure [])

-- where such a token is next, the reading stops for this reason
abbrev pub unless : {A : Type 0} → (Lexeme → Bool) → Stop → Reader A → Reader A
unless first why p = choose first (stop why) p

-- either this word and what comes behind it, or the other
abbrev pub branch : {A : Type 0} → List ℕ → Reader A → Reader A → Reader A
branch text p q = choose (word text) (keyword text >> p) q

-- As many links as there are, each behind a token `lead` and added to what was built before, which says what may come next. Where a token that
-- `ends` them is next, what it begins is the last.
unfoldable pub links : {S A E : Type 0} → ℕ → List ℕ → (Lexeme → Bool) → (S → A → S) → (S → Reader A) → Reader E → S → Reader (S × Option E)
links zero lead ends next p e s = stop Spent
links (suc n) lead ends next p e s =
    choose (symbol lead)
    (sign lead >> choose ends (e >>= (λ x. pure (s, Some x))) (p s >>= (λ a. links n lead ends next p e (next s a))))
    (pure (s, None))

abbrev pub place_of : Left → ℕ
place_of [] = 0
place_of (t ∷ ts) = t.place

abbrev pub located : {A : Type 0} → ℕ → A → Reader (ℕ × A)
located place a = λ ts. Ok ((place, a), ts)

-- with the place of its first token
abbrev pub placed : {A : Type 0} → Reader A → Reader (ℕ × A)
placed p = λ ts. and_then (p ts) (located (place_of ts))

-- ---- what a function that reads ensures: the reader's outcome, unless memory fails

abbrev pub Reads : {A : Type 0} → Outcome A → Result A Stop → Left → Type 0
Reads outcome (Ok a) new = outcome ≡ Ok (a, new)
Reads outcome (Err why) new = why ≢ NoMemory → outcome ≡ Err (why, new)
