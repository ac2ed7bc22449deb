-- Signs are apart from one another.
use Rattle.std.proofs.Common.{◌≡◌, ℕ, Bool, true, false, not, ◌&&◌, ◌||◌, List, [], ◌∷◌, refl, ◌∙◌}
use Rattle.std.specs.Str.{bytes_eq}
use Rattle.cep_reading.specs.Lexeme.{Lexeme}
use Rattle.cep_reading.specs.Terminal.{symbol, is_symbol}
use Rattle.cep_reading.specs.Reading.{Left, next_is}
use Rattle.cep_reading.proofs.Starts.{and_true, same_symbol}
use Rattle.cep_expression.specs.Terminal.{some_symbol}

abbrev pub among : List ℕ → List (List ℕ) → Bool
among text [] = false
among text (other ∷ others) = bytes_eq text other || among text others

-- a symbol with this text is one of those exactly where its text is among theirs
pub same_symbols : (text : List ℕ) (others : List (List ℕ)) (t : Lexeme) → symbol text t ≡ true → some_symbol others t ≡ among text others
same_symbols text [] t e = refl
same_symbols text (other ∷ others) t e = let later = same_symbols text others t e in let here = same_symbol text other t e in λ i. here i || later i

abbrev pub disjoint : List (List ℕ) → List (List ℕ) → Bool
disjoint [] others = true
disjoint (text ∷ texts) others = not (among text others) && disjoint texts others

not_true : (b : Bool) → not b ≡ true → b ≡ false
not_true true e = cc
not_true false e = refl

pub apart : (texts others : List (List ℕ)) (t : Lexeme) → disjoint texts others ≡ true → some_symbol texts t ≡ true → some_symbol others t ≡ false
apart [] others t d e = cc
apart (text ∷ texts) others t d e = cases (symbol text t) refl e (apart texts others t (and_true _ _ d).1) where
  cases : (b : Bool) → symbol text t ≡ b → b || some_symbol texts t ≡ true → (some_symbol texts t ≡ true → some_symbol others t ≡ false)
      → some_symbol others t ≡ false
  cases true k f later = same_symbols text others t k ∙ not_true _ (and_true _ _ d).0
  cases false k f later = later f

pub no_symbols : (texts : List (List ℕ)) (t : Lexeme) → is_symbol t.kind ≡ false → some_symbol texts t ≡ false
no_symbols [] t e = refl
no_symbols (text ∷ texts) t e = let later = no_symbols texts t e in λ i. (e i && bytes_eq t.text text) || later i

-- what the code sees
pub next_is-none : (l : Left) → next_is (some_symbol []) l ≡ false
next_is-none [] = refl
next_is-none (t ∷ l) = refl

pub next_is-some : (text : List ℕ) (texts : List (List ℕ)) (l : Left)
    → next_is (some_symbol (text ∷ texts)) l ≡ (next_is (symbol text) l || next_is (some_symbol texts) l)
next_is-some text texts [] = refl
next_is-some text texts (t ∷ l) = refl
