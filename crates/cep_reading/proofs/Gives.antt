-- What holds of the values of a rule, where the tokens have the form of their kinds; and how many tokens they take.
use Rattle.std.proofs.Common.{◌≡◌, ℕ, suc, ◌+◌, ◌≤◌, Bool, true, false, ◌&&◌, inl, inr, List, [], ◌∷◌, length, refl, sym, ◌∙◌, ap, arith, length-append}
use Rattle.std.specs.Prelude.{Option, Some, None, All, map}
use Rattle.std.specs.List.{list_all}
use Rattle.std.proofs.lemmas.List.Folds.{list_all-append}
use Rattle.cep_token.specs.declared.token.Token.{Token}
use Rattle.cep_token.specs.Within.{IsWithin, AreInOrder}
use Rattle.cep_reading.specs.Lexeme.{Lexeme, lexeme_of}
use Rattle.cep_reading.specs.Terminal.{has_form}
use Rattle.cep_reading.specs.Reading.{Left}
use Rattle.cep_reading.specs.Rule.{Rule, InTurn}
use Rattle.cep_reading.specs.Rule as rule
use Rattle.cep_reading.proofs.Starts.{and_true}

pub both_true : (a b : Bool) → a ≡ true → b ≡ true → a && b ≡ true
both_true true b e f = f
both_true false b e f = e

pub record Gives {A : Type 0} (r : Rule A) (P : A → Bool) : Type 0 where
  pub gives : (used : Left) (a : A) → list_all has_form used ≡ true → r used a → P a ≡ true

pub Gives-pure : {A : Type 0} (a : A) (P : A → Bool) → P a ≡ true → Gives (rule.pure a) P
Gives-pure a P e = record { gives = λ used b formed h. ap P h.1 ∙ e }

pub Gives-one : {A : Type 0} (f : Lexeme → Option A) (P : A → Bool) → ((t : Lexeme) (a : A) → has_form t ≡ true → f t ≡ Some a → P a ≡ true)
    → Gives (rule.one f) P
Gives-one f P so = record { gives = λ used a formed h. so h.token a (and_true (has_form h.token) true (sym (ap (list_all has_form) h.is) ∙ formed)).0 h.gives }

pub Gives-then : {A B : Type 0} (r : Rule A) (s : A → Rule B) (Q : A → Bool) (P : B → Bool) → Gives r Q → ((a : A) → Q a ≡ true → Gives (s a) P)
    → Gives (rule.◌>>=◌ r s) P
Gives-then r s Q P first second = record {
  gives = λ used b formed h.
      let parts = and_true (list_all has_form h.front) (list_all has_form h.back) (sym (list_all-append has_form h.front h.back) ∙ sym (ap (list_all has_form) h.is) ∙ formed) in
      (second h.value (first.gives h.front h.value parts.0 h.first)).gives h.back b parts.1 h.second;
}

-- a first part of which nothing need be known
pub Gives-last : {A B : Type 0} (r : Rule A) (s : A → Rule B) (P : B → Bool) → ((a : A) → Gives (s a) P) → Gives (rule.◌>>=◌ r s) P
Gives-last r s P second = Gives-then r s (λ _. true) P (record { gives = λ used a formed h. refl }) (λ a e. second a)

pub Gives-or : {A : Type 0} (r s : Rule A) (P : A → Bool) → Gives r P → Gives s P → Gives (rule.◌or◌ r s) P
Gives-or {A} r s P one other = record { gives = cases } where
  cases : (used : Left) (a : A) → list_all has_form used ≡ true → rule.◌or◌ r s used a → P a ≡ true
  cases used a formed (inl h) = one.gives used a formed h
  cases used a formed (inr h) = other.gives used a formed h

pub Gives-many : {A : Type 0} (r : Rule A) (P : A → Bool) → Gives r P → Gives (rule.many r) (list_all P)
Gives-many {A} r P item = record { gives = all } where
  all : (used : Left) (xs : List A) → list_all has_form used ≡ true → rule.many r used xs → list_all P xs ≡ true
  all used [] formed h = refl
  all used (a ∷ xs) formed h =
      let parts = and_true (list_all has_form h.0) (list_all has_form h.1) (sym (list_all-append has_form h.0 h.1) ∙ sym (ap (list_all has_form) h.2) ∙ formed) in
      both_true (P a) (list_all P xs) (item.gives h.0 a parts.0 h.3) (all h.1 xs parts.1 h.4)

pub Gives-placed : {A : Type 0} (r : Rule A) (P : A → Bool) → Gives r P → Gives (rule.placed r) (λ found. P found.1)
Gives-placed r P gives = record { gives = λ used a formed h. gives.gives used a.1 formed h.0 }

abbrev pub of_some : {A : Type 0} → (A → Bool) → Option A → Bool
of_some P None = true
of_some P (Some a) = P a

pub Gives-maybe : {A : Type 0} (r : Rule A) (P : A → Bool) → Gives r P → Gives (rule.maybe r) (of_some P)
Gives-maybe r P gives =
    Gives-or _ _ (of_some P) (Gives-then r _ P (of_some P) gives (λ a e. Gives-pure (Some a) (of_some P) e)) (Gives-pure None (of_some P) refl)

-- ---- how many tokens

pub record Takes {A : Type 0} (r : Rule A) (c : A → ℕ) : Type 0 where
  pub least : (used : Left) (a : A) → r used a → c a ≤ length used

pub Takes-one : {A : Type 0} (f : Lexeme → Option A) → Takes (rule.one f) (λ _. 1)
Takes-one f = record { least = λ used a h. omega (arith, ap length h.is) }

pub Takes-then : {A B : Type 0} (r : Rule A) (s : A → Rule B) (c : A → ℕ) (d : A → B → ℕ) (e : B → ℕ) → Takes r c → ((a : A) → Takes (s a) (d a))
    → ((a : A) (b : B) (used : Left) → s a used b → e b ≤ c a + d a b) → Takes (rule.◌>>=◌ r s) e
Takes-then r s c d e first second so = record {
  least = λ used b h.
      let one = first.least h.front h.value h.first in
      let two = (second h.value).least h.back b h.second in
      let sum = so h.value b h.back h.second in
      omega (arith, one, two, sum, ap length h.is, length-append h.front h.back);
}

-- ---- the tokens of a text

pub all_formed : (text : List ℕ) (tokens : List Token) → All (IsWithin text) tokens → list_all has_form (map (lexeme_of text) tokens) ≡ true
all_formed text [] h = refl
all_formed text (token ∷ tokens) h =
    both_true (has_form (lexeme_of text token)) (list_all has_form (map (lexeme_of text) tokens)) (h 0 token (omega arith)).formed
    (all_formed text tokens (λ k d lt. h (suc k) d (omega arith)))

pub few_tokens : (text : List ℕ) (place : ℕ) (tokens : List Token) → AreInOrder place tokens → All (IsWithin text) tokens → place ≤ length text
    → place + length tokens ≤ length text
few_tokens text place [] order within h = omega arith
few_tokens text place (token ∷ tokens) order within h =
    let here = within 0 token (omega arith) in
    let some = here.some in
    let fits = here.fits in
    let first = order.0 in
    let later = few_tokens text token.end tokens order.1 (λ k d lt. within (suc k) d (omega arith)) fits in
    omega arith
