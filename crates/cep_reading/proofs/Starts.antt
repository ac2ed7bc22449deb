-- With which tokens the words of a rule begin, and which they do not begin with.
use Rattle.std.proofs.Common.{◌≡◌, ℕ, Bool, true, false, ◌&&◌, ◌||◌, cond, ◌⊎◌, inl, inr, List, [], ◌∷◌, ◌++◌, refl, ◌∙◌, ap, subst, append_assoc}
use Rattle.std.specs.Prelude.{Option, Some, None}
use Rattle.std.specs.Str.{bytes_eq}
use Rattle.std.proofs.lemmas.Slice.Eq.{bytes_eq-Decides}
use Rattle.cep_token.specs.declared.token.TokenKind.{TokenKind}
use Rattle.cep_token.specs.declared.token.TokenKind.TheVariants as token
use Rattle.cep_reading.specs.declared.name.Name.{Name}
use Rattle.cep_reading.specs.Lexeme.{Lexeme}
use Rattle.cep_reading.specs.Terminal.{only, symbol, word, is_symbol, is_word, any_word, any_word_by, is_any_word}
use Rattle.cep_reading.specs.Reading.{Left, next_is}
use Rattle.cep_reading.specs.Rule.{Rule, IsOne}
use Rattle.cep_reading.specs.Rule as rule
use Rattle.cep_reading.proofs.Laws.{TakesSome, Stops, StartsWith}

-- ---- tests

pub and_true : (a b : Bool) → a && b ≡ true → (a ≡ true) × (b ≡ true)
and_true true b e = (refl, e)
and_true false b e = cc

pub or_false : (a b : Bool) → a || b ≡ false → (a ≡ false) × (b ≡ false)
or_false true b e = cc
or_false false b e = (refl, e)

pub either : (a b : Bool) → (a ≡ true) ⊎ (b ≡ true) → a || b ≡ true
either true b h = refl
either false b (inl h) = cc
either false b (inr h) = h

pub neither : (a b : Bool) → a ≡ false → b ≡ false → a || b ≡ false
neither a b e f = λ i. e i || f i

pub some_if : (b : Bool) (u : Unit {0}) → cond b (Some tt) None ≡ Some u → b ≡ true
some_if true u e = refl
some_if false u e = cc

-- ---- tokens

pub text_is : (x y : List ℕ) → bytes_eq x y ≡ true → x ≡ y
text_is x y e = (bytes_eq-Decides x y).0 e

-- a symbol with one text has no other
pub same_symbol : (text other : List ℕ) (t : Lexeme) → symbol text t ≡ true → symbol other t ≡ bytes_eq text other
same_symbol text other t e =
    let k = and_true (is_symbol t.kind) (bytes_eq t.text text) e in
    let is = text_is t.text text k.1 in
    λ i. k.0 i && bytes_eq (is i) other

-- a word with one text has no other
pub same_word : (text other : List ℕ) (t : Lexeme) → word text t ≡ true → word other t ≡ bytes_eq text other
same_word text other t e =
    let k = and_true (is_word t.kind) (bytes_eq t.text text) e in
    let is = text_is t.text text k.1 in
    λ i. k.0 i && bytes_eq (is i) other

pub symbol_is_no_word : (k : TokenKind) → is_symbol k ≡ true → is_word k ≡ false
symbol_is_no_word token.Symbol e = refl
symbol_is_no_word token.Word e = cc
symbol_is_no_word token.Number e = cc
symbol_is_no_word token.Literal e = cc

pub word_is_no_symbol : (k : TokenKind) → is_word k ≡ true → is_symbol k ≡ false
word_is_no_symbol token.Word e = refl
word_is_no_symbol token.Symbol e = cc
word_is_no_symbol token.Number e = cc
word_is_no_symbol token.Literal e = cc

pub symbol_is_not_word : (text other : List ℕ) (t : Lexeme) → symbol text t ≡ true → word other t ≡ false
symbol_is_not_word text other t e =
    let k = symbol_is_no_word t.kind (and_true (is_symbol t.kind) (bytes_eq t.text text) e).0 in
    λ i. k i && bytes_eq t.text other

pub word_is_not_symbol : (text other : List ℕ) (t : Lexeme) → word text t ≡ true → symbol other t ≡ false
word_is_not_symbol text other t e =
    let k = word_is_no_symbol t.kind (and_true (is_word t.kind) (bytes_eq t.text text) e).0 in
    λ i. k i && bytes_eq t.text other

pub any_word_is_not_symbol : (other : List ℕ) (t : Lexeme) → is_any_word t ≡ true → symbol other t ≡ false
any_word_is_not_symbol other t e = let k = word_is_no_symbol t.kind e in λ i. k i && bytes_eq t.text other

pub symbol_is_not_any_word : (text : List ℕ) (t : Lexeme) → symbol text t ≡ true → is_any_word t ≡ false
symbol_is_not_any_word text t e = symbol_is_no_word t.kind (and_true (is_symbol t.kind) (bytes_eq t.text text) e).0

pub word_is_any_word : (text : List ℕ) (t : Lexeme) → word text t ≡ true → is_any_word t ≡ true
word_is_any_word text t e = (and_true (is_word t.kind) (bytes_eq t.text text) e).0

-- ---- one of some words

abbrev pub one_of : List (List ℕ) → Lexeme → Bool
one_of [] t = false
one_of (text ∷ texts) t = word text t || one_of texts t

abbrev pub has_text : List (List ℕ) → List ℕ → Bool
has_text [] other = false
has_text (text ∷ texts) other = bytes_eq text other || has_text texts other

-- one of these words has no other text
pub same_one_of : (texts : List (List ℕ)) (other : List ℕ) (t : Lexeme) → has_text texts other ≡ false → one_of texts t ≡ true → word other t ≡ false
same_one_of [] other t h e = cc
same_one_of (text ∷ texts) other t h e =
    cases (word text t) refl e (λ k. same_one_of texts other t (or_false (bytes_eq text other) (has_text texts other) h).1 k) where
      cases : (b : Bool) → word text t ≡ b → b || one_of texts t ≡ true → (one_of texts t ≡ true → word other t ≡ false) → word other t ≡ false
      cases true k f later = same_word text other t k ∙ (or_false (bytes_eq text other) (has_text texts other) h).0
      cases false k f later = later f

-- ---- what a rule begins with

pub record Avoids {A : Type 0} (r : Rule A) (P : Lexeme → Bool) : Type 0 where
  pub stops : (used rest : Left) (a : A) → r used a → Stops P (used ++ rest)

pub avoids_by : {A : Type 0} (r : Rule A) (P Q : Lexeme → Bool) → StartsWith r P → ((t : Lexeme) → P t ≡ true → Q t ≡ false) → Avoids r Q
avoids_by {A} r P Q starts apart = record { stops = λ used rest a h. at (used ++ rest) (starts.begins used rest a h) } where
  at : (l : Left) → next_is P l ≡ true → Stops Q l
  at [] e = refl
  at (t ∷ l) e = apart t e

pub starts-one : {A : Type 0} (f : Lexeme → Option A) (P : Lexeme → Bool) → ((t : Lexeme) (a : A) → f t ≡ Some a → P t ≡ true) → StartsWith (rule.one f) P
starts-one f P so = record { begins = λ used rest a h. ap (λ l. next_is P (l ++ rest)) h.is ∙ so h.token a h.gives }

pub avoids-one : {A : Type 0} (f : Lexeme → Option A) (P : Lexeme → Bool) → ((t : Lexeme) (a : A) → f t ≡ Some a → P t ≡ false) → Avoids (rule.one f) P
avoids-one f P so = record { stops = λ used rest a h. ap (λ l. next_is P (l ++ rest)) h.is ∙ so h.token a h.gives }

pub starts-symbol : (text : List ℕ) → StartsWith (rule.sign text) (symbol text)
starts-symbol text = starts-one (only (symbol text)) (symbol text) (λ t u e. some_if (symbol text t) u e)

pub starts-word : (text : List ℕ) → StartsWith (rule.keyword text) (word text)
starts-word text = starts-one (only (word text)) (word text) (λ t u e. some_if (word text t) u e)

pub word_is : (k : TokenKind) (text : List ℕ) (place : ℕ) (a : Name) → any_word_by k text place ≡ Some a → is_word k ≡ true
word_is token.Word text place a e = refl
word_is token.Number text place a e = cc
word_is token.Literal text place a e = cc
word_is token.Symbol text place a e = cc

pub starts-any_word : StartsWith (rule.one any_word) is_any_word
unfolding any_word
starts-any_word = starts-one any_word is_any_word (λ t a e. word_is t.kind t.text t.place a e)

pub starts-then : {A B : Type 0} (r : Rule A) (s : A → Rule B) (first : Lexeme → Bool) → StartsWith r first → StartsWith (rule.◌>>=◌ r s) first
starts-then r s first starts = record {
  begins = λ used rest b h.
      let e : used ++ rest ≡ h.front ++ (h.back ++ rest) = ap (λ l. l ++ rest) h.is ∙ append_assoc h.front h.back rest in
      ap (next_is first) e ∙ starts.begins h.front (h.back ++ rest) h.value h.first;
}

pub avoids-then : {A B : Type 0} (r : Rule A) (s : A → Rule B) (P : Lexeme → Bool) → Avoids r P → Avoids (rule.◌>>=◌ r s) P
avoids-then r s P avoids = record {
  stops = λ used rest b h.
      let e : used ++ rest ≡ h.front ++ (h.back ++ rest) = ap (λ l. l ++ rest) h.is ∙ append_assoc h.front h.back rest in
      ap (next_is P) e ∙ avoids.stops h.front (h.back ++ rest) h.value h.first;
}

pub starts-wider : {A : Type 0} (r : Rule A) (P Q : Lexeme → Bool) → StartsWith r P → ((t : Lexeme) → P t ≡ true → Q t ≡ true) → StartsWith r Q
starts-wider r P Q starts so = record { begins = λ used rest a h. at (used ++ rest) (starts.begins used rest a h) } where
  at : (l : Left) → next_is P l ≡ true → next_is Q l ≡ true
  at [] e = e
  at (t ∷ l) e = so t e

pub starts-or : {A : Type 0} (r s : Rule A) (P : Lexeme → Bool) → StartsWith r P → StartsWith s P → StartsWith (rule.◌or◌ r s) P
starts-or {A} r s P one other = record { begins = cases } where
  cases : (used rest : Left) (a : A) → rule.◌or◌ r s used a → next_is P (used ++ rest) ≡ true
  cases used rest a (inl h) = one.begins used rest a h
  cases used rest a (inr h) = other.begins used rest a h

pub avoids-or : {A : Type 0} (r s : Rule A) (P : Lexeme → Bool) → Avoids r P → Avoids s P → Avoids (rule.◌or◌ r s) P
avoids-or {A} r s P one other = record { stops = cases } where
  cases : (used rest : Left) (a : A) → rule.◌or◌ r s used a → Stops P (used ++ rest)
  cases used rest a (inl h) = one.stops used rest a h
  cases used rest a (inr h) = other.stops used rest a h

pub starts-placed : {A : Type 0} (r : Rule A) (P : Lexeme → Bool) → StartsWith r P → StartsWith (rule.placed r) P
starts-placed r P starts = record { begins = λ used rest a h. starts.begins used rest a.1 h.0 }

pub avoids-placed : {A : Type 0} (r : Rule A) (P : Lexeme → Bool) → Avoids r P → Avoids (rule.placed r) P
avoids-placed r P avoids = record { stops = λ used rest a h. avoids.stops used rest a.1 h.0 }

-- the alternatives of a branch begin with its word or with those of the others
pub starts-branch : {A : Type 0} (text : List ℕ) (texts : List (List ℕ)) (r s : Rule A) → StartsWith s (one_of texts)
    → StartsWith (rule.branch text r s) (one_of (text ∷ texts))
starts-branch text texts r s starts =
    starts-or _ _ (one_of (text ∷ texts))
    (starts-wider _ (word text) (one_of (text ∷ texts)) (starts-then _ _ (word text) (starts-word text)) (λ t e. either (word text t) (one_of texts t) (inl e)))
    (starts-wider _ (one_of texts) (one_of (text ∷ texts)) starts (λ t e. either (word text t) (one_of texts t) (inr e)))

-- one alternative, the last of some branches
pub starts-last : {A : Type 0} (text : List ℕ) (r : Rule A) → StartsWith (rule.◌>>◌ (rule.keyword text) r) (one_of (text ∷ []))
starts-last text r =
    starts-wider _ (word text) (one_of (text ∷ [])) (starts-then _ _ (word text) (starts-word text)) (λ t e. either (word text t) false (inl e))

-- ---- each rule takes some token

pub takes-one : {A : Type 0} (f : Lexeme → Option A) → TakesSome (rule.one f)
takes-one f = record { never = λ a h. let e = h.is in cc }

front_none : (xs ys : Left) → [] ≡ xs ++ ys → xs ≡ []
front_none [] ys e = refl
front_none (x ∷ xs) ys e = cc

pub takes-then : {A B : Type 0} (r : Rule A) (s : A → Rule B) → TakesSome r → TakesSome (rule.◌>>=◌ r s)
takes-then r s some = record { never = λ b h. some.never h.value (subst (λ l. r l h.value) (front_none h.front h.back h.is) h.first) }

pub takes-or : {A : Type 0} (r s : Rule A) → TakesSome r → TakesSome s → TakesSome (rule.◌or◌ r s)
takes-or {A} r s one other = record { never = cases } where
  cases : (a : A) → rule.◌or◌ r s [] a → ⊥
  cases a (inl h) = one.never a h
  cases a (inr h) = other.never a h

pub takes-placed : {A : Type 0} (r : Rule A) → TakesSome r → TakesSome (rule.placed r)
takes-placed r some = record { never = λ a h. some.never a.1 h.0 }

-- a rule of which each word begins with such a token takes some
pub takes-starts : {A : Type 0} (r : Rule A) (P : Lexeme → Bool) → StartsWith r P → TakesSome r
takes-starts r P starts = record { never = λ a h. let e = starts.begins [] [] a h in cc }
