-- All laws of a reader at once, for each word of the grammar.
use Rattle.std.proofs.Common.{◌≡◌, ℕ, suc, ◌≤◌, Bool, true, false, List, [], ◌∷◌, ◌++◌, refl, sym, subst}
use Rattle.std.specs.Prelude.{Option, Some, None}
use Rattle.cep_token.specs.declared.token.TokenKind.TheVariants as token
use Rattle.cep_reading.specs.Lexeme.{Lexeme}
use Rattle.cep_reading.specs.Terminal.{only, symbol, word}
use Rattle.cep_reading.specs.Reading.{Left, Reader, next_is}
use Rattle.cep_reading.specs.Reading as read
use Rattle.cep_reading.specs.Rule.{Rule}
use Rattle.cep_reading.specs.Rule as rule
use Rattle.cep_reading.proofs.Laws.{Sound, Sound-pure, Sound-one, Sound-then, Sound-choose, Sound-many, Sound-placed, Sound-wider, TakesSome, Stops, Complete, Complete-pure, Complete-one, Complete-then, Complete-choose, Complete-many, Complete-placed, Complete-narrower, StartsWith, Agrees, Agrees-pure, Agrees-one, Agrees-then, Agrees-choose, Agrees-many, Agrees-placed, Lasts, Lasts-pure, Lasts-one, Lasts-then, Lasts-after, Lasts-choose, Lasts-many, Lasts-placed, Lasts-fewer}
use Rattle.cep_reading.proofs.Starts.{Avoids, starts-then, starts-word}
use Rattle.cep_reading.proofs.Quiet.{Quiet, Quiet-pure, Quiet-one, Quiet-then, Quiet-choose, Quiet-many, Quiet-placed}

-- The reader with the number n, of which it spends at most as many as `lasts` says: what it reads is in the rule to the depth of one more; what the
-- rule says to any depth it reads, before a token that may not go on; it agrees with the readers of other numbers; and, where it is calm, it never
-- stops at `greedy`.
pub record Exact (calm : Bool) (n l : ℕ) {A : Type 0} (r : ℕ → Rule A) (p : ℕ → Reader A) (after : Lexeme → Bool) : Type 0 where
  pub sound : Sound (p n) (r (suc n))
  pub complete : (k : ℕ) → Complete (r k) (p n) after
  pub agrees : (m : ℕ) → Agrees (p n) (p m)
  pub lasts : Lasts l (p n)
  pub quiet : calm ≡ true → Quiet (p n)

abbrev pub nothing : Lexeme → Bool
nothing t = false

pub stops_nothing : (l : Left) → Stops nothing l
stops_nothing [] = refl
stops_nothing (t ∷ l) = refl

module _ {q : Bool} {n l : ℕ} where
  pub Exact-pure : {A : Type 0} (a : A) (after : Lexeme → Bool) → Exact q n l (λ _. rule.pure a) (λ _. read.pure a) after
  Exact-pure a after =
      record {
        sound = Sound-pure a;
        complete = λ k. Complete-pure a after;
        agrees = λ m. Agrees-pure a;
        lasts = Lasts-pure l a;
        quiet =
            λ _. Quiet-pure a;
      }

  pub Exact-one : {A : Type 0} (f : Lexeme → Option A) (t : Lexeme) (a : A) (after : Lexeme → Bool) → f t ≡ Some a
      → Exact q n l (λ _. rule.one f) (λ _. read.one f) after
  Exact-one f t a after e =
      record {
        sound = Sound-one f t a e;
        complete = λ k. Complete-one f after;
        agrees = λ m. Agrees-one f;
        lasts = Lasts-one l f;
        quiet =
            λ _. Quiet-one f;
      }

  pub exact-symbol : (text : List ℕ) (after : Lexeme → Bool) → only (symbol text) (record { kind = token.Symbol; text = text; place = 0 }) ≡ Some tt
      → Exact q n l (λ _. rule.sign text) (λ _. read.sign text) after
  exact-symbol text after e = Exact-one (only (symbol text)) (record { kind = token.Symbol; text = text; place = 0 }) tt after e

  pub exact-word : (text : List ℕ) (after : Lexeme → Bool) → only (word text) (record { kind = token.Word; text = text; place = 0 }) ≡ Some tt
      → Exact q n l (λ _. rule.keyword text) (λ _. read.keyword text) after
  exact-word text after e = Exact-one (only (word text)) (record { kind = token.Word; text = text; place = 0 }) tt after e

  pub Exact-then : {A B : Type 0} (r : ℕ → Rule A) (s : ℕ → A → Rule B) (p : ℕ → Reader A) (u : ℕ → A → Reader B) (between after : Lexeme → Bool)
      → Exact q n l r p between → ((a : A) → Exact q n l (λ k. s k a) (λ m. u m a) after)
      → ((k : ℕ) (a : A) (b : B) (back rest : Left) → s k a back b → Stops after rest → Stops between (back ++ rest))
      → Exact q n l (λ k. rule.◌>>=◌ (r k) (s k)) (λ m. read.◌>>=◌ (p m) (u m)) after
  Exact-then r s p u between after first second bridge = record {
    sound = Sound-then (p n) (u n) (r (suc n)) (s (suc n)) first.sound (λ a. (second a).sound);
    complete = λ k. Complete-then (p n) (u n) (r k) (s k) between after (first.complete k) (λ a. (second a).complete k) (bridge k);
    agrees = λ m. Agrees-then (p n) (p m) (u n) (u m) (r (suc n)) (s (suc n)) first.sound (λ a. (second a).sound) (first.agrees m) (λ a. (second a).agrees m);
    lasts = Lasts-then l (p n) (u n) (r (suc n)) first.sound first.lasts (λ a. (second a).lasts);
    quiet = λ e. Quiet-then (p n) (u n) (first.quiet e) (λ a. (second a).quiet e);
  }

  -- the first takes some token, so the second may last for one less
  pub Exact-after : {A B : Type 0} (r : ℕ → Rule A) (s : ℕ → A → Rule B) (p : ℕ → Reader A) (u : ℕ → A → Reader B) (between after : Lexeme → Bool)
      → TakesSome (r (suc n)) → Exact q n (suc l) r p between → ((a : A) → Exact q n l (λ k. s k a) (λ m. u m a) after)
      → ((k : ℕ) (a : A) (b : B) (back rest : Left) → s k a back b → Stops after rest → Stops between (back ++ rest))
      → Exact q n (suc l) (λ k. rule.◌>>=◌ (r k) (s k)) (λ m. read.◌>>=◌ (p m) (u m)) after
  Exact-after r s p u between after some first second bridge = record {
    sound = Sound-then (p n) (u n) (r (suc n)) (s (suc n)) first.sound (λ a. (second a).sound);
    complete = λ k. Complete-then (p n) (u n) (r k) (s k) between after (first.complete k) (λ a. (second a).complete k) (bridge k);
    agrees = λ m. Agrees-then (p n) (p m) (u n) (u m) (r (suc n)) (s (suc n)) first.sound (λ a. (second a).sound) (first.agrees m) (λ a. (second a).agrees m);
    lasts = Lasts-after l (p n) (u n) (r (suc n)) some first.sound first.lasts (λ a. (second a).lasts);
    quiet = λ e. Quiet-then (p n) (u n) (first.quiet e) (λ a. (second a).quiet e);
  }

  -- a first part of which nothing need be known to stop
  pub Exact-last : {A B : Type 0} (r : ℕ → Rule A) (s : ℕ → A → Rule B) (p : ℕ → Reader A) (u : ℕ → A → Reader B) (after : Lexeme → Bool)
      → Exact q n l r p nothing → ((a : A) → Exact q n l (λ k. s k a) (λ m. u m a) after)
      → Exact q n l (λ k. rule.◌>>=◌ (r k) (s k)) (λ m. read.◌>>=◌ (p m) (u m)) after
  Exact-last r s p u after first second = Exact-then r s p u nothing after first second (λ k a b back rest h stops. stops_nothing (back ++ rest))

  -- the same, where the first takes some token
  pub Exact-last_after : {A B : Type 0} (r : ℕ → Rule A) (s : ℕ → A → Rule B) (p : ℕ → Reader A) (u : ℕ → A → Reader B) (after : Lexeme → Bool)
      → TakesSome (r (suc n)) → Exact q n (suc l) r p nothing → ((a : A) → Exact q n l (λ k. s k a) (λ m. u m a) after)
      → Exact q n (suc l) (λ k. rule.◌>>=◌ (r k) (s k)) (λ m. read.◌>>=◌ (p m) (u m)) after
  Exact-last_after r s p u after some first second =
      Exact-after r s p u nothing after some first second (λ k a b back rest h stops. stops_nothing (back ++ rest))

  -- a part that stops before a token that begins the next
  pub Exact-before : {A B : Type 0} (r : ℕ → Rule A) (s : ℕ → A → Rule B) (p : ℕ → Reader A) (u : ℕ → A → Reader B) (between after P : Lexeme → Bool)
      → Exact q n l r p between → ((a : A) → Exact q n l (λ k. s k a) (λ m. u m a) after)
      → ((k : ℕ) (a : A) → StartsWith (s k a) P) → ((t : Lexeme) → P t ≡ true → between t ≡ false)
      → Exact q n l (λ k. rule.◌>>=◌ (r k) (s k)) (λ m. read.◌>>=◌ (p m) (u m)) after
  Exact-before r s p u between after P first second starts apart =
      Exact-then r s p u between after first second (λ k a b back rest h stops. stops_by (back ++ rest) ((starts k a).begins back rest b h)) where
        stops_by : (ts : Left) → next_is P ts ≡ true → Stops between ts
        stops_by [] e = refl
        stops_by (t ∷ ts) e = apart t e

  pub Exact-made : {A B : Type 0} (f : A → B) (r : ℕ → Rule A) (p : ℕ → Reader A) (after : Lexeme → Bool) → Exact q n l r p after
      → Exact q n l (λ k. rule.◌>>=◌ (r k) (λ a. rule.pure (f a))) (λ m. read.◌>>=◌ (p m) (λ a. read.pure (f a))) after
  Exact-made f r p after exact =
      Exact-then r _ p _ after after exact (λ a. Exact-pure (f a) after) (λ k a b back rest h stops. subst (λ ts. Stops after (ts ++ rest)) (sym h.0) stops)

  pub Exact-choose : {A : Type 0} (first : Lexeme → Bool) (r s : ℕ → Rule A) (p u : ℕ → Reader A) (after : Lexeme → Bool) → Exact q n l r p after
      → Exact q n l s u after
      → ((k : ℕ) → StartsWith (r k) first) → ((k : ℕ) (used rest : Left) (a : A) → s k used a → Stops after rest → Stops first (used ++ rest))
      → Exact q n l (λ k. rule.◌or◌ (r k) (s k)) (λ m. read.choose first (p m) (u m)) after
  Exact-choose first r s p u after one other starts avoids = record {
    sound = Sound-choose first (p n) (u n) (r (suc n)) (s (suc n)) one.sound other.sound;
    complete = λ k. Complete-choose first (p n) (u n) (r k) (s k) after (one.complete k) (other.complete k) (starts k) (avoids k);
    agrees = λ m. Agrees-choose first (p n) (p m) (u n) (u m) (one.agrees m) (other.agrees m);
    lasts = Lasts-choose l first (p n) (u n) one.lasts other.lasts;
    quiet = λ e. Quiet-choose first (p n) (u n) (one.quiet e) (other.quiet e);
  }

  -- a word and what comes behind it, or another alternative, which does not begin with that word
  pub Exact-branch : {A : Type 0} (text : List ℕ) (r s : ℕ → Rule A) (p u : ℕ → Reader A) (after : Lexeme → Bool)
      → only (word text) (record { kind = token.Word; text = text; place = 0 }) ≡ Some tt
      → Exact q n l r p after → Exact q n l s u after → ((k : ℕ) → Avoids (s k) (word text))
      → Exact q n l (λ k. rule.branch text (r k) (s k)) (λ m. read.branch text (p m) (u m)) after
  Exact-branch text r s p u after e one other avoids =
      Exact-choose (word text) _ s _ u after (Exact-last _ _ _ _ after (exact-word text nothing e) (λ _. one)) other
      (λ k. starts-then _ _ (word text) (starts-word text)) (λ k used rest a h stops. (avoids k).stops used rest a h)

  -- the rule or nothing
  pub Exact-maybe : {A : Type 0} (first : Lexeme → Bool) (r : ℕ → Rule A) (p : ℕ → Reader A) (after : Lexeme → Bool) → Exact q n l r p after
      → ((k : ℕ) → StartsWith (r k) first)
      → ((ts : Left) → Stops after ts → Stops first ts)
      → Exact q n l (λ k. rule.maybe (r k)) (λ m. read.choose first (read.◌>>=◌ (p m) (λ a. read.pure (Some a))) (read.pure None)) after
  Exact-maybe first r p after exact starts quits =
      Exact-choose first _ _ _ _ after (Exact-made Some r p after exact) (Exact-pure None after)
      (λ k. starts-then (r k) _ first (starts k)) (λ k used rest a h stops. subst (λ ts. Stops first (ts ++ rest)) (sym h.0) (quits rest stops))

  pub Exact-placed : {A : Type 0} (r : ℕ → Rule A) (p : ℕ → Reader A) (after : Lexeme → Bool) → ((k : ℕ) → TakesSome (r k)) → Exact q n l r p after
      → Exact q n l (λ k. rule.placed (r k)) (λ m. read.placed (p m)) after
  Exact-placed r p after some exact = record {
    sound = Sound-placed (p n) (r (suc n)) (some (suc n)) exact.sound;
    complete = λ k. Complete-placed (p n) (r k) after (some k) (exact.complete k);
    agrees = λ m. Agrees-placed (p n) (p m) (r (suc n)) exact.sound (exact.agrees m);
    lasts = Lasts-placed l (p n) (r (suc n)) exact.sound exact.lasts;
    quiet = λ e. Quiet-placed (p n) (exact.quiet e);
  }

  -- the same rule in other words
  pub Exact-same : {A : Type 0} (r s : ℕ → Rule A) (p : ℕ → Reader A) (after : Lexeme → Bool)
      → ((k : ℕ) (used : Left) (a : A) → r k used a → s k used a) → ((k : ℕ) (used : Left) (a : A) → s k used a → r k used a)
      → Exact q n l r p after → Exact q n l s p after
  Exact-same r s p after to from exact = record {
    sound = Sound-wider (p n) (r (suc n)) (s (suc n)) (to (suc n)) exact.sound;
    complete = λ k. Complete-narrower (p n) (r k) (s k) after (from k) (exact.complete k);
    agrees = exact.agrees;
    lasts = exact.lasts;
    quiet = exact.quiet;
  }

  -- where more may stop it
  pub Exact-narrower : {A : Type 0} (r : ℕ → Rule A) (p : ℕ → Reader A) (after more : Lexeme → Bool) → Exact q n l r p after
      → ((ts : Left) → Stops more ts → Stops after ts) → Exact q n l r p more
  Exact-narrower r p after more exact so = record {
    sound = exact.sound;
    complete = λ k. record { reads = λ used rest a h stops. (exact.complete k).reads used rest a h (so rest stops) };
    agrees = exact.agrees;
    lasts = exact.lasts;
    quiet = exact.quiet;
  }

  pub Exact-fewer : {A : Type 0} (m : ℕ) (r : ℕ → Rule A) (p : ℕ → Reader A) (after : Lexeme → Bool) → m ≤ l → Exact q n l r p after → Exact q n m r p after
  Exact-fewer m r p after h exact = record {
    sound = exact.sound;
    complete = exact.complete;
    agrees = exact.agrees;
    lasts = Lasts-fewer l m (p n) h exact.lasts;
    quiet = exact.quiet;
  }

pub Exact-many : {q : Bool} {n : ℕ} {A : Type 0} (first : Lexeme → Bool) (r : ℕ → Rule A) (p : ℕ → Reader A) (between after : Lexeme → Bool)
    → Exact q n n r p between
    → ((k : ℕ) → TakesSome (r k)) → ((k : ℕ) → StartsWith (r k) first)
    → ((ts : Left) → next_is first ts ≡ true → Stops between ts) → ((ts : Left) → Stops after ts → Stops between ts)
    → ((ts : Left) → Stops after ts → Stops first ts)
    → Exact q n n (λ k. rule.many (r k)) (λ m. read.many m first (p m)) after
Exact-many {q} {n} first r p between after item some starts goes ends quits = record {
  sound = Sound-many n first (p n) (r (suc n)) item.sound;
  complete = λ k. Complete-many first (p n) (r k) between after (item.complete k) (starts k) goes ends quits n;
  agrees = λ m. Agrees-many n m first (p n) (p m) (r (suc n)) item.sound (item.agrees m);
  lasts = Lasts-many n first (p n) (r (suc n)) (some (suc n)) item.sound item.lasts;
  quiet = λ e. Quiet-many n first (p n) (item.quiet e);
}
