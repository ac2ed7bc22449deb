-- Readers that stop at a word `greedy`: where they do, and that they do wherever it may stand.
use Rattle.std.proofs.Common.{◌≡◌, ℕ, zero, suc, Bool, true, false, cond, ◌⊎◌, inl, inr, List, [], ◌∷◌, ◌++◌, refl, sym, ◌∙◌, ap, subst, append_assoc}
use Rattle.std.specs.Prelude.{codes, Option, Some, None, Ok, Err, ◌≢◌}
use Rattle.std.proofs.lemmas.List.{append_cancel_right}
use Rattle.cep_reading.specs.declared.stop.Stop.{Stop}
use Rattle.cep_reading.specs.declared.stop.Stop.TheVariants.{Greedy, Spent}
use Rattle.cep_reading.specs.Lexeme.{Lexeme}
use Rattle.cep_reading.specs.Terminal.{only, symbol, word}
use Rattle.cep_reading.specs.Reading.{Left, Outcome, Reader, and_then, next_is}
use Rattle.cep_reading.specs.Reading as read
use Rattle.cep_reading.specs.Rule.{Rule, InTurn, Builds, many_by}
use Rattle.cep_reading.specs.Rule as rule
use Rattle.cep_reading.proofs.Laws.{Sound, Split, Begins, Complete, Complete-one, Stops, Agrees, Agrees-choose, Lasts, Lasts-choose, Unless, unless_then, unless_stuck, IsThen, and_then_err, chosen, err_value}
use Rattle.cep_reading.proofs.Starts.{Avoids, starts-symbol}
use Rattle.cep_reading.proofs.Quiet.{Quiet, Quiet-one, Quiet-then, Quiet-pure}
use Rattle.cep_reading.proofs.Exact.{Exact, nothing, stops_nothing}

-- ---- a reader that stops where such a token is next

Agrees-stop : {A : Type 0} (why : Stop) → Agrees {A = A} (read.stop why) (read.stop why)
Agrees-stop {A} why = record { ok = λ used rest more t a e. cc; stuck = λ used rest more t w some e. inl (at used rest more t w e) } where
  at : (used rest more : Left) (t : Lexeme) (w : Stop) → read.stop {A = A} why (used ++ t ∷ rest) ≡ Err (w, t ∷ rest)
      → read.stop {A = A} why (used ++ t ∷ more) ≡ Err (w, t ∷ more)
  at used rest more t w e =
      let parts = err_value e in
      let none : used ≡ [] = append_cancel_right used [] (t ∷ rest) (ap (λ x. x.1) parts) in
      ap (λ l. Err (why, l ++ t ∷ more)) none ∙ ap (λ x. Err (x, t ∷ more)) (ap (λ x. x.0) parts)

Lasts-stop : {A : Type 0} (n : ℕ) (why : Stop) → why ≢ Spent → Lasts n (read.stop {A = A} why)
Lasts-stop n why some = record { spent = λ ts rest e. absurd (some (ap (λ x. x.0) (err_value e))) }

Sound-unless : {A : Type 0} (first : Lexeme → Bool) (why : Stop) (p : Reader A) (r : Rule A) → Sound p r → Sound (read.unless first why p) r
Sound-unless {A} first why p r sound =
    record {
      ok = λ ts rest a e. right ts rest a (chosen (next_is first ts) _ _ _ e);
      stuck =
          λ ts rest w e. wrong ts rest w (chosen (next_is first ts) _ _ _ e);
      some = sound.some;
    } where
      right : (ts rest : Left) (a : A) → ((next_is first ts ≡ true) × (read.stop {A = A} why ts ≡ Ok (a, rest)))
          ⊎ ((next_is first ts ≡ false) × (p ts ≡ Ok (a, rest))) → Split ts rest (λ used. r used a)
      right ts rest a (inl h) = let bad = h.1 in cc
      right ts rest a (inr h) = sound.ok ts rest a h.1

      wrong : (ts rest : Left) (w : Stop) → ((next_is first ts ≡ true) × (read.stop {A = A} why ts ≡ Err (w, rest)))
          ⊎ ((next_is first ts ≡ false) × (p ts ≡ Err (w, rest))) → Split ts rest (Begins r)
      wrong ts rest w (inl h) =
          record {
            used = [];
            is = ap (λ x. x.1) (err_value h.1);
            holds =
                record { more = sound.some.used; value = sound.some.value; holds = sound.some.holds };
          }
      wrong ts rest w (inr h) = sound.stuck ts rest w h.1

Complete-unless : {A : Type 0} (first : Lexeme → Bool) (why : Stop) (p : Reader A) (r : Rule A) (after : Lexeme → Bool) → Avoids r first
    → Complete r p after → Complete r (read.unless first why p) after
Complete-unless first why p r after avoids complete = record {
  reads = λ used rest a h stops.
      subst (λ b. Unless (cond b (read.stop why (used ++ rest)) (p (used ++ rest))) (Ok (a, rest))) (sym (avoids.stops used rest a h))
      (complete.reads used rest a h stops);
}

pub Exact-unless : {n l : ℕ} {A : Type 0} (first : Lexeme → Bool) (why : Stop) (r : ℕ → Rule A) (p : ℕ → Reader A) (after : Lexeme → Bool)
    → why ≢ Spent → ((k : ℕ) → Avoids (r k) first)
    → Exact false n l r p after → Exact false n l r (λ m. read.unless first why (p m)) after
Exact-unless {n} {l} first why r p after some avoids exact = record {
  sound = Sound-unless first why (p n) (r (suc n)) exact.sound;
  complete = λ k. Complete-unless first why (p n) (r k) after (avoids k) (exact.complete k);
  agrees = λ m. Agrees-choose first (read.stop why) (read.stop why) (p n) (p m) (Agrees-stop why) (exact.agrees m);
  lasts = Lasts-choose l first (read.stop why) (p n) (Lasts-stop l why some) exact.lasts;
  quiet = λ e. cc;
}

-- ---- where a reader stops at `greedy`

abbrev pub greedy : Lexeme → Bool
greedy = word (codes "greedy")

-- the fronts behind which `greedy` stops the reader with the number n: those that the rule says, to the depth of one more; and to any depth it does
pub record Warns (n : ℕ) {A : Type 0} (p : Reader A) (g : ℕ → Rule (Unit {0})) : Type 0 where
  pub found : (ts rest : Left) → p ts ≡ Err (Greedy, rest) → Split ts rest (λ used. g (suc n) used tt) × (next_is greedy rest ≡ true)
  pub given : (k : ℕ) (used rest : Left) (t : Lexeme) → g k used tt → greedy t ≡ true → Unless (p (used ++ t ∷ rest)) (Err (Greedy, t ∷ rest))

-- the reader of a first part that never does
pub Warns-later :
    {n l : ℕ} {A B : Type 0} (r : ℕ → Rule A) (g : ℕ → A → Rule (Unit {0})) (p : ℕ → Reader A) (u : A → Reader B) (between : Lexeme → Bool)
    → Exact true n l r p between → ((a : A) → Warns n (u a) (λ k. g k a))
    → ((k : ℕ) (a : A) (back rest : Left) → g k a back tt → Stops between (back ++ rest)) → Warns n (read.◌>>=◌ (p n) u) (λ k. rule.◌>>=◌ (r k) (g k))
Warns-later {n} {l} {A} {B} r g p u between first second bridge =
    record { found = λ ts rest e. found ts rest (and_then_err (p n ts) u Greedy rest e); given = given } where
      found : (ts rest : Left) → (p n ts ≡ Err (Greedy, rest)) ⊎ IsThen (p n ts) u (Err (Greedy, rest))
          → Split ts rest (λ used. rule.◌>>=◌ (r (suc n)) (g (suc n)) used tt) × (next_is greedy rest ≡ true)
      found ts rest (inl h) = absurd ((first.quiet refl).never ts rest h)
      found ts rest (inr k) =
          let x = first.sound.ok ts k.mid k.value k.was in
          let y = (second k.value).found k.mid rest k.gives in (
            record {
              used = x.used ++ y.0.used;
              is = x.is ∙ ap (λ l. x.used ++ l) y.0.is ∙ sym (append_assoc x.used y.0.used rest);
              holds = record { front = x.used; back = y.0.used; value = k.value; is = refl; first = x.holds; second = y.0.holds };
            },
            y.1,
          )

      given : (k : ℕ) (used rest : Left) (t : Lexeme) → rule.◌>>=◌ (r k) (g k) used tt → greedy t ≡ true
          → Unless (and_then (p n (used ++ t ∷ rest)) u) (Err (Greedy, t ∷ rest))
      given k used rest t h is_greedy =
          let is : used ++ t ∷ rest ≡ h.front ++ (h.back ++ t ∷ rest) = ap (λ l. l ++ t ∷ rest) h.is ∙ append_assoc h.front h.back (t ∷ rest) in
          subst (λ l. Unless (and_then (p n l) u) (Err (Greedy, t ∷ rest))) (sym is)
          (unless_then (p n (h.front ++ (h.back ++ t ∷ rest))) u h.value (h.back ++ t ∷ rest) (Err (Greedy, t ∷ rest))
          ((first.complete k).reads h.front (h.back ++ t ∷ rest) h.value h.first (bridge k h.value h.back (t ∷ rest) h.second))
          ((second h.value).given k h.back rest t h.second is_greedy))

-- the reader of a last part that never does
pub Warns-first : {n : ℕ} {A B : Type 0} (g : ℕ → Rule (Unit {0})) (p : Reader A) (u : A → Reader B) → Warns n p g → ((a : A) → Quiet (u a))
    → Warns n (read.◌>>=◌ p u) g
Warns-first {n} g p u warns quiet =
    record {
      found = λ ts rest e. found ts rest (and_then_err (p ts) u Greedy rest e);
      given =
          λ k used rest t h e. unless_stuck (p (used ++ t ∷ rest)) u Greedy (t ∷ rest) (warns.given k used rest t h e);
    } where
      found : (ts rest : Left) → (p ts ≡ Err (Greedy, rest)) ⊎ IsThen (p ts) u (Err (Greedy, rest)) → Split ts rest (λ used. g (suc n) used tt)
          × (next_is greedy rest ≡ true)
      found ts rest (inl h) = warns.found ts rest h
      found ts rest (inr k) = absurd ((quiet k.value).never k.mid rest k.gives)

-- a reader that does at its first token
pub record WarnsFirst {A : Type 0} (p : Reader A) : Type 0 where
  pub found : (ts rest : Left) → p ts ≡ Err (Greedy, rest) → (ts ≡ rest) × (next_is greedy rest ≡ true)
  pub given : (rest : Left) (t : Lexeme) → greedy t ≡ true → p (t ∷ rest) ≡ Err (Greedy, t ∷ rest)

pub WarnsFirst-unless : {A : Type 0} (p : Reader A) → Quiet p → WarnsFirst (read.unless greedy Greedy p)
WarnsFirst-unless {A} p quiet =
    record {
      found = λ ts rest e. found ts rest (chosen (next_is greedy ts) _ _ _ e);
      given =
          λ rest t e. ap (λ b. cond b (read.stop Greedy (t ∷ rest)) (p (t ∷ rest))) e;
    } where
      found : (ts rest : Left) → ((next_is greedy ts ≡ true) × (read.stop {A = A} Greedy ts ≡ Err (Greedy, rest)))
          ⊎ ((next_is greedy ts ≡ false) × (p ts ≡ Err (Greedy, rest))) → (ts ≡ rest) × (next_is greedy rest ≡ true)
      found ts rest (inl h) = let is = ap (λ x. x.1) (err_value h.1) in (is, ap (next_is greedy) (sym is) ∙ h.0)
      found ts rest (inr h) = absurd (quiet.never ts rest h.1)

-- such a reader where another reads what begins with some token, and never does
pub WarnsFirst-choose : {A : Type 0} (first : Lexeme → Bool) (p q : Reader A) → Quiet p → WarnsFirst q
    → ((t : Lexeme) → greedy t ≡ true → first t ≡ false) → WarnsFirst (read.choose first p q)
WarnsFirst-choose {A} first p q quiet warns apart = record {
  found = λ ts rest e. found ts rest (chosen (next_is first ts) _ _ _ e);
  given = λ rest t e. ap (λ b. cond b (p (t ∷ rest)) (q (t ∷ rest))) (apart t e) ∙ warns.given rest t e;
} where
  found : (ts rest : Left) → ((next_is first ts ≡ true) × (p ts ≡ Err (Greedy, rest))) ⊎ ((next_is first ts ≡ false) × (q ts ≡ Err (Greedy, rest)))
      → (ts ≡ rest) × (next_is greedy rest ≡ true)
  found ts rest (inl h) = absurd (quiet.never ts rest h.1)
  found ts rest (inr h) = warns.found ts rest h.1

-- ---- links

-- some links, and the sign of one more
abbrev pub up_to_link : {S A : Type 0} → List ℕ → (S → A → S) → (S → Rule A) → S → Rule (Unit {0})
up_to_link lead next r s = rule.◌>>=◌ (Builds next (λ x. rule.◌>>◌ (rule.sign lead) (r x)) s) (λ _. rule.sign lead)

module _ {S A E : Type 0} (lead : List ℕ) (ends : Lexeme → Bool) (next : S → A → S) where
  module _ (n : ℕ) (r : ℕ → S → Rule A) (p : S → Reader A) (e : Reader E) (sound-lead : Sound (read.sign lead) (rule.sign lead))
      (item : (s : S) → Sound (p s) (r (suc n) s)) (reads : (k : ℕ) (s : S) → Complete (r k s) (p s) nothing)
      (avoids : (k : ℕ) (s : S) → Avoids (r k s) ends) (warns : (s : S) → WarnsFirst (p s)) (exit : Quiet e)
      (apart : (t : Lexeme) → greedy t ≡ true → ends t ≡ false) where
    abbrev behind : ℕ → S → Reader (S × Option E)
    behind m s = read.choose ends (read.◌>>=◌ e (λ x. read.pure (s, Some x))) (read.◌>>=◌ (p s) (λ a. read.links m lead ends next p e (next s a)))

    abbrev Found : ℕ → Type 0
    Found m = (s : S) (ts rest : Left) → read.links m lead ends next p e s ts ≡ Err (Greedy, rest)
        → Split ts rest (λ used. up_to_link lead next (r (suc n)) s used tt) × (next_is greedy rest ≡ true)

    -- behind a sign
    module _ (m : ℕ) (later : Found m) (s : S) (ts mid rest : Left) (sign : Split ts mid (λ used. rule.sign lead used tt)) where
      item_found : (p s mid ≡ Err (Greedy, rest)) ⊎ IsThen (p s mid) (λ a. read.links m lead ends next p e (next s a)) (Err (Greedy, rest))
          → Split ts rest (λ used. up_to_link lead next (r (suc n)) s used tt) × (next_is greedy rest ≡ true)
      item_found (inl h) =
          let x = (warns s).found mid rest h in (
            record {
              used = sign.used;
              is = sign.is ∙ ap (λ l. sign.used ++ l) x.0;
              holds =
                  record {
                    front = [];
                    back = sign.used;
                    value = s;
                    is = refl;
                    first = record { items = []; holds = refl; is = refl };
                    second =
                        sign.holds;
                  };
            },
            x.1,
          )
      item_found (inr k) =
          let x = (item s).ok mid k.mid k.value k.was in
          let y = later (next s k.value) k.mid rest k.gives in
          let b = y.0.holds in
          let front = sign.used ++ x.used in (
            record {
              used = front ++ y.0.used;
              is = sign.is ∙ ap (λ l. sign.used ++ l) (x.is ∙ ap (λ l. x.used ++ l) y.0.is) ∙ simp append_assoc;
              holds = record {
                front = front ++ b.front;
                back = b.back;
                value = b.value;
                is = ap (λ l. front ++ l) b.is ∙ sym (append_assoc front b.front b.back);
                first = record {
                  items = k.value ∷ b.first.items;
                  holds = (
                    front,
                    b.front,
                    refl,
                    record { front = sign.used; back = x.used; value = tt; is = refl; first = sign.holds; second = x.holds },
                    b.first.holds,
                  );
                  is = b.first.is;
                };
                second = b.second;
              };
            },
            y.1,
          )

      behind_found : ((next_is ends mid ≡ true) × (and_then {B = S × Option E} (e mid) (λ x. read.pure (s, Some x)) ≡ Err (Greedy, rest)))
          ⊎ ((next_is ends mid ≡ false)
          × (and_then {B = S × Option E} (p s mid) (λ a. read.links m lead ends next p e (next s a)) ≡ Err (Greedy, rest)))
          → Split ts rest (λ used. up_to_link lead next (r (suc n)) s used tt) × (next_is greedy rest ≡ true)
      behind_found (inl h) = absurd ((Quiet-then e _ exit (λ x. Quiet-pure (s, Some x))).never mid rest h.1)
      behind_found (inr h) = item_found (and_then_err (p s mid) (λ a. read.links m lead ends next p e (next s a)) Greedy rest h.1)

    module _ (m : ℕ) (later : Found m) (s : S) (ts rest : Left) where
      sign_found : (read.sign lead ts ≡ Err (Greedy, rest)) ⊎ IsThen (read.sign lead ts) (λ _. behind m s) (Err (Greedy, rest))
          → Split ts rest (λ used. up_to_link lead next (r (suc n)) s used tt) × (next_is greedy rest ≡ true)
      sign_found (inl h) = absurd ((Quiet-one (only (symbol lead))).never ts rest h)
      sign_found (inr k) = behind_found m later s ts k.mid rest (sound-lead.ok ts k.mid k.value k.was) (chosen (next_is ends k.mid) _ _ _ k.gives)

      turn_found : ((next_is (symbol lead) ts ≡ true) × (and_then (read.sign lead ts) (λ _. behind m s) ≡ Err (Greedy, rest)))
          ⊎ ((next_is (symbol lead) ts ≡ false) × (read.pure {A = S × Option E} (s, None) ts ≡ Err (Greedy, rest)))
          → Split ts rest (λ used. up_to_link lead next (r (suc n)) s used tt) × (next_is greedy rest ≡ true)
      turn_found (inl h) = sign_found (and_then_err (read.sign lead ts) (λ _. behind m s) Greedy rest h.1)
      turn_found (inr h) = let bad = h.1 in cc

    links_found : (m : ℕ) → Found m
    unfolding read.links
    links_found zero s ts rest h = let bad = ap (λ x. x.0) (err_value h) in cc
    links_found (suc m) s ts rest h = turn_found m (links_found m) s ts rest (chosen (next_is (symbol lead) ts) _ _ _ h)

    -- the other way
    abbrev Given : ℕ → S → Left → Left → Lexeme → Type 0
    Given m s used rest t = Unless (read.links m lead ends next p e s (used ++ t ∷ rest)) (Err (Greedy, t ∷ rest))

    -- behind a sign, where no link ends the chain
    behind_given : (m : ℕ) (s : S) (ts : Left) (t : Lexeme) (rest : Left) → next_is ends ts ≡ false
        → Unless (and_then (p s ts) (λ a. read.links m lead ends next p e (next s a))) (Err (Greedy, t ∷ rest))
        → Unless (behind m s ts) (Err (Greedy, t ∷ rest))
    behind_given m s ts t rest goes h =
        subst (λ b. Unless (cond b (and_then {B = S × Option E} (e ts) (λ x. read.pure (s, Some x)))
        (and_then (p s ts) (λ a. read.links m lead ends next p e (next s a)))) (Err (Greedy, t ∷ rest))) (sym goes) h

    turn_given : (m : ℕ) (s : S) (front ts : Left) (t : Lexeme) (rest : Left) → rule.sign lead front tt
        → Unless (behind m s ts) (Err (Greedy, t ∷ rest)) → Unless (read.links (suc m) lead ends next p e s (front ++ ts)) (Err (Greedy, t ∷ rest))
    unfolding read.links
    turn_given m s front ts t rest sign h =
        subst (λ b. Unless (cond b (and_then (read.sign lead (front ++ ts)) (λ _. behind m s))
        (read.pure {A = S × Option E} (s, None) (front ++ ts))) (Err (Greedy, t ∷ rest))) (sym ((starts-symbol lead).begins front ts tt sign))
        (unless_then (read.sign lead (front ++ ts)) (λ _. behind m s) tt ts (Err (Greedy, t ∷ rest))
        ((Complete-one (only (symbol lead)) nothing).reads front ts tt sign (stops_nothing ts)) h)

    links_given : (m k : ℕ) (s : S) (items : List A) (front back rest : Left) (t : Lexeme)
        → many_by next (λ x. rule.◌>>◌ (rule.sign lead) (r k x)) s front items → rule.sign lead back tt → greedy t ≡ true
        → Given m s (front ++ back) rest t
    unfolding read.links
    links_given zero k s items front back rest t holds sign is_greedy = inr (record { rest = (front ++ back) ++ t ∷ rest; is = refl })
    links_given (suc m) k s [] front back rest t holds sign is_greedy =
        subst (λ l. Unless (read.links (suc m) lead ends next p e s ((l ++ back) ++ t ∷ rest)) (Err (Greedy, t ∷ rest))) (sym holds)
        (turn_given m s back (t ∷ rest) t rest sign
        (behind_given m s (t ∷ rest) t rest (apart t is_greedy)
        (unless_stuck (p s (t ∷ rest)) _ Greedy (t ∷ rest) (inl ((warns s).given rest t is_greedy)))))
    links_given (suc m) k s (a ∷ items) front back rest t holds sign is_greedy =
        let one = holds.3 in
        let left = (holds.1 ++ back) ++ t ∷ rest in
        let is : (front ++ back) ++ t ∷ rest ≡ one.front ++ (one.back ++ left) = ap (λ l. (l ++ back) ++ t ∷ rest) (holds.2 ∙ ap (λ l. l ++ holds.1) one.is) ∙ simp append_assoc in
        let later = links_given m k (next s a) items holds.1 back rest t holds.4 sign is_greedy in
        subst (λ l. Unless (read.links (suc m) lead ends next p e s l) (Err (Greedy, t ∷ rest))) (sym is)
        (turn_given m s one.front (one.back ++ left) t rest one.first
        (behind_given m s (one.back ++ left) t rest ((avoids k s).stops one.back left a one.second)
        (unless_then (p s (one.back ++ left)) _ a left (Err (Greedy, t ∷ rest)) ((reads k s).reads one.back left a one.second (stops_nothing left)) later)))

    pub Warns-links : (s : S) → Warns n (read.links n lead ends next p e s) (λ k. up_to_link lead next (r k) s)
    Warns-links s = record {
      found = links_found n s;
      given = λ k used rest t h is_greedy.
          subst (λ l. Unless (read.links n lead ends next p e s (l ++ t ∷ rest)) (Err (Greedy, t ∷ rest))) (sym h.is)
          (links_given n k s h.first.items h.front h.back rest t h.first.holds h.second is_greedy);
    }
