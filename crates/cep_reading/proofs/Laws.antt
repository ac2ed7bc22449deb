-- A reader against a rule: what it reads the rule says, where it stops the rule could have gone on, and what the rule says it reads.
use Rattle.std.proofs.Common.{◌≡◌, ℕ, zero, suc, ◌+◌, ◌≤◌, ◌<◌, Bool, true, false, cond, ◌⊎◌, inl, inr, List, [], ◌∷◌, ◌++◌, length, refl, sym, ◌∙◌, ap, subst, arith, append_assoc, append-nil, length-append}
use Rattle.std.proofs.lemmas.List.{append_cancel_right}
use Rattle.std.specs.Prelude.{Option, Some, None, Ok, Err, ◌≢◌}
use Rattle.cep_reading.specs.declared.stop.Stop.{Stop}
use Rattle.cep_reading.specs.declared.stop.Stop.TheVariants.{Expected, Spent}
use Rattle.cep_reading.specs.Lexeme.{Lexeme}
use Rattle.cep_reading.specs.Reading.{Left, Outcome, Reader, and_then, taken, next_is, place_of}
use Rattle.cep_reading.specs.Reading as read
use Rattle.cep_reading.specs.Rule.{Rule, InTurn, IsOne}
use Rattle.cep_reading.specs.Rule as rule

-- ---- outcomes

pub ok_value : {A : Type 0} {x y : A × Left} → ◌≡◌ {A = Outcome A} (Ok x) (Ok y) → x ≡ y
ok_value e = cc

pub err_value : {A : Type 0} {x y : Stop × Left} → ◌≡◌ {A = Outcome A} (Err x) (Err y) → x ≡ y
err_value e = cc

pub record IsThen {A B : Type 0} (o : Outcome A) (f : A → Reader B) (all : Outcome B) : Type 0 where
  pub value : A
  pub mid : Left
  pub was : o ≡ Ok (value, mid)
  pub gives : f value mid ≡ all

pub and_then_ok : {A B : Type 0} (o : Outcome A) (f : A → Reader B) (b : B) (rest : Left) → and_then o f ≡ Ok (b, rest) → IsThen o f (Ok (b, rest))
and_then_ok (Ok found) f b rest e = record { value = found.0; mid = found.1; was = refl; gives = e }
and_then_ok (Err stop) f b rest e = cc

pub and_then_err : {A B : Type 0} (o : Outcome A) (f : A → Reader B) (why : Stop) (rest : Left) → and_then o f ≡ Err (why, rest)
    → (o ≡ Err (why, rest)) ⊎ IsThen o f (Err (why, rest))
and_then_err (Ok found) f why rest e = inr (record { value = found.0; mid = found.1; was = refl; gives = e })
and_then_err (Err stop) f why rest e = inl (ap Err (err_value e))

pub chosen : {A : Type 0} (b : Bool) (x y z : A) → cond b x y ≡ z → ((b ≡ true) × (x ≡ z)) ⊎ ((b ≡ false) × (y ≡ z))
chosen true x y z e = inl (refl, e)
chosen false x y z e = inr (refl, e)

-- ---- what is read is in the rule, and where nothing is read the rule could have gone on

pub record Split (ts rest : Left) (P : Left → Type 0) : Type 0 where
  pub used : Left
  pub is : ts ≡ used ++ rest
  pub holds : P used

pub record Begins {A : Type 0} (r : Rule A) (used : Left) : Type 0 where
  pub more : Left
  pub value : A
  pub holds : r (used ++ more) value

pub record Word {A : Type 0} (r : Rule A) : Type 0 where
  pub used : Left
  pub value : A
  pub holds : r used value

abbrev pub Stops : (Lexeme → Bool) → Left → Type 0
Stops after rest = next_is after rest ≡ false

pub record Sound {A : Type 0} (p : Reader A) (r : Rule A) : Type 0 where
  pub ok : (ts rest : Left) (a : A) → p ts ≡ Ok (a, rest) → Split ts rest (λ used. r used a)
  pub stuck : (ts rest : Left) (why : Stop) → p ts ≡ Err (why, rest) → Split ts rest (Begins r)
  pub some : Word r

pub Sound-pure : {A : Type 0} (a : A) → Sound (read.pure a) (rule.pure a)
Sound-pure a = record {
  ok = λ ts rest b e. record { used = []; is = ap (λ p. p.1) (ok_value e); holds = (refl, sym (ap (λ p. p.0) (ok_value e))) };
  stuck = λ ts rest why e. cc;
  some = record { used = []; value = a; holds = (refl, refl) };
}

taken_ok : {A : Type 0} (t : Lexeme) (ts rest : Left) (a : A) (o : Option A) → taken t ts o ≡ Ok (a, rest) → (o ≡ Some a) × (ts ≡ rest)
taken_ok t ts rest a (Some b) e = (ap (λ p. Some p.0) (ok_value e), ap (λ p. p.1) (ok_value e))
taken_ok t ts rest a None e = cc

taken_err : {A : Type 0} (t : Lexeme) (ts rest : Left) (why : Stop) (o : Option A) → taken t ts o ≡ Err (why, rest) → (t ∷ ts ≡ rest) × (why ≡ Expected)
taken_err t ts rest why (Some b) e = cc
taken_err t ts rest why None e = (ap (λ p. p.1) (err_value e), sym (ap (λ p. p.0) (err_value e)))

pub Sound-one : {A : Type 0} (f : Lexeme → Option A) (t : Lexeme) (a : A) → f t ≡ Some a → Sound (read.one f) (rule.one f)
unfolding read.one
Sound-one {A} f t a e = record { ok = right; stuck = wrong; some = word } where
  word : Word (rule.one f)
  word = record { used = t ∷ []; value = a; holds = record { token = t; is = refl; gives = e } }

  right : (ts rest : Left) (b : A) → read.one f ts ≡ Ok (b, rest) → Split ts rest (λ used. rule.one f used b)
  right [] rest b h = cc
  right (u ∷ ts) rest b h =
      let k = taken_ok u ts rest b (f u) h in
      record { used = u ∷ []; is = ap (λ l. u ∷ l) k.1; holds = record { token = u; is = refl; gives = k.0 } }

  wrong : (ts rest : Left) (why : Stop) → read.one f ts ≡ Err (why, rest) → Split ts rest (Begins (rule.one f))
  wrong [] rest why h = record { used = []; is = ap (λ p. p.1) (err_value h); holds = record { more = t ∷ []; value = a; holds = word.holds } }
  wrong (u ∷ ts) rest why h = record { used = []; is = (taken_err u ts rest why (f u) h).0; holds = record { more = t ∷ []; value = a; holds = word.holds } }

pub Sound-then : {A B : Type 0} (p : Reader A) (q : A → Reader B) (r : Rule A) (s : A → Rule B) → Sound p r → ((a : A) → Sound (q a) (s a))
    → Sound (read.◌>>=◌ p q) (rule.◌>>=◌ r s)
Sound-then {A} {B} p q r s first second = record { ok = right; stuck = wrong; some = word } where
  word : Word (InTurn r s)
  word =
      let w = first.some in
      let v = (second w.value).some in
      record {
        used = w.used ++ v.used;
        value = v.value;
        holds =
            record { front = w.used; back = v.used; value = w.value; is = refl; first = w.holds; second = v.holds };
      }

  right : (ts rest : Left) (b : B) → and_then (p ts) q ≡ Ok (b, rest) → Split ts rest (λ used. InTurn r s used b)
  right ts rest b e =
      let k = and_then_ok (p ts) q b rest e in
      let x = first.ok ts k.mid k.value k.was in
      let y = (second k.value).ok k.mid rest b k.gives in
      record {
        used = x.used ++ y.used;
        is = x.is ∙ ap (λ l. x.used ++ l) y.is ∙ sym (append_assoc x.used y.used rest);
        holds = record { front = x.used; back = y.used; value = k.value; is = refl; first = x.holds; second = y.holds };
      }

  wrong : (ts rest : Left) (why : Stop) → and_then (p ts) q ≡ Err (why, rest) → Split ts rest (Begins (InTurn r s))
  wrong ts rest why e = cases (and_then_err (p ts) q why rest e) where
    cases : (p ts ≡ Err (why, rest)) ⊎ IsThen (p ts) q (Err (why, rest)) → Split ts rest (Begins (InTurn r s))
    cases (inl h) =
        let x = first.stuck ts rest why h in
        let w = (second x.holds.value).some in
        record {
          used = x.used;
          is = x.is;
          holds = record {
            more = x.holds.more ++ w.used;
            value = w.value;
            holds =
                record {
                  front = x.used ++ x.holds.more;
                  back = w.used;
                  value = x.holds.value;
                  is = simp append_assoc;
                  first =
                      x.holds.holds;
                  second = w.holds;
                };
          };
        }
    cases (inr k) =
        let x = first.ok ts k.mid k.value k.was in
        let y = (second k.value).stuck k.mid rest why k.gives in
        record {
          used = x.used ++ y.used;
          is = x.is ∙ ap (λ l. x.used ++ l) y.is ∙ simp append_assoc;
          holds = record {
            more = y.holds.more;
            value = y.holds.value;
            holds = record { front = x.used; back = y.used ++ y.holds.more; value = k.value; is = simp append_assoc; first = x.holds; second = y.holds.holds };
          };
        }

pub Sound-choose : {A : Type 0} (first : Lexeme → Bool) (p q : Reader A) (r s : Rule A) → Sound p r → Sound q s → Sound (read.choose first p q) (rule.◌or◌ r s)
Sound-choose {A} first p q r s one other =
    record { ok = right; stuck = wrong; some = record { used = one.some.used; value = one.some.value; holds = inl one.some.holds } } where
      right : (ts rest : Left) (a : A) → cond (next_is first ts) (p ts) (q ts) ≡ Ok (a, rest) → Split ts rest (λ used. rule.◌or◌ r s used a)
      right ts rest a e = cases (chosen (next_is first ts) (p ts) (q ts) (Ok (a, rest)) e) where
        cases : ((next_is first ts ≡ true) × (p ts ≡ Ok (a, rest))) ⊎ ((next_is first ts ≡ false) × (q ts ≡ Ok (a, rest)))
            → Split ts rest (λ used. rule.◌or◌ r s used a)
        cases (inl h) = let x = one.ok ts rest a h.1 in record { used = x.used; is = x.is; holds = inl x.holds }
        cases (inr h) = let x = other.ok ts rest a h.1 in record { used = x.used; is = x.is; holds = inr x.holds }

      wrong : (ts rest : Left) (why : Stop) → cond (next_is first ts) (p ts) (q ts) ≡ Err (why, rest) → Split ts rest (Begins (rule.◌or◌ r s))
      wrong ts rest why e = cases (chosen (next_is first ts) (p ts) (q ts) (Err (why, rest)) e) where
        cases : ((next_is first ts ≡ true) × (p ts ≡ Err (why, rest))) ⊎ ((next_is first ts ≡ false) × (q ts ≡ Err (why, rest)))
            → Split ts rest (Begins (rule.◌or◌ r s))
        cases (inl h) =
            let x = one.stuck ts rest why h.1 in
            record { used = x.used; is = x.is; holds = record { more = x.holds.more; value = x.holds.value; holds = inl x.holds.holds } }
        cases (inr h) =
            let x = other.stuck ts rest why h.1 in
            record { used = x.used; is = x.is; holds = record { more = x.holds.more; value = x.holds.value; holds = inr x.holds.holds } }

-- a rule that says more
pub Sound-wider : {A : Type 0} (p : Reader A) (r s : Rule A) → ((used : Left) (a : A) → r used a → s used a) → Sound p r → Sound p s
Sound-wider p r s wider sound = record {
  ok = λ ts rest a e. let x = sound.ok ts rest a e in record { used = x.used; is = x.is; holds = wider x.used a x.holds };
  stuck = λ ts rest why e.
      let x = sound.stuck ts rest why e in
      record {
        used = x.used;
        is = x.is;
        holds =
            record { more = x.holds.more; value = x.holds.value; holds = wider (x.used ++ x.holds.more) x.holds.value x.holds.holds };
      };
  some = record { used = sound.some.used; value = sound.some.value; holds = wider sound.some.used sound.some.value sound.some.holds };
}

-- one more turn of a rule
abbrev pub turn : {A : Type 0} → Rule A → Rule (List A)
turn r = rule.◌or◌ (rule.◌>>=◌ r (λ a. rule.◌>>=◌ (rule.many r) (λ more. rule.pure (a ∷ more)))) (rule.pure [])

turn-many : {A : Type 0} (r : Rule A) (used : Left) (all : List A) → turn r used all → rule.many r used all
turn-many r used all (inl h) =
    let two = h.second in
    let back_is : h.back ≡ two.front = two.is ∙ ap (λ l. two.front ++ l) two.second.0 ∙ append-nil two.front in
    subst (rule.many r used) (sym two.second.1) (h.front, h.back, h.is, h.first, subst (λ l. rule.many r l two.value) (sym back_is) two.first)
turn-many r used all (inr h) = subst (rule.many r used) (sym h.1) h.0

pub Sound-many : {A : Type 0} (n : ℕ) (first : Lexeme → Bool) (p : Reader A) (r : Rule A) → Sound p r → Sound (read.many n first p) (rule.many r)
unfolding read.many
Sound-many zero first p r sound = record {
  ok = λ ts rest a e. cc;
  stuck = λ ts rest why e. record { used = []; is = ap (λ x. x.1) (err_value e); holds = record { more = []; value = []; holds = refl } };
  some = record { used = []; value = []; holds = refl };
}
Sound-many (suc n) first p r sound =
    Sound-wider (read.many (suc n) first p) (turn r) (rule.many r) (turn-many r)
    (Sound-choose first _ _ _ _
    (Sound-then p _ r _ sound (λ a. Sound-then (read.many n first p) _ (rule.many r) _ (Sound-many n first p r sound) (λ more. Sound-pure (a ∷ more))))
    (Sound-pure []))

-- the rule takes at least one token
pub record TakesSome {A : Type 0} (r : Rule A) : Type 0 where
  pub never : (a : A) → r [] a → ⊥

place_of-front : (used rest : Left) → (used ≡ [] → ⊥) → place_of (used ++ rest) ≡ place_of used
place_of-front [] rest some = absurd (some refl)
place_of-front (t ∷ used) rest some = refl

pub takes_some : {A : Type 0} (r : Rule A) (used : Left) (a : A) → TakesSome r → r used a → used ≡ [] → ⊥
takes_some r used a some h e = some.never a (subst (λ l. r l a) e h)

pub Sound-placed : {A : Type 0} (p : Reader A) (r : Rule A) → TakesSome r → Sound p r → Sound (read.placed p) (rule.placed r)
Sound-placed {A} p r some sound =
    record {
      ok = right;
      stuck = wrong;
      some =
          record { used = sound.some.used; value = (place_of sound.some.used, sound.some.value); holds = (sound.some.holds, refl) };
    } where
      right : (ts rest : Left) (a : ℕ × A) → and_then (p ts) (read.located (place_of ts)) ≡ Ok (a, rest) → Split ts rest (λ used. rule.placed r used a)
      right ts rest a e =
          let k = and_then_ok (p ts) (read.located (place_of ts)) a rest e in
          let x = sound.ok ts k.mid k.value k.was in
          let found = ok_value k.gives in
          let found_is = ap (λ f. f.0) found in
          let place_is : place_of ts ≡ place_of x.used = ap place_of x.is ∙ place_of-front x.used k.mid (takes_some r x.used k.value some x.holds) in
          record {
            used = x.used;
            is = x.is ∙ ap (λ l. x.used ++ l) (ap (λ f. f.1) found);
            holds = (subst (r x.used) (ap (λ f. f.1) found_is) x.holds, sym (ap (λ f. f.0) found_is) ∙ place_is);
          }

      wrong : (ts rest : Left) (why : Stop) → and_then (p ts) (read.located (place_of ts)) ≡ Err (why, rest) → Split ts rest (Begins (rule.placed r))
      wrong ts rest why e = cases (and_then_err (p ts) (read.located (place_of ts)) why rest e) where
        cases : (p ts ≡ Err (why, rest)) ⊎ IsThen (p ts) (read.located (place_of ts)) (Err (why, rest)) → Split ts rest (Begins (rule.placed r))
        cases (inl h) =
            let x = sound.stuck ts rest why h in
            record {
              used = x.used;
              is = x.is;
              holds =
                  record { more = x.holds.more; value = (place_of (x.used ++ x.holds.more), x.holds.value); holds = (x.holds.holds, refl) };
            }
        cases (inr k) = let bad = k.gives in cc

-- ---- what the rule says is read, unless the reader's number is spent

pub record IsSpent {A : Type 0} (o : Outcome A) : Type 0 where
  pub rest : Left
  pub is : o ≡ Err (Spent, rest)

abbrev pub Unless : {A : Type 0} → Outcome A → Outcome A → Type 0
Unless o expected = (o ≡ expected) ⊎ IsSpent o

pub unless_then : {A B : Type 0} (o : Outcome A) (f : A → Reader B) (a : A) (mid : Left) (all : Outcome B) → Unless o (Ok (a, mid))
    → Unless (f a mid) all → Unless (and_then o f) all
unless_then o f a mid all (inl e) (inl h) = inl (ap (λ x. and_then x f) e ∙ h)
unless_then o f a mid all (inl e) (inr s) = inr (record { rest = s.rest; is = ap (λ x. and_then x f) e ∙ s.is })
unless_then o f a mid all (inr s) h = inr (record { rest = s.rest; is = ap (λ x. and_then x f) s.is })

pub unless_stuck : {A B : Type 0} (o : Outcome A) (f : A → Reader B) (why : Stop) (rest : Left) → Unless o (Err (why, rest))
    → Unless (and_then o f) (Err (why, rest))
unless_stuck o f why rest (inl e) = inl (ap (λ x. and_then x f) e)
unless_stuck o f why rest (inr s) = inr (record { rest = s.rest; is = ap (λ x. and_then x f) s.is })

pub record Complete {A : Type 0} (r : Rule A) (p : Reader A) (after : Lexeme → Bool) : Type 0 where
  pub reads : (used rest : Left) (a : A) → r used a → Stops after rest → Unless (p (used ++ rest)) (Ok (a, rest))

pub Complete-pure : {A : Type 0} (a : A) (after : Lexeme → Bool) → Complete (rule.pure a) (read.pure a) after
Complete-pure {A} a after = record { reads = λ used rest b h stops. inl (same used rest b h.0 h.1) } where
  same : (used rest : Left) (b : A) → used ≡ [] → b ≡ a → read.pure a (used ++ rest) ≡ Ok (b, rest)
  same used rest b e f = ap (λ l. read.pure a (l ++ rest)) e ∙ ap (λ v. read.pure v rest) (sym f)

pub Complete-one : {A : Type 0} (f : Lexeme → Option A) (after : Lexeme → Bool) → Complete (rule.one f) (read.one f) after
unfolding read.one
Complete-one f after = record { reads = λ used rest a h stops. inl (ap (λ l. read.one f (l ++ rest)) h.is ∙ ap (taken h.token rest) h.gives) }

pub Complete-then : {A B : Type 0} (p : Reader A) (q : A → Reader B) (r : Rule A) (s : A → Rule B) (between after : Lexeme → Bool)
    → Complete r p between → ((a : A) → Complete (s a) (q a) after)
    → ((a : A) (b : B) (back rest : Left) → s a back b → Stops after rest → Stops between (back ++ rest))
    → Complete (rule.◌>>=◌ r s) (read.◌>>=◌ p q) after
Complete-then {A} {B} p q r s between after first second bridge = record { reads = all } where
  all : (used rest : Left) (b : B) → InTurn r s used b → Stops after rest → Unless (and_then (p (used ++ rest)) q) (Ok (b, rest))
  all used rest b h stops =
      let e : used ++ rest ≡ h.front ++ (h.back ++ rest) = ap (λ l. l ++ rest) h.is ∙ append_assoc h.front h.back rest in
      let P : Left → Type 0 = λ l. Unless (and_then (p l) q) (Ok (b, rest)) in
      subst P (sym e)
      (unless_then (p (h.front ++ (h.back ++ rest))) q h.value (h.back ++ rest) (Ok (b, rest))
      (first.reads h.front (h.back ++ rest) h.value h.first (bridge h.value b h.back rest h.second stops))
      ((second h.value).reads h.back rest b h.second stops))

-- each word of the rule begins with such a token
pub record StartsWith {A : Type 0} (r : Rule A) (first : Lexeme → Bool) : Type 0 where
  pub begins : (used rest : Left) (a : A) → r used a → next_is first (used ++ rest) ≡ true

pub Complete-choose : {A : Type 0} (first : Lexeme → Bool) (p q : Reader A) (r s : Rule A) (after : Lexeme → Bool) → Complete r p after → Complete s q after
    → StartsWith r first → ((used rest : Left) (a : A) → s used a → Stops after rest → Stops first (used ++ rest))
    → Complete (rule.◌or◌ r s) (read.choose first p q) after
Complete-choose {A} first p q r s after one other starts avoids = record { reads = all } where
  all : (used rest : Left) (a : A) → rule.◌or◌ r s used a → Stops after rest → Unless (read.choose first p q (used ++ rest)) (Ok (a, rest))
  all used rest a (inl h) stops =
      let P : Bool → Type 0 = λ b. Unless (cond b (p (used ++ rest)) (q (used ++ rest))) (Ok (a, rest)) in
      subst P (sym (starts.begins used rest a h)) (one.reads used rest a h stops)
  all used rest a (inr h) stops =
      let P : Bool → Type 0 = λ b. Unless (cond b (p (used ++ rest)) (q (used ++ rest))) (Ok (a, rest)) in
      subst P (sym (avoids used rest a h stops)) (other.reads used rest a h stops)

module _ {A : Type 0} (first : Lexeme → Bool) (p : Reader A) (r : Rule A) (between after : Lexeme → Bool) (item : Complete r p between)
    (starts : StartsWith r first)
    (goes : (l : Left) → next_is first l ≡ true → Stops between l)
    (ends : (l : Left) → Stops after l → Stops between l)
    (quits : (l : Left) → Stops after l → Stops first l) where
  pub between_items : (back rest : Left) (all : List A) → rule.many r back all → Stops after rest → Stops between (back ++ rest)
  between_items back rest [] h stops = subst (λ l. Stops between (l ++ rest)) (sym h) (ends rest stops)
  between_items back rest (a ∷ all) h stops =
      let e : back ++ rest ≡ h.0 ++ (h.1 ++ rest) = ap (λ l. l ++ rest) h.2 ∙ append_assoc h.0 h.1 rest in
      goes (back ++ rest) (ap (next_is first) e ∙ starts.begins h.0 (h.1 ++ rest) a h.3)

  many_reads : (n : ℕ) (used rest : Left) (all : List A) → rule.many r used all → Stops after rest
      → Unless (read.many n first p (used ++ rest)) (Ok (all, rest))
  unfolding read.many
  many_reads zero used rest all h stops = inr (record { rest = used ++ rest; is = refl })
  many_reads (suc n) used rest [] h stops =
      let next = λ (a : A). read.◌>>=◌ (read.many n first p) (λ more. read.pure (a ∷ more)) in
      let P : Left → Type 0 = λ l. Unless (read.choose first (read.◌>>=◌ p next) (read.pure []) (l ++ rest)) (Ok ([], rest)) in
      let Q : Bool → Type 0 = λ b. Unless (cond b (and_then (p rest) next) (Ok ([], rest))) (Ok ([], rest)) in
      subst P (sym h) (subst Q (sym (quits rest stops)) (inl refl))
  many_reads (suc n) used rest (a ∷ all) h stops =
      let next = λ (x : A). read.◌>>=◌ (read.many n first p) (λ more. read.pure (x ∷ more)) in
      let mid = h.1 ++ rest in
      let e : used ++ rest ≡ h.0 ++ mid = ap (λ l. l ++ rest) h.2 ∙ append_assoc h.0 h.1 rest in
      let P : Left → Type 0 = λ l. Unless (read.choose first (read.◌>>=◌ p next) (read.pure []) l) (Ok (a ∷ all, rest)) in
      let Q : Bool → Type 0 = λ b. Unless (cond b (and_then (p (h.0 ++ mid)) next) (Ok ([], h.0 ++ mid))) (Ok (a ∷ all, rest)) in
      subst P (sym e) (subst Q (sym (starts.begins h.0 mid a h.3))
      (unless_then (p (h.0 ++ mid)) next a mid (Ok (a ∷ all, rest)) (item.reads h.0 mid a h.3 (between_items h.1 rest all h.4 stops))
      (unless_then (read.many n first p mid) (λ more. read.pure (a ∷ more)) all rest (Ok (a ∷ all, rest)) (many_reads n h.1 rest all h.4 stops) (inl refl))))

  pub Complete-many : (n : ℕ) → Complete (rule.many r) (read.many n first p) after
  Complete-many n = record { reads = many_reads n }

pub Complete-placed : {A : Type 0} (p : Reader A) (r : Rule A) (after : Lexeme → Bool) → TakesSome r → Complete r p after
    → Complete (rule.placed r) (read.placed p) after
Complete-placed {A} p r after some complete = record { reads = all } where
  all : (used rest : Left) (a : ℕ × A) → rule.placed r used a → Stops after rest → Unless (read.placed p (used ++ rest)) (Ok (a, rest))
  all used rest a h stops =
      let e : place_of (used ++ rest) ≡ a.0 = place_of-front used rest (takes_some r used a.1 some h.0) ∙ sym h.1 in
      unless_then (p (used ++ rest)) (read.located (place_of (used ++ rest))) a.1 rest (Ok (a, rest)) (complete.reads used rest a.1 h.0 stops)
      (inl (ap (λ n. read.located n a.1 rest) e))

-- a rule that says less
pub Complete-narrower : {A : Type 0} (p : Reader A) (r s : Rule A) (after : Lexeme → Bool) → ((used : Left) (a : A) → s used a → r used a)
    → Complete r p after → Complete s p after
Complete-narrower p r s after narrower complete = record { reads = λ used rest a h stops. complete.reads used rest a (narrower used a h) stops }

-- ---- what was decided by some tokens is decided so whatever comes behind the next of them

pub record Agrees {A : Type 0} (p q : Reader A) : Type 0 where
  pub ok : (used rest more : Left) (t : Lexeme) (a : A) → p (used ++ t ∷ rest) ≡ Ok (a, t ∷ rest) → Unless (q (used ++ t ∷ more)) (Ok (a, t ∷ more))
  pub stuck : (used rest more : Left) (t : Lexeme) (why : Stop) → why ≢ Spent → p (used ++ t ∷ rest) ≡ Err (why, t ∷ rest)
      → Unless (q (used ++ t ∷ more)) (Err (why, t ∷ more))

agrees_at : {A : Type 0} (p q : Reader A) → Agrees p q → (used mid rest more : Left) (t : Lexeme) (a : A)
    → p (used ++ (mid ++ t ∷ rest)) ≡ Ok (a, mid ++ t ∷ rest) → Unless (q (used ++ (mid ++ t ∷ more))) (Ok (a, mid ++ t ∷ more))
agrees_at p q agrees used [] rest more t a e = agrees.ok used rest more t a e
agrees_at p q agrees used (h ∷ mid) rest more t a e = agrees.ok used (mid ++ t ∷ rest) (mid ++ t ∷ more) h a e

no_longer : (used rest : Left) (t : Lexeme) → used ++ t ∷ rest ≡ rest → ⊥
no_longer used rest t e = let n = ap length e in absurd (omega (arith, n, length-append used (t ∷ rest)))

none_before : (used rest : Left) → used ++ rest ≡ rest → used ≡ []
none_before used rest e = append_cancel_right used [] rest e

pub Agrees-pure : {A : Type 0} (a : A) → Agrees (read.pure a) (read.pure a)
Agrees-pure {A} a = record { ok = right; stuck = λ used rest more t why some e. cc } where
  right : (used rest more : Left) (t : Lexeme) (b : A) → read.pure a (used ++ t ∷ rest) ≡ Ok (b, t ∷ rest)
      → Unless (read.pure a (used ++ t ∷ more)) (Ok (b, t ∷ more))
  right used rest more t b e =
      let found = ok_value e in
      inl (ap (λ l. read.pure a (l ++ t ∷ more)) (none_before used (t ∷ rest) (ap (λ f. f.1) found)) ∙ ap (λ v. read.pure v (t ∷ more)) (ap (λ f. f.0) found))

pub Agrees-one : {A : Type 0} (f : Lexeme → Option A) → Agrees (read.one f) (read.one f)
unfolding read.one
Agrees-one {A} f = record { ok = right; stuck = wrong } where
  right : (used rest more : Left) (t : Lexeme) (a : A) → read.one f (used ++ t ∷ rest) ≡ Ok (a, t ∷ rest)
      → Unless (read.one f (used ++ t ∷ more)) (Ok (a, t ∷ more))
  right [] rest more t a e = absurd (no_longer [] rest t (sym (taken_ok t rest (t ∷ rest) a (f t) e).1))
  right (h ∷ used) rest more t a e =
      let k = taken_ok h (used ++ t ∷ rest) (t ∷ rest) a (f h) e in
      inl (ap (λ l. taken h (l ++ t ∷ more) (f h)) (none_before used (t ∷ rest) k.1) ∙ ap (taken h (t ∷ more)) k.0)

  refused : (t : Lexeme) (rest more : Left) (why : Stop) (o : Option A) → taken t rest o ≡ Err (why, t ∷ rest) → taken t more o ≡ Err (why, t ∷ more)
  refused t rest more why (Some a) e = cc
  refused t rest more why None e = ap (λ w. Err (w, t ∷ more)) (ap (λ x. x.0) (err_value e))

  wrong : (used rest more : Left) (t : Lexeme) (why : Stop) → why ≢ Spent → read.one f (used ++ t ∷ rest) ≡ Err (why, t ∷ rest)
      → Unless (read.one f (used ++ t ∷ more)) (Err (why, t ∷ more))
  wrong [] rest more t why some e = inl (refused t rest more why (f t) e)
  wrong (h ∷ used) rest more t why some e =
      let k = ap length (taken_err h (used ++ t ∷ rest) (t ∷ rest) why (f h) e).0 in
      absurd (omega (arith, k, length-append used (t ∷ rest)))

pub Agrees-then : {A B : Type 0} (p p' : Reader A) (q q' : A → Reader B) (r : Rule A) (s : A → Rule B)
    → Sound p r → ((a : A) → Sound (q a) (s a)) → Agrees p p' → ((a : A) → Agrees (q a) (q' a)) → Agrees (read.◌>>=◌ p q) (read.◌>>=◌ p' q')
Agrees-then {A} {B} p p' q q' r s sp sq ap_ aq = record { ok = right; stuck = wrong } where
  -- how the tokens fall apart
  seam : (used rest : Left) (t : Lexeme) (x y : Left) (mid : Left) → used ++ t ∷ rest ≡ x ++ mid → mid ≡ y ++ t ∷ rest → used ≡ x ++ y
  seam used rest t x y mid e f =
      append_cancel_right used (x ++ y) (t ∷ rest) (e ∙ ap (λ l. x ++ l) f ∙ sym (append_assoc x y (t ∷ rest)))

  first_part : (used rest more : Left) (t : Lexeme) (x y mid : Left) (a : A) → p (used ++ t ∷ rest) ≡ Ok (a, mid) → used ++ t ∷ rest ≡ x ++ mid
      → mid ≡ y ++ t ∷ rest
      → Unless (p' (x ++ (y ++ t ∷ more))) (Ok (a, y ++ t ∷ more))
  first_part used rest more t x y mid a was e f =
      agrees_at p p' ap_ x y rest more t a (sym (ap p (e ∙ ap (λ l. x ++ l) f)) ∙ was ∙ ap (λ l. Ok (a, l)) f)

  joined : (used rest more : Left) (t : Lexeme) (x y mid : Left) (a : A) (all : Outcome B) → p (used ++ t ∷ rest) ≡ Ok (a, mid)
      → used ++ t ∷ rest ≡ x ++ mid → mid ≡ y ++ t ∷ rest
      → Unless (q' a (y ++ t ∷ more)) all → Unless (and_then (p' (used ++ t ∷ more)) q') all
  joined used rest more t x y mid a all was e f second =
      let is : used ++ t ∷ more ≡ x ++ (y ++ t ∷ more) = ap (λ l. l ++ t ∷ more) (seam used rest t x y mid e f) ∙ append_assoc x y (t ∷ more) in
      let P : Left → Type 0 = λ l. Unless (and_then (p' l) q') all in
      subst P (sym is) (unless_then (p' (x ++ (y ++ t ∷ more))) q' a (y ++ t ∷ more) all (first_part used rest more t x y mid a was e f) second)

  right : (used rest more : Left) (t : Lexeme) (b : B) → and_then (p (used ++ t ∷ rest)) q ≡ Ok (b, t ∷ rest)
      → Unless (and_then (p' (used ++ t ∷ more)) q') (Ok (b, t ∷ more))
  right used rest more t b e =
      let k = and_then_ok (p (used ++ t ∷ rest)) q b (t ∷ rest) e in
      let x = sp.ok (used ++ t ∷ rest) k.mid k.value k.was in
      let y = (sq k.value).ok k.mid (t ∷ rest) b k.gives in
      joined used rest more t x.used y.used k.mid k.value (Ok (b, t ∷ more)) k.was x.is y.is
      ((aq k.value).ok y.used rest more t b (sym (ap (q k.value) y.is) ∙ k.gives))

  wrong : (used rest more : Left) (t : Lexeme) (why : Stop) → why ≢ Spent → and_then (p (used ++ t ∷ rest)) q ≡ Err (why, t ∷ rest)
      → Unless (and_then (p' (used ++ t ∷ more)) q') (Err (why, t ∷ more))
  wrong used rest more t why some e = cases (and_then_err (p (used ++ t ∷ rest)) q why (t ∷ rest) e) where
    cases : (p (used ++ t ∷ rest) ≡ Err (why, t ∷ rest)) ⊎ IsThen (p (used ++ t ∷ rest)) q (Err (why, t ∷ rest))
        → Unless (and_then (p' (used ++ t ∷ more)) q') (Err (why, t ∷ more))
    cases (inl h) = unless_stuck (p' (used ++ t ∷ more)) q' why (t ∷ more) (ap_.stuck used rest more t why some h)
    cases (inr k) =
        let x = sp.ok (used ++ t ∷ rest) k.mid k.value k.was in
        let y = (sq k.value).stuck k.mid (t ∷ rest) why k.gives in
        joined used rest more t x.used y.used k.mid k.value (Err (why, t ∷ more)) k.was x.is y.is
        ((aq k.value).stuck y.used rest more t why some (sym (ap (q k.value) y.is) ∙ k.gives))

next_is-same : (first : Lexeme → Bool) (used rest more : Left) (t : Lexeme) → next_is first (used ++ t ∷ rest) ≡ next_is first (used ++ t ∷ more)
next_is-same first [] rest more t = refl
next_is-same first (h ∷ used) rest more t = refl

place_of-same : (used rest more : Left) (t : Lexeme) → place_of (used ++ t ∷ rest) ≡ place_of (used ++ t ∷ more)
place_of-same [] rest more t = refl
place_of-same (h ∷ used) rest more t = refl

pub Agrees-choose : {A : Type 0} (first : Lexeme → Bool) (p p' q q' : Reader A) → Agrees p p' → Agrees q q'
    → Agrees (read.choose first p q) (read.choose first p' q')
Agrees-choose {A} first p p' q q' one other = record { ok = right; stuck = wrong } where
  by : (used rest more : Left) (t : Lexeme) (b : Bool) (all : Outcome A) → next_is first (used ++ t ∷ rest) ≡ b
      → Unless (cond b (p' (used ++ t ∷ more)) (q' (used ++ t ∷ more))) all → Unless (read.choose first p' q' (used ++ t ∷ more)) all
  by used rest more t b all e h =
      let P : Bool → Type 0 = λ x. Unless (cond x (p' (used ++ t ∷ more)) (q' (used ++ t ∷ more))) all in
      subst P (sym e ∙ next_is-same first used rest more t) h

  right : (used rest more : Left) (t : Lexeme) (a : A) → read.choose first p q (used ++ t ∷ rest) ≡ Ok (a, t ∷ rest)
      → Unless (read.choose first p' q' (used ++ t ∷ more)) (Ok (a, t ∷ more))
  right used rest more t a e = cases (chosen (next_is first (used ++ t ∷ rest)) (p (used ++ t ∷ rest)) (q (used ++ t ∷ rest)) (Ok (a, t ∷ rest)) e) where
    cases : ((next_is first (used ++ t ∷ rest) ≡ true) × (p (used ++ t ∷ rest) ≡ Ok (a, t ∷ rest)))
        ⊎ ((next_is first (used ++ t ∷ rest) ≡ false) × (q (used ++ t ∷ rest) ≡ Ok (a, t ∷ rest)))
        → Unless (read.choose first p' q' (used ++ t ∷ more)) (Ok (a, t ∷ more))
    cases (inl h) = by used rest more t true (Ok (a, t ∷ more)) h.0 (one.ok used rest more t a h.1)
    cases (inr h) = by used rest more t false (Ok (a, t ∷ more)) h.0 (other.ok used rest more t a h.1)

  wrong : (used rest more : Left) (t : Lexeme) (why : Stop) → why ≢ Spent → read.choose first p q (used ++ t ∷ rest) ≡ Err (why, t ∷ rest)
      → Unless (read.choose first p' q' (used ++ t ∷ more)) (Err (why, t ∷ more))
  wrong used rest more t why some e =
      cases (chosen (next_is first (used ++ t ∷ rest)) (p (used ++ t ∷ rest)) (q (used ++ t ∷ rest)) (Err (why, t ∷ rest)) e) where
        cases : ((next_is first (used ++ t ∷ rest) ≡ true) × (p (used ++ t ∷ rest) ≡ Err (why, t ∷ rest)))
            ⊎ ((next_is first (used ++ t ∷ rest) ≡ false) × (q (used ++ t ∷ rest) ≡ Err (why, t ∷ rest)))
            → Unless (read.choose first p' q' (used ++ t ∷ more)) (Err (why, t ∷ more))
        cases (inl h) = by used rest more t true (Err (why, t ∷ more)) h.0 (one.stuck used rest more t why some h.1)
        cases (inr h) = by used rest more t false (Err (why, t ∷ more)) h.0 (other.stuck used rest more t why some h.1)

pub Agrees-spent : {A : Type 0} (q : Reader A) → Agrees (read.stop Spent) q
Agrees-spent q = record { ok = λ used rest more t a e. cc; stuck = λ used rest more t why some e. absurd (some (sym (ap (λ x. x.0) (err_value e)))) }

pub Agrees-with_spent : {A : Type 0} (p : Reader A) → Agrees p (read.stop Spent)
Agrees-with_spent p = record {
  ok = λ used rest more t a e. inr (record { rest = used ++ t ∷ more; is = refl });
  stuck = λ used rest more t why some e. inr (record { rest = used ++ t ∷ more; is = refl });
}

pub Agrees-many : {A : Type 0} (n m : ℕ) (first : Lexeme → Bool) (p p' : Reader A) (r : Rule A) → Sound p r → Agrees p p'
    → Agrees (read.many n first p) (read.many m first p')
unfolding read.many
Agrees-many zero m first p p' r sound agrees = Agrees-spent (read.many m first p')
Agrees-many (suc n) zero first p p' r sound agrees = Agrees-with_spent (read.many (suc n) first p)
Agrees-many (suc n) (suc m) first p p' r sound agrees =
    Agrees-choose first _ _ _ _
    (Agrees-then p p' _ _ r _ sound (λ a. Sound-then (read.many n first p) _ (rule.many r) _ (Sound-many n first p r sound)
    (λ more. Sound-pure (a ∷ more))) agrees
    (λ a. Agrees-then (read.many n first p) (read.many m first p') _ _ (rule.many r) _ (Sound-many n first p r sound) (λ more. Sound-pure (a ∷ more))
    (Agrees-many n m first p p' r sound agrees) (λ more. Agrees-pure (a ∷ more))))
    (Agrees-pure [])

pub Agrees-placed : {A : Type 0} (p p' : Reader A) (r : Rule A) → Sound p r → Agrees p p' → Agrees (read.placed p) (read.placed p')
Agrees-placed {A} p p' r sound agrees = record { ok = right; stuck = wrong } where
  right : (used rest more : Left) (t : Lexeme) (a : ℕ × A) → read.placed p (used ++ t ∷ rest) ≡ Ok (a, t ∷ rest)
      → Unless (read.placed p' (used ++ t ∷ more)) (Ok (a, t ∷ more))
  right used rest more t a e =
      let k = and_then_ok (p (used ++ t ∷ rest)) (read.located (place_of (used ++ t ∷ rest))) a (t ∷ rest) e in
      let found = ok_value k.gives in
      let was : p (used ++ t ∷ rest) ≡ Ok (k.value, t ∷ rest) = k.was ∙ ap (λ l. Ok (k.value, l)) (ap (λ f. f.1) found) in
      unless_then (p' (used ++ t ∷ more)) (read.located (place_of (used ++ t ∷ more))) k.value (t ∷ more) (Ok (a, t ∷ more))
      (agrees.ok used rest more t k.value was)
      (inl (ap (λ n. read.located n k.value (t ∷ more)) (sym (place_of-same used rest more t)) ∙ ap (λ v. Ok (v, t ∷ more)) (ap (λ f. f.0) found)))

  wrong : (used rest more : Left) (t : Lexeme) (why : Stop) → why ≢ Spent → read.placed p (used ++ t ∷ rest) ≡ Err (why, t ∷ rest)
      → Unless (read.placed p' (used ++ t ∷ more)) (Err (why, t ∷ more))
  wrong used rest more t why some e = cases (and_then_err (p (used ++ t ∷ rest)) (read.located (place_of (used ++ t ∷ rest))) why (t ∷ rest) e) where
    cases : (p (used ++ t ∷ rest) ≡ Err (why, t ∷ rest))
        ⊎ IsThen (p (used ++ t ∷ rest)) (read.located (place_of (used ++ t ∷ rest))) (Err (why, t ∷ rest))
        → Unless (read.placed p' (used ++ t ∷ more)) (Err (why, t ∷ more))
    cases (inl h) = unless_stuck (p' (used ++ t ∷ more)) (read.located (place_of (used ++ t ∷ more))) why (t ∷ more) (agrees.stuck used rest more t why some h)
    cases (inr k) = let bad = k.gives in cc

-- ---- a reader's number is spent only when as many tokens are

pub record Lasts {A : Type 0} (n : ℕ) (p : Reader A) : Type 0 where
  pub spent : (ts rest : Left) → p ts ≡ Err (Spent, rest) → n + length rest ≤ length ts

pub Lasts-pure : {A : Type 0} (n : ℕ) (a : A) → Lasts n (read.pure a)
Lasts-pure n a = record { spent = λ ts rest e. cc }

pub Lasts-one : {A : Type 0} (n : ℕ) (f : Lexeme → Option A) → Lasts n (read.one f)
unfolding read.one
Lasts-one {A} n f = record { spent = never } where
  never : (ts rest : Left) → read.one f ts ≡ Err (Spent, rest) → n + length rest ≤ length ts
  never [] rest e = let bad = ap (λ x. x.0) (err_value e) in cc
  never (t ∷ ts) rest e = let bad = (taken_err t ts rest Spent (f t) e).1 in cc

pub Lasts-choose : {A : Type 0} (n : ℕ) (first : Lexeme → Bool) (p q : Reader A) → Lasts n p → Lasts n q → Lasts n (read.choose first p q)
Lasts-choose {A} n first p q one other = record { spent = all } where
  all : (ts rest : Left) → read.choose first p q ts ≡ Err (Spent, rest) → n + length rest ≤ length ts
  all ts rest e = cases (chosen (next_is first ts) (p ts) (q ts) (Err (Spent, rest)) e) where
    cases : ((next_is first ts ≡ true) × (p ts ≡ Err (Spent, rest))) ⊎ ((next_is first ts ≡ false) × (q ts ≡ Err (Spent, rest))) → n + length rest ≤ length ts
    cases (inl h) = one.spent ts rest h.1
    cases (inr h) = other.spent ts rest h.1

pub Lasts-then : {A B : Type 0} (n : ℕ) (p : Reader A) (q : A → Reader B) (r : Rule A) → Sound p r → Lasts n p → ((a : A) → Lasts n (q a))
    → Lasts n (read.◌>>=◌ p q)
Lasts-then {A} {B} n p q r sound first second = record { spent = all } where
  all : (ts rest : Left) → and_then (p ts) q ≡ Err (Spent, rest) → n + length rest ≤ length ts
  all ts rest e = cases (and_then_err (p ts) q Spent rest e) where
    cases : (p ts ≡ Err (Spent, rest)) ⊎ IsThen (p ts) q (Err (Spent, rest)) → n + length rest ≤ length ts
    cases (inl h) = first.spent ts rest h
    cases (inr k) =
        let x = sound.ok ts k.mid k.value k.was in
        let later = (second k.value).spent k.mid rest k.gives in
        omega (arith, later, ap length x.is, length-append x.used k.mid)

-- the first takes at least one token, so the second may last for one less
pub Lasts-after : {A B : Type 0} (n : ℕ) (p : Reader A) (q : A → Reader B) (r : Rule A) → TakesSome r → Sound p r → Lasts (suc n) p
    → ((a : A) → Lasts n (q a)) → Lasts (suc n) (read.◌>>=◌ p q)
Lasts-after {A} {B} n p q r some sound first second = record { spent = all } where
  longer : (used : Left) → (used ≡ [] → ⊥) → 0 < length used
  longer [] h = absurd (h refl)
  longer (t ∷ used) h = omega arith

  all : (ts rest : Left) → and_then (p ts) q ≡ Err (Spent, rest) → suc n + length rest ≤ length ts
  all ts rest e = cases (and_then_err (p ts) q Spent rest e) where
    cases : (p ts ≡ Err (Spent, rest)) ⊎ IsThen (p ts) q (Err (Spent, rest)) → suc n + length rest ≤ length ts
    cases (inl h) = first.spent ts rest h
    cases (inr k) =
        let x = sound.ok ts k.mid k.value k.was in
        let later = (second k.value).spent k.mid rest k.gives in
        let taken = longer x.used (takes_some r x.used k.value some x.holds) in
        omega (arith, later, taken, ap length x.is, length-append x.used k.mid)

pub Lasts-fewer : {A : Type 0} (n m : ℕ) (p : Reader A) → m ≤ n → Lasts n p → Lasts m p
Lasts-fewer n m p h lasts = record { spent = λ ts rest e. let k = lasts.spent ts rest e in omega (arith, h, k) }

pub Lasts-many : {A : Type 0} (n : ℕ) (first : Lexeme → Bool) (p : Reader A) (r : Rule A) → TakesSome r → Sound p r → Lasts n p → Lasts n (read.many n first p)
unfolding read.many
Lasts-many zero first p r some sound lasts = record { spent = λ ts rest e. let k = ap length (ap (λ x. x.1) (err_value e)) in omega (arith, k) }
Lasts-many (suc n) first p r some sound lasts =
    Lasts-choose (suc n) first _ _
    (Lasts-after n p _ r some sound lasts (λ a. Lasts-then n (read.many n first p) _ (rule.many r) (Sound-many n first p r sound)
    (Lasts-many n first p r some sound (Lasts-fewer (suc n) n p (omega arith) lasts)) (λ more. Lasts-pure n (a ∷ more))))
    (Lasts-pure (suc n) [])

pub Lasts-placed : {A : Type 0} (n : ℕ) (p : Reader A) (r : Rule A) → Sound p r → Lasts n p → Lasts n (read.placed p)
Lasts-placed n p r sound lasts = record { spent = all } where
  all : (ts rest : Left) → read.placed p ts ≡ Err (Spent, rest) → n + length rest ≤ length ts
  all ts rest e = cases (and_then_err (p ts) (read.located (place_of ts)) Spent rest e) where
    cases : (p ts ≡ Err (Spent, rest)) ⊎ IsThen (p ts) (read.located (place_of ts)) (Err (Spent, rest)) → n + length rest ≤ length ts
    cases (inl h) = lasts.spent ts rest h
    cases (inr k) = let bad = k.gives in cc
