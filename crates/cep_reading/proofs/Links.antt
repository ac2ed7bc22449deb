-- A chain of links behind one sign, which something else may end: the reader against the rule.
use Rattle.std.proofs.Common.{◌≡◌, ℕ, zero, suc, Bool, inl, inr, List, [], ◌∷◌, ◌++◌, length, refl, sym, ◌∙◌, ap, subst, arith, append_assoc, append-nil}
use Rattle.std.specs.Prelude.{Option, Some, None, fold}
use Rattle.cep_reading.specs.Lexeme.{Lexeme}
use Rattle.cep_reading.specs.Terminal.{only, symbol}
use Rattle.cep_reading.specs.Reading.{Left, Reader, next_is}
use Rattle.cep_reading.specs.Reading as read
use Rattle.cep_reading.specs.Rule.{Rule, InTurn, Builds, many_by}
use Rattle.cep_reading.specs.Rule as rule
use Rattle.cep_reading.proofs.Laws.{Sound, Sound-pure, Sound-one, Sound-then, Sound-choose, Sound-wider, Word, Stops, StartsWith, Complete, Complete-pure, Complete-one, Complete-then, Complete-choose, Complete-narrower, Agrees, Agrees-pure, Agrees-one, Agrees-then, Agrees-choose, Agrees-spent, Agrees-with_spent, Lasts, Lasts-pure, Lasts-one, Lasts-then, Lasts-after, Lasts-choose, Lasts-fewer, err_value}
use Rattle.cep_reading.proofs.Starts.{Avoids, starts-then, starts-symbol, takes-one}

module _ {S A E : Type 0} (lead : List ℕ) (ends : Lexeme → Bool) (next : S → A → S) (re : Rule E) where
  -- the links, and one that ends them
  abbrev pub Linked : (S → Rule A) → S → Rule (S × Option E)
  Linked r s =
      rule.◌>>=◌ (Builds next (λ x. rule.◌>>◌ (rule.sign lead) (r x)) s)
      (λ b. rule.◌>>=◌ (rule.maybe (rule.◌>>◌ (rule.sign lead) re)) (λ w. rule.pure (b, w)))

  -- what may stand behind a sign
  abbrev pub behind : (S → Rule A) → S → Rule (S × Option E)
  behind r s = rule.◌or◌ (rule.◌>>=◌ re (λ x. rule.pure (s, Some x))) (rule.◌>>=◌ (r s) (λ a. Linked r (next s a)))

  abbrev pub turn : (S → Rule A) → S → Rule (S × Option E)
  turn r s = rule.◌or◌ (rule.◌>>◌ (rule.sign lead) (behind r s)) (rule.pure (s, None))

  module _ (r : S → Rule A) where
    no_items : (s : S) → Builds next (λ x. rule.◌>>◌ (rule.sign lead) (r x)) s [] s
    no_items s = record { items = []; holds = refl; is = refl }

    ended : (s : S) (w : Option E) (used : Left) (v : S × Option E) → rule.maybe (rule.◌>>◌ (rule.sign lead) re) used w → v ≡ (s, w) → Linked r s used v
    ended s w used v h e = record {
      front = [];
      back = used;
      value = s;
      is = refl;
      first = no_items s;
      second = record { front = used; back = []; value = w; is = sym (append-nil used); first = h; second = (refl, e) };
    }

    turn_linked : (s : S) (used : Left) (v : S × Option E) → turn r s used v → Linked r s used v
    turn_linked s used v (inr h) = ended s None used v (inr (h.0, refl)) h.1
    turn_linked s used v (inl h) = cases h.second where
      cases : behind r s h.back v → Linked r s used v
      cases (inl k) =
          ended s (Some k.value) used v
          (inl (record {
            front = used;
            back = [];
            value = k.value;
            is = sym (append-nil used);
            first = record {
              front = h.front;
              back = h.back;
              value = h.value;
              is = h.is;
              first = h.first;
              second = subst (λ l. re l k.value) (sym (k.is ∙ ap (λ l. k.front ++ l) k.second.0 ∙ append-nil k.front)) k.first;
            };
            second = (refl, refl);
          })) k.second.1
      cases (inr k) =
          let later = k.second in
          let front = h.front ++ k.front in
          record {
            front = front ++ later.front;
            back = later.back;
            value = later.value;
            is = h.is ∙ ap (λ l. h.front ++ l) (k.is ∙ ap (λ l. k.front ++ l) later.is) ∙ simp append_assoc;
            first = record {
              items = k.value ∷ later.first.items;
              holds = (
                front,
                later.front,
                refl,
                record { front = h.front; back = k.front; value = h.value; is = refl; first = h.first; second = k.first },
                later.first.holds,
              );
              is = later.first.is;
            };
            second = later.second;
          }

    linked_turn : (s : S) (used : Left) (v : S × Option E) → Linked r s used v → turn r s used v
    linked_turn s used v h = cases h.first.items h.first.holds h.first.is where
      maybe_ended : S → rule.maybe (rule.◌>>◌ (rule.sign lead) re) h.second.front h.second.value → used ≡ h.second.front → v ≡ (s, h.second.value)
          → turn r s used v
      maybe_ended x (inr k) is v_is = inr (is ∙ k.0, v_is ∙ ap (λ w. (s, w)) k.1)
      maybe_ended x (inl k) is v_is =
          let one = k.first in
          let front_is : k.front ≡ h.second.front = sym (k.is ∙ ap (λ l. k.front ++ l) k.second.0 ∙ append-nil k.front) in
          inl (record {
            front = one.front;
            back = one.back;
            value = one.value;
            is = is ∙ sym front_is ∙ one.is;
            first = one.first;
            second =
                inl (record {
                  front = one.back;
                  back = [];
                  value = k.value;
                  is = sym (append-nil one.back);
                  first = one.second;
                  second =
                      (refl, v_is ∙ ap (λ w. (s, w)) k.second.1);
                });
          })

      back_is : h.back ≡ h.second.front
      back_is = h.second.is ∙ ap (λ l. h.second.front ++ l) h.second.second.0 ∙ append-nil h.second.front

      cases : (items : List A) → many_by next (λ x. rule.◌>>◌ (rule.sign lead) (r x)) s h.front items → h.value ≡ fold next s items → turn r s used v
      cases [] holds is =
          maybe_ended s h.second.first (h.is ∙ ap (λ l. l ++ h.back) holds ∙ back_is) (h.second.second.1 ∙ ap (λ x. (x, h.second.value)) is)
      cases (a ∷ items) holds is =
          let one = holds.3 in
          inl (record {
            front = one.front;
            back = one.back ++ (holds.1 ++ h.back);
            value = one.value;
            is = h.is ∙ ap (λ l. l ++ h.back) (holds.2 ∙ ap (λ l. l ++ holds.1) one.is) ∙ simp append_assoc;
            first = one.first;
            second = inr (record {
              front = one.back;
              back = holds.1 ++ h.back;
              value = a;
              is = refl;
              first = one.second;
              second =
                  record {
                    front = holds.1;
                    back = h.back;
                    value = h.value;
                    is = refl;
                    first =
                        record { items = items; holds = holds.4; is = is };
                    second = h.second;
                  };
            });
          })

  module _ (r : S → Rule A) (p : S → Reader A) (e : Reader E) (mark : Lexeme) (marks : only (symbol lead) mark ≡ Some tt)
      (item : (s : S) → Sound (p s) (r s)) (exit : Sound e re) where
    sound-lead : Sound (read.sign lead) (rule.sign lead)
    sound-lead = Sound-one (only (symbol lead)) mark tt marks

    abbrev word-linked : (s : S) → Word (Linked r s)
    word-linked s = record { used = []; value = (s, None); holds = ended r s None [] (s, None) (inr (refl, refl)) refl }

    pub Sound-links : (n : ℕ) (s : S) → Sound (read.links n lead ends next p e s) (Linked r s)
    unfolding read.links
    Sound-links zero s = record {
      ok = λ ts rest a x. cc;
      stuck =
          λ ts rest why x. record {
            used = [];
            is = ap (λ y. y.1) (err_value x);
            holds =
                record { more = []; value = (s, None); holds = (word-linked s).holds };
          };
      some = word-linked s;
    }
    Sound-links (suc n) s =
        Sound-wider (read.links (suc n) lead ends next p e s) (turn r s) (Linked r s) (turn_linked r s)
        (Sound-choose (symbol lead) _ _ _ _
        (Sound-then _ _ _ _ sound-lead (λ _.
        Sound-choose ends _ _ _ _
        (Sound-then _ _ _ _ exit (λ x. Sound-pure (s, Some x)))
        (Sound-then _ _ _ _ (item s) (λ a. Sound-links n (next s a)))))
        (Sound-pure (s, None)))

    sound-behind : (n : ℕ) (s : S)
        → Sound (read.choose ends (read.◌>>=◌ e (λ x. read.pure (s, Some x)))
        (read.◌>>=◌ (p s) (λ a. read.links n lead ends next p e (next s a)))) (behind r s)
    sound-behind n s =
        Sound-choose ends _ _ _ _
        (Sound-then _ _ _ _ exit (λ x. Sound-pure (s, Some x)))
        (Sound-then _ _ _ _ (item s) (λ a. Sound-links n (next s a)))

    pub Agrees-links : (q : S → Reader A) (f : Reader E) → ((s : S) → Agrees (p s) (q s)) → Agrees e f → (n m : ℕ) (s : S)
        → Agrees (read.links n lead ends next p e s) (read.links m lead ends next q f s)
    unfolding read.links
    Agrees-links q f same same_exit zero m s = Agrees-spent (read.links m lead ends next q f s)
    Agrees-links q f same same_exit (suc n) zero s = Agrees-with_spent (read.links (suc n) lead ends next p e s)
    Agrees-links q f same same_exit (suc n) (suc m) s =
        Agrees-choose (symbol lead) _ _ _ _
        (Agrees-then _ _ _ _ _ _ sound-lead (λ _. sound-behind n s) (Agrees-one (only (symbol lead)))
        (λ _.
        Agrees-choose ends _ _ _ _
        (Agrees-then e f _ _ re _ exit (λ x. Sound-pure (s, Some x)) same_exit (λ x. Agrees-pure (s, Some x)))
        (Agrees-then (p s) (q s) _ _ (r s) _ (item s) (λ a. Sound-links n (next s a)) (same s) (λ a. Agrees-links q f same same_exit n m (next s a)))))
        (Agrees-pure (s, None))

    pub Lasts-links : (n : ℕ) → ((s : S) → Lasts n (p s)) → Lasts n e → (s : S) → Lasts n (read.links n lead ends next p e s)
    unfolding read.links
    Lasts-links zero lasts ending s = record { spent = λ ts rest x. let k = ap length (ap (λ y. y.1) (err_value x)) in omega (arith, k) }
    Lasts-links (suc n) lasts ending s =
        Lasts-choose (suc n) (symbol lead) _ _
        (Lasts-after n _ _ _ (takes-one (only (symbol lead))) sound-lead (Lasts-one (suc n) (only (symbol lead)))
        (λ _.
        Lasts-choose n ends _ _
        (Lasts-then n e _ re exit (Lasts-fewer (suc n) n e (omega arith) ending) (λ x. Lasts-pure n (s, Some x)))
        (Lasts-then n (p s) _ (r s) (item s) (Lasts-fewer (suc n) n (p s) (omega arith) (lasts s))
        (λ a. Lasts-links n (λ t. Lasts-fewer (suc n) n (p t) (omega arith) (lasts t)) (Lasts-fewer (suc n) n e (omega arith) ending) (next s a)))))
        (Lasts-pure (suc n) (s, None))

  module _ (r : S → Rule A) (p : S → Reader A) (e : Reader E) (nothing : Lexeme → Bool) (none : (l : Left) → Stops nothing l)
      (item : (s : S) → Complete (r s) (p s) nothing) (exit : Complete re e (symbol lead)) (starts : StartsWith re ends)
      (avoids : (s : S) → Avoids (r s) ends) where
    pub Complete-links : (n : ℕ) (s : S) → Complete (Linked r s) (read.links n lead ends next p e s) (symbol lead)
    unfolding read.links
    Complete-links zero s = record { reads = λ used rest a h stops. inr (record { rest = used ++ rest; is = refl }) }
    Complete-links (suc n) s =
        Complete-narrower (read.links (suc n) lead ends next p e s) (turn r s) (Linked r s) (symbol lead) (linked_turn r s)
        (Complete-choose (symbol lead) _ _ _ _ (symbol lead)
        (Complete-then _ _ _ _ nothing (symbol lead) (Complete-one (only (symbol lead)) nothing)
        (λ _.
        Complete-choose ends _ _ _ _ (symbol lead)
        (Complete-then e _ re _ (symbol lead) (symbol lead) exit (λ x. Complete-pure (s, Some x) (symbol lead))
        (λ a b back rest h stops. subst (λ l. Stops (symbol lead) (l ++ rest)) (sym h.0) stops))
        (Complete-then (p s) _ (r s) _ nothing (symbol lead) (item s) (λ a. Complete-links n (next s a)) (λ a b back rest h stops. none (back ++ rest)))
        (starts-then re _ ends starts)
        (λ used rest a h stops. (avoids-later s).stops used rest a h))
        (λ a b back rest h stops. none (back ++ rest)))
        (Complete-pure (s, None) (symbol lead))
        (starts-then _ _ (symbol lead) (starts-symbol lead))
        (λ used rest a h stops. subst (λ l. Stops (symbol lead) (l ++ rest)) (sym h.0) stops)) where
          avoids-later : (x : S) → Avoids (rule.◌>>=◌ (r x) (λ a. Linked r (next x a))) ends
          avoids-later x = record {
            stops = λ used rest b h.
                let is : used ++ rest ≡ h.front ++ (h.back ++ rest) = ap (λ l. l ++ rest) h.is ∙ append_assoc h.front h.back rest in
                ap (next_is ends) is ∙ (avoids x).stops h.front (h.back ++ rest) h.value h.first;
          }
