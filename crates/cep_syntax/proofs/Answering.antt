-- What the reader answers of the tokens of a whole text.
use Rattle.std.proofs.Common.{◌≡◌, ℕ, suc, ◌<◌, inl, inr, [], ◌∷◌, ◌++◌, length, refl, sym, ◌∙◌, ap, subst, arith, append_assoc, append-nil}
use Rattle.std.specs.Prelude.{Ok, Err, ◌≢◌}
use Rattle.std.proofs.lemmas.List.{append_cancel_right}
use Rattle.cep_reading.specs.declared.stop.Stop.{Stop}
use Rattle.cep_reading.specs.declared.stop.Stop.TheVariants.{NoMemory, Expected, Greedy, Spent}
use Rattle.cep_reading.specs.Lexeme.{Lexeme}
use Rattle.cep_reading.specs.Reading.{Left, Outcome}
use Rattle.cep_reading.proofs.Laws.{Unless, ok_value, err_value}
use Rattle.cep_expression.specs.Grammar.{expression_within}
use Rattle.cep_syntax.specs.declared.file.File.{File}
use Rattle.cep_syntax.specs.Grammar.{IsFile, BeginsFile, MayModify}
use Rattle.cep_syntax.specs.Grammar as grammar
use Rattle.cep_syntax.specs.Reader.{file}
use Rattle.cep_syntax.specs.Reads.{AreFile, StopsAt, EndsEarly, AreRead, IsGreedy, IsGreedyAt}
use Rattle.cep_syntax.specs.Answer.{fault_of}
use Rattle.cep_syntax.proofs.Patterns.{exact-file, warns-file}

-- the number of tokens and one more is enough
pub never_spent : (n : ℕ) (ts rest : Left) → length ts < n → file n ts ≡ Err (Spent, rest) → ⊥
never_spent n ts rest h e = let k = (exact-file {n = n}).lasts.spent ts rest e in absurd (omega (arith, h, k))

surely : (n : ℕ) (ts : Left) (o : Outcome File) → length ts < n → Unless (file n ts) o → file n ts ≡ o
surely n ts o h (inl e) = e
surely n ts o h (inr s) = absurd (never_spent n ts s.rest h s.is)

-- a file is read, by each number that is enough
reads : (ts : Left) (f : File) (n : ℕ) → length ts < n → IsFile ts f → file n ts ≡ Ok (f, [])
reads ts f n h is =
    let P : Left → Type 0 = λ l. Unless (file n l) (Ok (f, [])) in
    surely n ts (Ok (f, [])) h (subst P (append-nil ts) (((exact-file {n = n}).complete is.0).reads ts [] f is.1 refl))

expected_is_not_greedy : (l m : Left) → ◌≡◌ {A = Outcome File} (Err (Expected, l)) (Err (Greedy, m)) → ⊥
expected_is_not_greedy l m e = let bad = ap (λ x. x.0) (err_value e) in cc

module _ (n : ℕ) (ts : Left) (enough : length ts < n) where
  pub are_file : (f : File) → file n ts ≡ Ok (f, []) → AreFile ts f
  are_file f e =
      let x = (exact-file {n = n}).sound.ok ts [] f e in
      let used_is : x.used ≡ ts = sym (x.is ∙ append-nil x.used) in
      record {
        is = (suc n, subst (λ l. grammar.file (expression_within (suc n)) l f) used_is x.holds);
        only = λ g h. let k = reads ts g n enough h in ap (λ p. p.0) (ok_value (sym k ∙ e));
      }

  -- what is read with a token behind it is no front of a file with that token
  front_of : (f : File) (t : Lexeme) (used rest : Left) → ts ≡ used ++ t ∷ rest → file n ts ≡ Ok (f, t ∷ rest) → BeginsFile (used ++ t ∷ []) → ⊥
  front_of f t used rest is e b =
      let more = b.0 in
      let all = used ++ t ∷ more in
      let m = suc (length all) in
      let whole : file m all ≡ Ok (b.1, []) = reads all b.1 m (omega arith) (subst (λ l. IsFile l b.1) (append_assoc used (t ∷ []) more) b.2) in
      let again : file m all ≡ Ok (f, t ∷ more) = surely m all (Ok (f, t ∷ more)) (omega arith) (((exact-file {n = n}).agrees m).ok used rest more t f (ap (file n) (sym is) ∙ e)) in
      let bad = ap (λ p. p.1) (ok_value (sym whole ∙ again)) in
      cc

  stuck_at : (why : Stop) (t : Lexeme) (used rest : Left) → ts ≡ used ++ t ∷ rest → file n ts ≡ Err (why, t ∷ rest) → BeginsFile (used ++ t ∷ []) → ⊥
  stuck_at why t used rest is e b =
      let more = b.0 in
      let all = used ++ t ∷ more in
      let m = suc (length all) in
      let some : why ≢ Spent = λ h. never_spent n ts (t ∷ rest) enough (e ∙ ap (λ w. Err (w, t ∷ rest)) h) in
      let whole : file m all ≡ Ok (b.1, []) = reads all b.1 m (omega arith) (subst (λ l. IsFile l b.1) (append_assoc used (t ∷ []) more) b.2) in
      let again : file m all ≡ Err (why, t ∷ more) = surely m all (Err (why, t ∷ more)) (omega arith) (((exact-file {n = n}).agrees m).stuck used rest more t why some (ap (file n) (sym is) ∙ e)) in
      let bad = sym whole ∙ again in
      cc

  -- a file was read, and a token is behind it
  pub stops_behind : (f : File) (t : Lexeme) (rest : Left) → file n ts ≡ Ok (f, t ∷ rest) → (before : Left) × StopsAt ts before t × (ts ≡ before ++ t ∷ rest)
  stops_behind f t rest e =
      let x = (exact-file {n = n}).sound.ok ts (t ∷ rest) f e in (
        x.used,
        record {
          behind = rest;
          is = x.is;
          begins = ([], f, (suc n, subst (λ l. grammar.file (expression_within (suc n)) l f) (sym (append-nil x.used)) x.holds));
          no_more = front_of f t x.used rest x.is e;
        },
        x.is,
      )

  pub stops_at : (why : Stop) (t : Lexeme) (rest : Left) → file n ts ≡ Err (why, t ∷ rest) → (before : Left) × StopsAt ts before t × (ts ≡ before ++ t ∷ rest)
  stops_at why t rest e =
      let x = (exact-file {n = n}).sound.stuck ts (t ∷ rest) why e in (
        x.used,
        record {
          behind = rest;
          is = x.is;
          begins = (x.holds.more, x.holds.value, (suc n, x.holds.holds));
          no_more = stuck_at why t x.used rest x.is e;
        },
        x.is,
      )

  pub ends_early : (why : Stop) → file n ts ≡ Err (why, []) → EndsEarly ts
  ends_early why e =
      let x = (exact-file {n = n}).sound.stuck ts [] why e in
      let used_is : x.used ≡ ts = sym (x.is ∙ append-nil x.used) in
      record {
        begins = subst BeginsFile used_is (x.holds.more, x.holds.value, (suc n, x.holds.holds));
        none = λ f h. let bad = sym (reads ts f n enough h) ∙ e in cc;
      }

  -- where the reader stops for another reason, `greedy` stands in no modifier's place
  warned : (before rest : Left) (t : Lexeme) → ts ≡ before ++ t ∷ rest → IsGreedy before t → file n ts ≡ Err (Greedy, t ∷ rest)
  warned before rest t is h =
      surely n ts (Err (Greedy, t ∷ rest)) enough
      (subst (λ l. Unless (file n l) (Err (Greedy, t ∷ rest))) (sym is) ((warns-file {n = n}).given h.1.0 before rest t h.1.1 h.0))

  not_greedy : (o : Outcome File) (before rest : Left) (t : Lexeme) → ts ≡ before ++ t ∷ rest → file n ts ≡ o → (o ≡ Err (Greedy, t ∷ rest) → ⊥)
      → IsGreedy before t → ⊥
  not_greedy o before rest t is e other h = other (sym e ∙ warned before rest t is h)

  is_greedy_at : (t : Lexeme) (rest : Left) → file n ts ≡ Err (Greedy, t ∷ rest) → IsGreedyAt ts t.place
  is_greedy_at t rest e =
      let x = (warns-file {n = n}).found ts (t ∷ rest) e in
      let s = stops_at Greedy t rest e in
      let same : x.0.used ≡ s.0 = same_front x.0.used s.0 (t ∷ rest) (sym x.0.is ∙ s.2) in
      (s.0, t, s.1, (x.1, subst MayModify same (suc n, x.0.holds)), refl) where
        same_front : (xs ys zs : Left) → xs ++ zs ≡ ys ++ zs → xs ≡ ys
        same_front xs ys zs h = append_cancel_right xs ys zs h

  greedy_not_last : file n ts ≡ Err (Greedy, []) → ⊥
  greedy_not_last e = let bad = ((warns-file {n = n}).found ts [] e).1 in cc

  pub answers_stop : (why : Stop) (left : Left) (end : ℕ) → (why ≢ NoMemory → file n ts ≡ Err (why, left)) → AreRead ts end (Err (fault_of why left end))
  answers_stop NoMemory left end h = tt
  answers_stop Greedy [] end h = absurd (greedy_not_last (h (λ x. cc)))
  answers_stop Greedy (t ∷ l) end h = inr (refl, is_greedy_at t l (h (λ x. cc)))
  answers_stop Expected [] end h = inl (refl, inr (ends_early Expected (h (λ x. cc)), refl))
  answers_stop Expected (t ∷ l) end h =
      let e = h (λ x. cc) in
      let s = stops_at Expected t l e in
      inl (refl, inl (s.0, t, s.1, not_greedy (Err (Expected, t ∷ l)) s.0 l t s.2 e (expected_is_not_greedy (t ∷ l) (t ∷ l)), refl))
  answers_stop Spent left end h = absurd (never_spent n ts left enough (h (λ x. cc)))

  pub answers_behind : (f : File) (left : Left) (end : ℕ) → (left ≡ [] → ⊥) → file n ts ≡ Ok (f, left) → AreRead ts end (Err (fault_of Expected left end))
  answers_behind f [] end some e = absurd (some refl)
  answers_behind f (t ∷ l) end some e =
      let s = stops_behind f t l e in
      inl (refl, inl (s.0, t, s.1, not_greedy (Ok (f, t ∷ l)) s.0 l t s.2 e (λ x. cc), refl))
