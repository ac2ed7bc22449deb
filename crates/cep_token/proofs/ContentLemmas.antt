-- The content of a literal is text, as what stands between its quotes is.
use Rattle.std.proofs.Common.{◌≡◌, ℕ, zero, suc, ◌-◌, ◌≤◌, ◌<◌, Bool, true, false, ◌&&◌, cond, ◌⊎◌, inl, inr, List, [], ◌∷◌, ◌++◌, length, take, drop, get_or, refl, sym, ◌∙◌, ap, subst, arith, append_assoc}
use Rattle.std.specs.Prelude.{◌==◌, nat_le, slice_index}
use Rattle.std.specs.Str.{IsUtf8, IsCharBoundary}
use Rattle.std.proofs.lemmas.Bool.Decides.{nat_tests}
use Rattle.std.proofs.lemmas.Str.{IsUtf8-append, IsUtf8-nil, IsUtf8-encode, encode_ascii, inside_one, IsUtf8-from_ascii, IsCharBoundary-before_ascii, IsCharBoundary-after_ascii, len_utf8_bounds, length-encode}
use lib.Utf8.{encode, encodes, scalar, scalars}
use Rattle.cep_token.specs.Piece.{Text}
use Rattle.cep_token.specs.Form.{is_literal}
use Rattle.cep_token.specs.Content.{inside, unescaped_from}

both_were : (a b : Bool) → (a && b) ≡ true → (a ≡ true) × (b ≡ true)
both_were true b e = (refl, e)
both_were false b e = cc

-- the bytes of a character that is not ASCII are kept
kept : (xs rest : Text) → ((k : ℕ) → k < length xs → 128 ≤ get_or xs k 0) → unescaped_from false (xs ++ rest) ≡ xs ++ unescaped_from false rest
kept [] rest h = refl
kept (x ∷ xs) rest h =
    let high : 128 ≤ x = h 0 (omega arith) in
    ap (λ b. cond b (unescaped_from true (xs ++ rest)) (x ∷ unescaped_from false (xs ++ rest))) (no_backslash x high)
    ∙ ap (λ l. x ∷ l) (kept xs rest (λ k lt. h (suc k) (omega arith))) where
      no_backslash : (b : ℕ) → 128 ≤ b → (b == 92) ≡ false
      no_backslash b high = grind (arith, nat_tests)

kept_escaped : (xs rest : Text) → 0 < length xs → ((k : ℕ) → k < length xs → 128 ≤ get_or xs k 0)
    → unescaped_from true (xs ++ rest) ≡ xs ++ unescaped_from false rest
kept_escaped [] rest some h = absurd (omega arith)
kept_escaped (x ∷ xs) rest some h = ap (λ l. x ∷ l) (kept xs rest (λ k lt. h (suc k) (omega arith)))

kept_after : (escaped : Bool) (xs rest : Text) → 0 < length xs → ((k : ℕ) → k < length xs → 128 ≤ get_or xs k 0)
    → unescaped_from escaped (xs ++ rest) ≡ xs ++ unescaped_from false rest
kept_after true xs rest some h = kept_escaped xs rest some h
kept_after false xs rest some h = kept xs rest h

one_byte : (b : ℕ) → b < 128 → IsUtf8 (b ∷ [])
one_byte b low = IsUtf8-from_ascii (b ∷ []) (λ k. at k) where
  at : (k : ℕ) → slice_index (b ∷ []) k < 128
  at zero = low
  at (suc k) = omega arith

append-none : (xs : Text) → xs ++ [] ≡ xs
append-none [] = refl
append-none (x ∷ xs) = ap (λ l. x ∷ l) (append-none xs)

low_or_high : (n : ℕ) → (n < 128) ⊎ (128 ≤ n)
low_or_high n = grind arith

high_byte : (c : ℕ) → 128 ≤ c → (k : ℕ) → k < length (encode c) → 128 ≤ get_or (encode c) k 0
high_byte c h k lt = at (low_or_high (get_or (encode c) k 0)) where
  at : (get_or (encode c) k 0 < 128) ⊎ (128 ≤ get_or (encode c) k 0) → 128 ≤ get_or (encode c) k 0
  at (inl l) =
      let same : c ≡ get_or (encode c) k 0 = inside_one c [] (encode c) k (sym (append-none (encode c))) lt l in
      absurd (omega arith)
  at (inr l) = l

-- a character before the rest of a text
module _ (c : ℕ) (rest : Text) (later : (escaped : Bool) → IsUtf8 (unescaped_from escaped rest)) where
  low : (escaped backslash : Bool) → c < 128 → (c == 92) ≡ backslash → IsUtf8 (unescaped_from escaped (c ∷ rest))
  low true b h k = IsUtf8-append (c ∷ []) (unescaped_from false rest) (one_byte c h) (later false)
  low false true h k = subst (λ d. IsUtf8 (cond d (unescaped_from true rest) (c ∷ unescaped_from false rest))) (sym k) (later true)
  low false false h k =
      subst (λ d. IsUtf8 (cond d (unescaped_from true rest) (c ∷ unescaped_from false rest))) (sym k)
      (IsUtf8-append (c ∷ []) (unescaped_from false rest) (one_byte c h) (later false))

  one_char : scalar c ≡ true → (escaped : Bool) → (c < 128) ⊎ (128 ≤ c) → IsUtf8 (unescaped_from escaped (encode c ++ rest))
  one_char s escaped (inl h) = subst (λ l. IsUtf8 (unescaped_from escaped (l ++ rest))) (sym (encode_ascii c h)) (low escaped (c == 92) h refl)
  one_char s escaped (inr h) =
      let some : 0 < length (encode c) = omega (arith, length-encode c, (len_utf8_bounds c).0) in
      subst IsUtf8 (sym (kept_after escaped (encode c) rest some (high_byte c h)))
      (IsUtf8-append (encode c) (unescaped_from false rest) (IsUtf8-encode c s) (later false))

unescaped_chars : (cs : List ℕ) → scalars cs ≡ true → (escaped : Bool) → IsUtf8 (unescaped_from escaped (encodes cs))
unescaped_chars [] e escaped = IsUtf8-nil
unescaped_chars (c ∷ cs) e escaped =
    let parts = both_were (scalar c) (scalars cs) e in
    one_char c (encodes cs) (unescaped_chars cs parts.1) parts.0 escaped (low_or_high c)

pub unescaped_utf8 : (z : Text) → IsUtf8 z → IsUtf8 (unescaped_from false z)
unescaped_utf8 z u = subst (λ l. IsUtf8 (unescaped_from false l)) u.1.1 (unescaped_chars u.0 u.1.0 false)

-- ---- where a literal may be cut

literal_parts : (z : Text) → is_literal z ≡ true → (2 ≤ length z) × (get_or z 0 0 ≡ 34) × (get_or z (length z - 1) 0 ≡ 34)
literal_parts z e =
    let a = both_were _ _ e in
    let b = both_were _ _ a.1 in
    (at_least (length z) a.0, equal (get_or z 0 0) b.0, equal (get_or z (length z - 1) 0) b.1) where
      at_least : (n : ℕ) → nat_le 2 n ≡ true → 2 ≤ n
      at_least n h = grind (arith, nat_tests)

      equal : (n : ℕ) → (n == 34) ≡ true → n ≡ 34
      equal n h = grind (arith, nat_tests)

pub literal_len : (z : Text) → is_literal z ≡ true → 2 ≤ length z
literal_len z e = (literal_parts z e).0

pub after_open : (z : Text) → IsUtf8 z → is_literal z ≡ true → IsCharBoundary z 1
after_open z u e =
    let p = literal_parts z e in
    let two = p.0 in
    let first = p.1 in
    IsCharBoundary-after_ascii z 0 u (omega arith) (omega arith)

pub before_close : (z : Text) → IsUtf8 z → is_literal z ≡ true → IsCharBoundary z (length z - 1)
before_close z u e =
    let p = literal_parts z e in
    let two = p.0 in
    let last = p.2 in
    IsCharBoundary-before_ascii z (length z - 1) (omega arith) (omega arith)

pub inside_is : (z : Text) → 2 ≤ length z → take (length z - 1 - 1) (drop 1 z) ≡ inside z
inside_is z h = let n : length z - 1 - 1 ≡ length z - 2 = omega arith in ap (λ m. take m (drop 1 z)) n

-- ---- the loop

pub copies_byte : (found : Text) (escaped : Bool) (b : ℕ) (rest all : Text) → ((b == 92) ≡ false) ⊎ (escaped ≡ true)
    → found ++ unescaped_from escaped (b ∷ rest) ≡ all → (found ++ b ∷ []) ++ unescaped_from false rest ≡ all
copies_byte found true b rest all h e = append_assoc found (b ∷ []) (unescaped_from false rest) ∙ e
copies_byte found false b rest all (inl h) e =
    append_assoc found (b ∷ []) (unescaped_from false rest)
    ∙ ap (λ d. found ++ cond d (unescaped_from true rest) (b ∷ unescaped_from false rest)) (sym h) ∙ e
copies_byte found false b rest all (inr h) e = cc

pub drops_backslash : (found : Text) (b : ℕ) (rest all : Text) → (b == 92) ≡ true
    → found ++ unescaped_from false (b ∷ rest) ≡ all → found ++ unescaped_from true rest ≡ all
drops_backslash found b rest all h e = ap (λ d. found ++ cond d (unescaped_from true rest) (b ∷ unescaped_from false rest)) (sym h) ∙ e
