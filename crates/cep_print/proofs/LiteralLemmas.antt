-- The escapes of a text are text.
use Rattle.std.proofs.Common.{◌≡◌, ℕ, zero, suc, ◌≤◌, ◌<◌, Bool, true, false, ◌&&◌, ◌||◌, cond, ◌⊎◌, inl, inr, List, [], ◌∷◌, ◌++◌, length, get_or, refl, sym, subst, arith, append-nil}
use Rattle.std.specs.Prelude.{◌==◌, slice_index}
use Rattle.std.specs.Str.{IsUtf8}
use Rattle.std.proofs.lemmas.Bool.Decides.{nat_tests}
use Rattle.std.proofs.lemmas.List.Concat.{flat_map-append}
use Rattle.std.proofs.lemmas.Str.{IsUtf8-append, IsUtf8-nil, IsUtf8-encode, encode_ascii, inside_one, IsUtf8-from_ascii}
use lib.Utf8.{encode, encodes, scalar, scalars}
use Rattle.cep_print.specs.Literal.{Text, escaped_byte, escaped}

both_were : (a b : Bool) → (a && b) ≡ true → (a ≡ true) × (b ≡ true)
both_were true b e = (refl, e)
both_were false b e = cc

plain : (b : ℕ) → 128 ≤ b → (b == 34 || b == 92) ≡ false
plain b high = grind (arith, nat_tests)

-- the bytes of a character that is not ASCII are kept
kept : (xs : Text) → ((k : ℕ) → k < length xs → 128 ≤ get_or xs k 0) → escaped xs ≡ xs
kept [] h = refl
kept (x ∷ xs) h =
    let e = plain x (h 0 (omega arith)) in
    let later = kept xs (λ k lt. h (suc k) (omega arith)) in
    λ i. cond (e i) (92 ∷ x ∷ []) (x ∷ []) ++ later i

one_byte : (b : ℕ) → b < 128 → IsUtf8 (b ∷ [])
one_byte b low = IsUtf8-from_ascii (b ∷ []) (λ k. at k) where
  at : (k : ℕ) → slice_index (b ∷ []) k < 128
  at zero = low
  at (suc k) = omega arith

low_or_high : (n : ℕ) → (n < 128) ⊎ (128 ≤ n)
low_or_high n = grind arith

high_byte : (c : ℕ) → 128 ≤ c → (k : ℕ) → k < length (encode c) → 128 ≤ get_or (encode c) k 0
high_byte c h k lt = at (low_or_high (get_or (encode c) k 0)) where
  at : (get_or (encode c) k 0 < 128) ⊎ (128 ≤ get_or (encode c) k 0) → 128 ≤ get_or (encode c) k 0
  at (inl l) =
      let same : c ≡ get_or (encode c) k 0 = inside_one c [] (encode c) k (sym (append-nil (encode c))) lt l in
      absurd (omega arith)
  at (inr l) = l

low_byte : (c : ℕ) (b : Bool) → c < 128 → IsUtf8 (cond b (92 ∷ c ∷ []) (c ∷ []) ++ [])
low_byte c true h = IsUtf8-append (92 ∷ []) (c ∷ []) (one_byte 92 (omega arith)) (one_byte c h)
low_byte c false h = one_byte c h

one_char : (c : ℕ) → scalar c ≡ true → (c < 128) ⊎ (128 ≤ c) → IsUtf8 (escaped (encode c))
one_char c s (inl h) = subst (λ l. IsUtf8 (escaped l)) (sym (encode_ascii c h)) (low_byte c (c == 34 || c == 92) h)
one_char c s (inr h) = subst IsUtf8 (sym (kept (encode c) (high_byte c h))) (IsUtf8-encode c s)

escaped_chars : (cs : List ℕ) → scalars cs ≡ true → IsUtf8 (escaped (encodes cs))
escaped_chars [] e = IsUtf8-nil
escaped_chars (c ∷ cs) e =
    let parts = both_were (scalar c) (scalars cs) e in
    subst IsUtf8 (sym (flat_map-append escaped_byte (encode c) (encodes cs)))
    (IsUtf8-append (escaped (encode c)) (escaped (encodes cs)) (one_char c parts.0 (low_or_high c)) (escaped_chars cs parts.1))

pub escaped_utf8 : (z : Text) → IsUtf8 z → IsUtf8 (escaped z)
escaped_utf8 z u = subst (λ l. IsUtf8 (escaped l)) u.1.1 (escaped_chars u.0 u.1.0)
