-- A token begins and ends at a character.
use Rattle.std.proofs.Common.{◌≡◌, ℕ, ◌+◌, ◌-◌, ◌<◌, Bool, true, false, ◌&&◌, ◌||◌, List, [], ◌∷◌, length, drop, get_or, length-take, length-drop, refl, sym, ◌∙◌, ap, subst, arith}
use Rattle.std.specs.Prelude.{nat_le, ◌==◌, slice_range}
use Rattle.std.specs.Char.{is_ascii_digit}
use Rattle.std.specs.List.{list_all}
use Rattle.std.specs.Str.{IsUtf8, IsCharBoundary}
use Rattle.std.proofs.lemmas.Bool.Decides.{nat_tests}
use Rattle.std.proofs.lemmas.List.{get_or-take, get_or-drop}
use Rattle.std.proofs.lemmas.List.Sums.{AllPass-from_list_all}
use Rattle.std.proofs.lemmas.Str.{IsCharBoundary-before_ascii, IsCharBoundary-after_ascii}
use Rattle.cep_token.specs.declared.token.Token.{Token}
use Rattle.cep_token.specs.declared.token.TokenKind.{TokenKind}
use Rattle.cep_token.specs.declared.token.TokenKind.TheVariants as kind
use Rattle.cep_token.specs.Piece.{is_single, is_pair}
use Rattle.cep_token.specs.Form.{is_word_byte, has_form}
use Rattle.cep_token.specs.Within.{IsWithin}
use Rattle.cep_reading.proofs.Starts.{and_true}

-- ---- bytes of tokens are ASCII at both ends

word_byte_low : (b : ℕ) → is_word_byte b ≡ true → b < 128
word_byte_low b e = grind (arith, nat_tests)

digit_low : (b : ℕ) → is_ascii_digit b ≡ true → b < 128
digit_low b e = grind (arith, nat_tests)

single_low : (b : ℕ) → is_single b ≡ true → b < 128
single_low b e = grind (arith, nat_tests)

pair_low : (b c : ℕ) → is_pair b c ≡ true → (b < 128) × (c < 128)
pair_low b c e = (grind (arith, nat_tests), grind (arith, nat_tests))

equal : (a b : ℕ) → (a == b) ≡ true → a ≡ b
equal a b e = grind (arith, nat_tests)

passes_at : (p : ℕ → Bool) (z : List ℕ) (i : ℕ) → list_all p z ≡ true → i < length z → p (get_or z i 0) ≡ true
passes_at p z i e lt = AllPass-from_list_all p z e i 0 lt

record AtEnds (z : List ℕ) : Type 0 where
  first : get_or z 0 0 < 128
  last : get_or z (length z - 1) 0 < 128

by_bytes : (p : ℕ → Bool) (b : ℕ) (z : List ℕ) → ((c : ℕ) → p c ≡ true → c < 128) → list_all p (b ∷ z) ≡ true → AtEnds (b ∷ z)
by_bytes p b z low e = record { first = low b (passes_at p (b ∷ z) 0 e (omega arith)); last = low _ (passes_at p (b ∷ z) (length (b ∷ z) - 1) e (omega arith)) }

symbol_ends : (z : List ℕ) (one two : Bool) → (length z == 1) && is_single (get_or z 0 0) ≡ one
    → (length z == 2) && is_pair (get_or z 0 0) (get_or z 1 0) ≡ two → one || two ≡ true → AtEnds z
symbol_ends z true two e f h =
    let k = and_true (length z == 1) (is_single (get_or z 0 0)) e in
    let low = single_low (get_or z 0 0) k.1 in
    let len : length z ≡ 1 = equal (length z) 1 k.0 in
    record { first = low; last = ends len low } where
      ends : length z ≡ 1 → get_or z 0 0 < 128 → get_or z (length z - 1) 0 < 128
      ends len low = subst (λ n. get_or z (n - 1) 0 < 128) (sym len) low
symbol_ends z false true e f h =
    let k = and_true (length z == 2) (is_pair (get_or z 0 0) (get_or z 1 0)) f in
    let low = pair_low (get_or z 0 0) (get_or z 1 0) k.1 in
    let len : length z ≡ 2 = equal (length z) 2 k.0 in
    record { first = low.0; last = ends len low.1 } where
      ends : length z ≡ 2 → get_or z 1 0 < 128 → get_or z (length z - 1) 0 < 128
      ends len low = subst (λ n. get_or z (n - 1) 0 < 128) (sym len) low
symbol_ends z false false e f h = cc

abbrev is_long : List ℕ → Bool
is_long z = nat_le 2 (length z)

abbrev quoted : List ℕ → Bool
quoted z = (get_or z 0 0 == 34) && (get_or z (length z - 1) 0 == 34)

literal_ends : (z : List ℕ) → quoted z ≡ true → AtEnds z
literal_ends z e =
    let k = and_true (get_or z 0 0 == 34) (get_or z (length z - 1) 0 == 34) e in
    let first : get_or z 0 0 ≡ 34 = equal (get_or z 0 0) 34 k.0 in
    let last : get_or z (length z - 1) 0 ≡ 34 = equal (get_or z (length z - 1) 0) 34 k.1 in
    record { first = omega arith; last = omega arith }

at_ends : (k : TokenKind) (z : List ℕ) → has_form k z ≡ true → AtEnds z
at_ends kind.Word [] e = cc
at_ends kind.Word (b ∷ z) e = by_bytes is_word_byte b z word_byte_low (and_true _ _ e).1
at_ends kind.Number [] e = cc
at_ends kind.Number (b ∷ z) e = by_bytes is_ascii_digit b z digit_low (and_true _ _ (and_true _ _ e).1).0
at_ends kind.Literal z e = literal_ends z (and_true (is_long z) (quoted z) e).1
at_ends kind.Symbol z e = symbol_ends z _ _ refl refl e

-- ---- where a token stands

module _ (text : List ℕ) (token : Token) (h : IsWithin text token) where
  abbrev slice : List ℕ
  slice = slice_range text token.start token.end

  len_is : length slice ≡ token.end - token.start
  len_is = simp (length-take, length-drop) (omega (arith, h.some, h.fits))

  at_slice : (i : ℕ) → i < token.end - token.start → get_or slice i 0 ≡ get_or text (token.start + i) 0
  at_slice i lt = get_or-take (token.end - token.start) (drop token.start text) i 0 lt ∙ get_or-drop token.start text i 0

  pub starts_at : IsUtf8 text → IsCharBoundary text token.start
  starts_at u =
      let some = h.some in
      let fits = h.fits in
      let e : get_or slice 0 0 ≡ get_or text token.start 0 = at_slice 0 (omega arith) ∙ ap (λ n. get_or text n 0) (omega arith) in
      let low = (at_ends token.kind slice h.formed).first in
      IsCharBoundary-before_ascii text token.start (omega arith) (omega arith)

  pub ends_at : IsUtf8 text → IsCharBoundary text token.end
  ends_at u =
      let some = h.some in
      let fits = h.fits in
      let i : length slice - 1 ≡ token.end - token.start - 1 = ap (λ n. n - 1) len_is in
      let e : get_or slice (length slice - 1) 0 ≡ get_or text (token.start + (token.end - token.start - 1)) 0 = ap (λ n. get_or slice n 0) i ∙ at_slice (token.end - token.start - 1) (omega arith) in
      let place : token.start + (token.end - token.start - 1) ≡ token.end - 1 = omega arith in
      let low = (at_ends token.kind slice h.formed).last in
      let before : token.end - 1 + 1 ≡ token.end = omega arith in
      let last : get_or text (token.end - 1) 0 < 128 = subst (λ n. n < 128) (e ∙ ap (λ n. get_or text n 0) place) low in
      subst (IsCharBoundary text) before (IsCharBoundary-after_ascii text (token.end - 1) u (omega arith) last)
