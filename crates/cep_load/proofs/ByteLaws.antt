-- The bytes of generated lines, and how a line is cut into its fields again.
use Rattle.std.proofs.Common.{◌≡◌, ◌==◌, ◌<◌, ◌≤◌, ◌%◌, ◌^◌, ◌++◌, ◌∷◌, ◌∙◌, [], ℕ, zero, suc, List, Bool, true, false, decimal, map, refl, ap, arith, drop}
use Rattle.std.specs.Char.{is_ascii_digit}
use Rattle.std.specs.List.{count_by, join_with_byte, list_all, list_any, slice_split}
use Rattle.std.specs.Str.{IsAscii, all_ascii_digits}
use Rattle.std.specs.Str.Parse.{AllDigits}
use Rattle.std.proofs.lemmas.Bool.{and_from, and_parts, ne_eqb, or_from}
use Rattle.std.proofs.lemmas.Bool.Decides.{nat_tests}
use Rattle.std.proofs.lemmas.Fmt.{decimal_is_IsNumeral}
use Rattle.std.proofs.lemmas.List.Sums.{sum_by-cons}
use Rattle.std.proofs.lemmas.Nat.{mod_below}
use Rattle.std.proofs.lemmas.Str.Ascii.{IsAscii-cons, IsAscii-nil}
use Rattle.std.proofs.lemmas.Str.Parse.{digit_from_value}
use Rattle.cep_event.specs.declared.event.Field.{Field}
use Rattle.cep_event.specs.declared.value.Kind.{Kind}
use Rattle.cep_event.specs.declared.value.Kind.TheVariants as kind
use Rattle.cep_token.specs.Form.{is_word, is_word_byte}
use Rattle.cep_token.specs.Piece.{begins_word}
use Rattle.cep_load.specs.Draw.{drawn, step}
use Rattle.cep_load.specs.Records.{value_by, values_by}
use Rattle.cep_load.specs.Lines.{text_of}

-- Each byte is from the least one to `z`. From `0` on there is no comma and no quote, and from `,` on no quote and no end of a line.
abbrev pub AreWithin : ℕ → List ℕ → Type 0
AreWithin least [] = Unit {0}
AreWithin least (b ∷ bytes) = (least ≤ b) × (b ≤ 122) × AreWithin least bytes

abbrev pub ArePlain : List (List ℕ) → Type 0
ArePlain [] = Unit {0}
ArePlain (field ∷ fields) = AreWithin 48 field × ArePlain fields

within-append : (least : ℕ) (xs ys : List ℕ) → AreWithin least xs → AreWithin least ys → AreWithin least (xs ++ ys)
within-append least [] ys hx hy = hy
within-append least (x ∷ xs) ys hx hy = (hx.0, hx.1, within-append least xs ys hx.2 hy)

within-less : (xs : List ℕ) → AreWithin 48 xs → AreWithin 44 xs
within-less [] h = tt
within-less (x ∷ xs) h = (omega (arith, h.0), h.1, within-less xs h.2)

pub within-drop : (least k : ℕ) (xs : List ℕ) → AreWithin least xs → AreWithin least (drop k xs)
within-drop least zero xs h = h
within-drop least (suc k) [] h = tt
within-drop least (suc k) (x ∷ xs) h = within-drop least k xs h.2

-- fields and commas
pub within-joined : (first : List ℕ) (fields : List (List ℕ)) → AreWithin 48 first → ArePlain fields → AreWithin 44 (join_with_byte 44 (first ∷ fields))
within-joined first [] h hs = within-less first h
within-joined first (field ∷ fields) h hs =
    within-append 44 first (44 ∷ join_with_byte 44 (field ∷ fields)) (within-less first h)
    (omega arith, omega arith, within-joined field fields hs.0 hs.1)

pub ascii-within : (xs : List ℕ) → AreWithin 44 xs → IsAscii xs
ascii-within [] h = IsAscii-nil
ascii-within (x ∷ xs) h = IsAscii-cons x xs (omega (arith, h.1)) (ascii-within xs h.2)

-- no byte passes a test that none from `,` to `z` passes
pub none-within : (p : ℕ → Bool) → ((b : ℕ) → 44 ≤ b → b ≤ 122 → p b ≡ false) → (xs : List ℕ) → AreWithin 44 xs → list_any p xs ≡ false
none-within p other [] h = refl
none-within p other (x ∷ xs) h = or_from _ _ (other x h.0 h.1) (none-within p other xs h.2)

pub count-within : (p : ℕ → Bool) → ((b : ℕ) → 44 ≤ b → b ≤ 122 → p b ≡ false) → (xs : List ℕ) → AreWithin 44 xs → count_by p xs ≡ 0
count-within p other [] h = refl
count-within p other (x ∷ xs) h = sum_by-cons _ x xs ∙ rw (other x h.0 h.1, count-within p other xs h.2) refl

-- ---- the fields of a line

abbrev is_comma : ℕ → Bool
is_comma b = b == 44

split-last : (field : List ℕ) → AreWithin 48 field → slice_split is_comma field ≡ field ∷ []
split-last [] h = refl
split-last (b ∷ bytes) h = let other : (b == 44) ≡ false = ne_eqb b 44 (λ e. omega (arith, e, h.0)) in rw (other, split-last bytes h.2) refl

split-front : (field after : List ℕ) → AreWithin 48 field → slice_split is_comma (field ++ 44 ∷ after) ≡ field ∷ slice_split is_comma after
split-front [] after h = refl
split-front (b ∷ bytes) after h =
    let other : (b == 44) ≡ false = ne_eqb b 44 (λ e. omega (arith, e, h.0)) in
    rw (other, split-front bytes after h.2) refl

pub split-joined : (first : List ℕ) (fields : List (List ℕ)) → AreWithin 48 first → ArePlain fields → slice_split is_comma (join_with_byte 44 (first ∷ fields)) ≡ first ∷ fields
split-joined first [] h hs = split-last first h
split-joined first (field ∷ fields) h hs =
    split-front first (join_with_byte 44 (field ∷ fields)) h ∙ ap (λ (t : List (List ℕ)). first ∷ t) (split-joined field fields hs.0 hs.1)

-- a line begins as its first field does
pub joined-first : (b : ℕ) (bytes : List ℕ) (fields : List (List ℕ)) → join_with_byte 44 ((b ∷ bytes) ∷ fields) ≡ b ∷ join_with_byte 44 (bytes ∷ fields)
joined-first b bytes [] = refl
joined-first b bytes (field ∷ fields) = refl

-- ---- numbers, values and names

within-digits : (ds : List ℕ) → AllDigits 10 ds → AreWithin 48 ds
within-digits [] h = tt
within-digits (c ∷ cs) h = let in_range = digit_from_value c h.0 in (in_range.0, omega (arith, in_range.1), within-digits cs h.1)

digits-test : (ds : List ℕ) → AllDigits 10 ds → all_ascii_digits ds ≡ true
digits-test [] h = refl
digits-test (c ∷ cs) h =
    let in_range = digit_from_value c h.0 in
    let low = in_range.0 in
    let high = in_range.1 in
    let digit : is_ascii_digit c ≡ true = grind (arith, nat_tests) in
    and_from _ _ digit (digits-test cs h.1)

pub decimal-within : (n : ℕ) → n < 2 ^ 63 → AreWithin 48 (decimal n)
decimal-within n small = within-digits (decimal n) (decimal_is_IsNumeral n (omega arith)).0.1

pub decimal-digits : (n : ℕ) → n < 2 ^ 63 → all_ascii_digits (decimal n) ≡ true
decimal-digits n small = digits-test (decimal n) (decimal_is_IsNumeral n (omega arith)).0.1

value-within : (k : Kind) (draw : ℕ) → AreWithin 48 (text_of (value_by k draw))
value-within kind.Int draw = decimal-within (draw % 1000) (omega (arith, mod_below draw 1000 (omega arith)))
value-within kind.Text draw = (omega arith, omega arith, decimal-within (draw % 8) (omega (arith, mod_below draw 8 (omega arith))))

pub values-plain : (fields : List Field) (x : ℕ) → ArePlain (map text_of (values_by fields x))
values-plain [] x = tt
values-plain (field ∷ fields) x = (value-within field.kind (drawn x), values-plain fields (step x))

word-byte : (b : ℕ) → is_word_byte b ≡ true → (48 ≤ b) × (b ≤ 122)
word-byte b h = (grind (arith, nat_tests), grind (arith, nat_tests))

word-within : (z : List ℕ) → list_all is_word_byte z ≡ true → AreWithin 48 z
word-within [] h = tt
word-within (b ∷ bytes) h =
    let both = and_parts _ _ h in
    let byte = word-byte b both.0 in
    (byte.0, byte.1, word-within bytes both.1)

-- a Word has a first byte, and it is a letter or `_`
pub record IsLed (z : List ℕ) : Type 0 where
  pub first : ℕ
  pub rest : List ℕ
  pub is : z ≡ first ∷ rest
  pub above : 65 ≤ first
  pub within : AreWithin 48 z

led-byte : (b : ℕ) → begins_word b ≡ true → 65 ≤ b
led-byte b h = grind (arith, nat_tests)

pub word-led : (z : List ℕ) → is_word z ≡ true → IsLed z
word-led [] h = cc h
word-led (b ∷ bytes) h =
    let both = and_parts _ _ h in
    record { first = b; rest = bytes; is = refl; above = led-byte b both.0; within = word-within (b ∷ bytes) both.1 }
