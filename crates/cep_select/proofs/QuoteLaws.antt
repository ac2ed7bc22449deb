-- Which texts need no quotes, and what quotes do to the others.
use Rattle.std.proofs.Common.{◌≡◌, ◌<◌, ◌≤◌, ◌/◌, ◌%◌, ◌+◌, ◌++◌, ◌∷◌, ◌∙◌, [], ℕ, zero, suc, List, Bool, refl, sym, ap, arith, true, false, append_assoc, inl, inr, eqb, length, take, get_or}
use Rattle.std.specs.Prelude.{◌||◌, ℤ, pos, negsuc, decimal}
use Rattle.std.specs.Fmt.{digit_glyph, digits, digits_onto, signed_decimal}
use Rattle.std.proofs.lemmas.Bool.{cases_Bool}
use Rattle.std.proofs.lemmas.Bool.Decides.{nat_tests}
use Rattle.std.proofs.lemmas.List.{append-nil, take_more}
use Rattle.csv.specs.Writing.{default_writer, escaped, needs_byte, needs_quotes}
use Rattle.cep_event.specs.declared.event.Event.{Event}
use Rattle.cep_select.specs.Output.{rows_text}
use Rattle.cep_select.specs.Pieces.{next_field, opened}

or-assoc : (a b c : Bool) → (a || (b || c)) ≡ ((a || b) || c)
or-assoc false b c = refl
or-assoc true b c = refl

or-none : (a b : Bool) → a ≡ false → b ≡ false → (a || b) ≡ false
or-none false b x y = y
or-none true b x y = cc x

or-left : (a b : Bool) → (a || b) ≡ false → a ≡ false
or-left false b e = refl
or-left true b e = cc e

or-right : (a b : Bool) → (a || b) ≡ false → b ≡ false
or-right false b e = e
or-right true b e = cc e

-- a text needs quotes where one of its two parts does
pub needs-append : (xs ys : List ℕ) → needs_quotes default_writer (xs ++ ys) ≡ (needs_quotes default_writer xs || needs_quotes default_writer ys)
needs-append [] ys = refl
needs-append (x ∷ xs) ys =
    ap (λ (b : Bool). needs_byte default_writer x || b) (needs-append xs ys)
    ∙ or-assoc (needs_byte default_writer x) (needs_quotes default_writer xs) (needs_quotes default_writer ys)

plain-both : (xs ys : List ℕ) → needs_quotes default_writer xs ≡ false → needs_quotes default_writer ys ≡ false → needs_quotes default_writer (xs ++ ys) ≡ false
plain-both xs ys x y = needs-append xs ys ∙ or-none _ _ x y

-- ---- numbers

plain-byte : (b : ℕ) → 48 ≤ b → b ≤ 57 → needs_byte default_writer b ≡ false
plain-byte b low high = grind (arith, nat_tests)

glyph-low : (d : ℕ) → d < 10 → 48 ≤ digit_glyph false d
glyph-low d h = grind (arith, nat_tests)

glyph-high : (d : ℕ) → d < 10 → digit_glyph false d ≤ 57
glyph-high d h = grind (arith, nat_tests)

plain-glyph : (n : ℕ) → needs_byte default_writer (digit_glyph false (n % 10)) ≡ false
plain-glyph n =
    let small : n % 10 < 10 = omega arith in
    plain-byte (digit_glyph false (n % 10)) (glyph-low (n % 10) small) (glyph-high (n % 10) small)

plain-digits : (k n : ℕ) (acc : List ℕ) → needs_quotes default_writer acc ≡ false → needs_quotes default_writer (digits_onto k 10 false n acc) ≡ false
plain-digits zero n acc h = h
plain-digits (suc k) n acc h =
    let more = or-none (needs_byte default_writer (digit_glyph false (n % 10))) (needs_quotes default_writer acc) (plain-glyph n) h in
    elim (cases_Bool (eqb (n / 10) 0)) [
      | inl last ↦ rw last more
      | inr other ↦ rw other (plain-digits k (n / 10) (digit_glyph false (n % 10) ∷ acc) more)
    ]

pub plain-decimal : (n : ℕ) → needs_quotes default_writer (decimal n) ≡ false
unfolding digits
plain-decimal n = plain-digits 64 n [] refl

pub plain-signed : (z : ℤ) → needs_quotes default_writer (signed_decimal z) ≡ false
plain-signed (pos n) = plain-decimal n
plain-signed (negsuc n) = plain-decimal (suc n)

pub plain-rows : (events : List Event) → needs_quotes default_writer (rows_text events) ≡ false
plain-rows [] = refl
plain-rows (event ∷ []) = plain-decimal event.row
plain-rows (event ∷ next ∷ events) =
    plain-both (decimal event.row) (32 ∷ rows_text (next ∷ events)) (plain-decimal event.row) (plain-rows (next ∷ events))

-- ---- quotes

pub escaped-append : (xs ys : List ℕ) → escaped default_writer (xs ++ ys) ≡ escaped default_writer xs ++ escaped default_writer ys
unfolding escaped
escaped-append [] ys = refl
escaped-append (b ∷ xs) ys = elim (cases_Bool (eqb b 34)) [
  | inl quote ↦ rw quote (ap (λ (t : List ℕ). 34 ∷ b ∷ t) (escaped-append xs ys))
  | inr other ↦ rw other (ap (λ (t : List ℕ). b ∷ t) (escaped-append xs ys))
]

no-quote : (b : ℕ) → needs_byte default_writer b ≡ false → eqb b 34 ≡ false
no-quote b h = grind (arith, nat_tests)

pub escaped-plain : (xs : List ℕ) → needs_quotes default_writer xs ≡ false → escaped default_writer xs ≡ xs
unfolding escaped
escaped-plain [] h = refl
escaped-plain (b ∷ xs) h =
    rw (no-quote b (or-left (needs_byte default_writer b) (needs_quotes default_writer xs) h))
    (ap (λ (t : List ℕ). b ∷ t) (escaped-plain xs (or-right (needs_byte default_writer b) (needs_quotes default_writer xs) h)))

-- a field that needs no quotes
pub next_field-plain : (field : List ℕ) → needs_quotes default_writer field ≡ false → next_field field ≡ opened false field
next_field-plain field h = rw h refl

-- and one that does
pub next_field-quoted : (field : List ℕ) → needs_quotes default_writer field ≡ true → next_field field ≡ opened true field ++ 34 ∷ []
next_field-quoted field h = rw h refl

-- one byte more
pub escaped-more : (base text new bytes : List ℕ) (i : ℕ) → i < length bytes → text ≡ base ++ escaped default_writer (take i bytes)
    → new ≡ text ++ escaped default_writer (get_or bytes i 0 ∷ []) → new ≡ base ++ escaped default_writer (take (i + 1) bytes)
escaped-more base text new bytes i here so_far pushed =
    let byte = get_or bytes i 0 ∷ [] in
    pushed ∙ ap (λ (t : List ℕ). t ++ escaped default_writer byte) so_far
    ∙ append_assoc base (escaped default_writer (take i bytes)) (escaped default_writer byte)
    ∙ ap (λ (t : List ℕ). base ++ t) (sym (escaped-append (take i bytes) byte))
    ∙ ap (λ (t : List ℕ). base ++ escaped default_writer t) (sym (take_more bytes i 0 here))

pub escaped-none : (base : List ℕ) → base ≡ base ++ escaped default_writer []
unfolding escaped
escaped-none base = sym (append-nil base)

-- a comma and a number
pub int-is : (base first last : List ℕ) (z : ℤ) → first ≡ base ++ 44 ∷ [] → last ≡ first ++ signed_decimal z → last ≡ base ++ next_field (signed_decimal z)
int-is base first last z comma number =
    number ∙ ap (λ (t : List ℕ). t ++ signed_decimal z) comma ∙ append_assoc base (44 ∷ []) (signed_decimal z)
    ∙ ap (λ (t : List ℕ). base ++ t) (sym (next_field-plain (signed_decimal z) (plain-signed z)))
