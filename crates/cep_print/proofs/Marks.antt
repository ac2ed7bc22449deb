-- Texts that are one token: words, numbers, literals and symbols.
use Rattle.std.proofs.Common.{◌≡◌, ℕ, suc, ◌+◌, ◌-◌, ◌*◌, ◌/◌, ◌%◌, ◌^◌, ◌≤◌, ◌<◌, Bool, true, false, not, ◌&&◌, ◌||◌, cond, List, [], ◌∷◌, ◌++◌, length, take, refl, sym, ◌∙◌, ap, subst, arith, length-append}
use Rattle.std.specs.Prelude.{◌==◌, nat_lt, slice_index, fold, decimal}
use Rattle.std.specs.List.{list_all, prefix_len}
use Rattle.std.specs.Char.{is_ascii_digit}
use Rattle.std.proofs.lemmas.Bool.Decides.{nat_tests}
use Rattle.std.proofs.lemmas.Fmt.{decimal_by_steps}
use Rattle.std.proofs.lemmas.List.Folds.{list_all-append}
use Rattle.cep_token.specs.declared.piece.Piece.TheVariants as piece
use Rattle.cep_token.specs.declared.token.TokenKind.TheVariants as kind
use Rattle.cep_token.specs.declared.token.TheConstants.{GREATEST_NUMBER}
use Rattle.cep_token.specs.Piece.{is_blank, begins_word, value_of, number, literal_from, may_be_escaped, is_pair, is_single, symbol, first_piece}
use Rattle.cep_token.specs.Form.{is_word_byte, is_word}
use Rattle.cep_token.specs.Content.{unescaped_from, content_of}
use Rattle.cep_print.specs.Literal.{Text, escaped, literal}
use Rattle.cep_print.proofs.Scanned.{front, soft, hard, no_need, and_parts, and_both, is_none_of, soft_by, not_blank_by, cond_true, cond_false, take-front, IsToken}

-- ---- words

run-length : (p : ℕ → Bool) (z rest : Text) → list_all p z ≡ true → p (front rest) ≡ false → prefix_len p (z ++ rest) ≡ length z
run-length p [] [] e f = refl
run-length p [] (x ∷ rest) e f = ap (λ b. cond b (1 + prefix_len p rest) 0) f
run-length p (x ∷ z) rest e f =
    let k = and_parts (p x) (list_all p z) e in
    let later = run-length p z rest k.1 f in
    let sums : 1 + prefix_len p (z ++ rest) ≡ suc (length z) = omega (arith, later) in
    ap (λ b. cond b (1 + prefix_len p (z ++ rest)) 0) k.0 ∙ sums

not_true : (b : Bool) → not b ≡ true → b ≡ false
not_true true e = cc
not_true false e = refl

ends_word : (b : ℕ) → hard b ≡ true → is_word_byte b ≡ false
ends_word b e = not_true (is_word_byte b) (and_parts (soft b) (not (is_word_byte b)) e).1

and_false : (a b : Bool) → b ≡ false → (a && b) ≡ false
and_false true b e = e
and_false false b e = refl

begins_is : (b : ℕ) (c : Bool) → begins_word b ≡ true → (b == 47 && c) ≡ false
begins_is b c e = let no = is_none_of begins_word b 47 refl e in λ i. no i && c

word_piece : (z rest : Text) → is_word z ≡ true → is_word_byte (front rest) ≡ false → first_piece (z ++ rest) ≡ piece.Token kind.Word (length z)
unfolding first_piece
word_piece [] rest e f = cc
word_piece (b ∷ z) rest e f =
    let k = and_parts (begins_word b) (list_all is_word_byte (b ∷ z)) e in
    cond_false (is_blank b) _ _ (not_blank_by begins_word b refl refl refl refl k.0)
    ∙ cond_false (b == 47 && slice_index (z ++ rest) 0 == 47) _ _ (begins_is b (slice_index (z ++ rest) 0 == 47) k.0)
    ∙ cond_true (begins_word b) _ _ k.0
    ∙ ap (piece.Token kind.Word) (run-length is_word_byte (b ∷ z) rest k.1 f)

word_some : (z : Text) → is_word z ≡ true → 0 < length z
word_some [] e = cc
word_some (b ∷ z) e = omega arith

pub is_token-word : (z : Text) → is_word z ≡ true → IsToken kind.Word z hard
is_token-word z e = record {
  some = word_some z e;
  is = λ rest may. word_piece z rest e (ends_word (front rest) may);
}

pub word_begins : (z rest : Text) → is_word z ≡ true → soft (front (z ++ rest)) ≡ true
word_begins [] rest e = cc
word_begins (b ∷ z) rest e = soft_by begins_word b refl refl refl refl (and_parts (begins_word b) (list_all is_word_byte (b ∷ z)) e).0

-- ---- numbers

fold-push : {A B : Type 0} (f : A → B → A) (a : A) (xs : List B) (x : B) → fold f a (xs ++ x ∷ []) ≡ f (fold f a xs) x
fold-push f a [] x = refl
fold-push f a (y ∷ xs) x = fold-push f (f a y) xs x

abbrev IsDigits : ℕ → Text → Type 0
IsDigits n ds = (list_all is_ascii_digit ds ≡ true) × (value_of ds ≡ n) × (0 < length ds)

one_digit : (n : ℕ) → n < 10 → is_ascii_digit (48 + n) ≡ true
one_digit n lt = grind (arith, nat_tests)

digits_one : (n : ℕ) → n < 10 → IsDigits n ((48 + n) ∷ [])
digits_one n lt = (and_both (is_ascii_digit (48 + n)) true (one_digit n lt) refl, omega arith, omega arith)

digits_more : (n : ℕ) (ds : Text) → 10 ≤ n → IsDigits (n / 10) ds → IsDigits n (ds ++ ((48 + n % 10) ∷ []))
digits_more n ds le h =
    let last = 48 + n % 10 in
    let small : n % 10 < 10 = omega arith in
    let value = h.1 in (
      list_all-append is_ascii_digit ds (last ∷ [])
          ∙ and_both (list_all is_ascii_digit ds) (is_ascii_digit last && true) h.0
          (and_both (is_ascii_digit last) true (one_digit (n % 10) small) refl),
      fold-push (λ m b. 10 * m + (b - 48)) 0 ds last ∙ total (value_of ds) value,
      omega (arith, length-append ds (last ∷ [])),
    ) where
      total : (v : ℕ) → v ≡ n / 10 → 10 * v + (48 + n % 10 - 48) ≡ n
      total v e = omega (arith, e)

digits_of : (n : ℕ) → n < 2 ^ 64 → IsDigits n (decimal n)
digits_of n lt = decimal_by_steps IsDigits digits_one digits_more n lt

digit_no : (p q r s : Bool) → ((s || p) || q) || r ≡ false → s ≡ false
digit_no p q r true e = cc
digit_no p q r false e = refl

ends_number : (b : ℕ) → hard b ≡ true → is_ascii_digit b ≡ false
ends_number b e = digit_no _ _ _ (is_ascii_digit b) (ends_word b e)

first_digit : (b : ℕ) (z : Text) → list_all is_ascii_digit (b ∷ z) ≡ true → is_ascii_digit b ≡ true
first_digit b z e = (and_parts (is_ascii_digit b) (list_all is_ascii_digit z) e).0

no_letter : (b : ℕ) → is_ascii_digit b ≡ true → begins_word b ≡ false
no_letter b e = grind (arith, nat_tests)

at_most : (n : ℕ) → n ≤ GREATEST_NUMBER → nat_lt GREATEST_NUMBER n ≡ false
at_most n le = grind (arith, nat_tests)

number_piece : (z rest : Text) → list_all is_ascii_digit z ≡ true → 0 < length z → value_of z ≤ GREATEST_NUMBER → is_ascii_digit (front rest) ≡ false
    → first_piece (z ++ rest) ≡ piece.Token kind.Number (length z)
unfolding first_piece number
number_piece [] rest e some le f = absurd (omega arith)
number_piece (b ∷ z) rest e some le f =
    let d = first_digit b z e in
    let no = is_none_of is_ascii_digit b 47 refl d in
    let len = run-length is_ascii_digit (b ∷ z) rest e f in
    let front_is : take (prefix_len is_ascii_digit (b ∷ (z ++ rest))) (b ∷ (z ++ rest)) ≡ b ∷ z = ap (λ n. take n (b ∷ (z ++ rest))) len ∙ take-front (b ∷ z) rest in
    cond_false (is_blank b) _ _ (not_blank_by is_ascii_digit b refl refl refl refl d)
    ∙ cond_false (b == 47 && slice_index (z ++ rest) 0 == 47) _ _ (λ i. no i && slice_index (z ++ rest) 0 == 47)
    ∙ cond_false (begins_word b) _ _ (no_letter b d)
    ∙ cond_true (is_ascii_digit b) _ _ d
    ∙ cond_false (nat_lt GREATEST_NUMBER (value_of (take (prefix_len is_ascii_digit (b ∷ (z ++ rest))) (b ∷ (z ++ rest))))) _ _
    (ap (λ x. nat_lt GREATEST_NUMBER (value_of x)) front_is ∙ at_most (value_of (b ∷ z)) le)
    ∙ ap (piece.Token kind.Number) len

pub value_of-decimal : (n : ℕ) → n ≤ GREATEST_NUMBER → value_of (decimal n) ≡ n
value_of-decimal n le = (digits_of n (omega (arith, le))).1

pub is_token-number : (n : ℕ) → n ≤ GREATEST_NUMBER → IsToken kind.Number (decimal n) hard
is_token-number n le =
    let h = digits_of n (omega (arith, le)) in
    record {
      some = h.2;
      is = λ rest may. number_piece (decimal n) rest h.0 h.2 (subst (λ v. v ≤ GREATEST_NUMBER) (sym h.1) le) (ends_number (front rest) may);
    }

digits_begin : (z rest : Text) → list_all is_ascii_digit z ≡ true → 0 < length z → soft (front (z ++ rest)) ≡ true
digits_begin [] rest e some = absurd (omega arith)
digits_begin (b ∷ z) rest e some = soft_by is_ascii_digit b refl refl refl refl (first_digit b z e)

pub number_begins : (n : ℕ) (rest : Text) → n ≤ GREATEST_NUMBER → soft (front (decimal n ++ rest)) ≡ true
number_begins n rest le = let h = digits_of n (omega (arith, le)) in digits_begin (decimal n) rest h.0 h.2

-- ---- literals

or_no : (a b : Bool) → (a || b) ≡ false → (a ≡ false) × (b ≡ false)
or_no true b e = cc
or_no false b e = (refl, e)

-- one byte more before the rest of a literal
module _ (b : ℕ) (esc rest : Text) (later : (n : ℕ) → literal_from false n ((esc ++ 34 ∷ []) ++ rest) ≡ piece.Token kind.Literal (n + length esc + 1)) where
  abbrev Goes : ℕ → Bool → Type 0
  Goes len c =
      literal_from false len (((cond c (92 ∷ b ∷ []) (b ∷ []) ++ esc) ++ 34 ∷ []) ++ rest)
      ≡ piece.Token kind.Literal (len + length (cond c (92 ∷ b ∷ []) (b ∷ []) ++ esc) + 1)

  goes : (len : ℕ) (c : Bool) → (b == 34 || b == 92) ≡ c → Goes len c
  goes len true e =
      let n : len + 1 + 1 + length esc + 1 ≡ len + suc (suc (length esc)) + 1 = omega arith in
      cond_true (may_be_escaped b) _ _ e ∙ later (len + 1 + 1) ∙ ap (piece.Token kind.Literal) n
  goes len false e =
      let k = or_no (b == 34) (b == 92) e in
      let n : len + 1 + length esc + 1 ≡ len + suc (length esc) + 1 = omega arith in
      cond_false (b == 34) _ _ k.0 ∙ ap (λ d. literal_from d (len + 1) ((esc ++ 34 ∷ []) ++ rest)) k.1 ∙ later (len + 1) ∙ ap (piece.Token kind.Literal) n

-- the rest of a literal behind its opening quote
literal_rest : (t rest : Text) (len : ℕ) → literal_from false len ((escaped t ++ 34 ∷ []) ++ rest) ≡ piece.Token kind.Literal (len + length (escaped t) + 1)
literal_rest [] rest len = let e : len + 1 ≡ len + 0 + 1 = omega arith in ap (piece.Token kind.Literal) e
literal_rest (b ∷ t) rest len = goes b (escaped t) rest (literal_rest t rest) len (b == 34 || b == 92) refl

literal_piece : (t rest : Text) → first_piece (literal t ++ rest) ≡ piece.Token kind.Literal (length (literal t))
unfolding first_piece
literal_piece t rest =
    let n : 1 + length (escaped t) + 1 ≡ length (literal t) = omega (arith, length-append (escaped t) (34 ∷ [])) in
    literal_rest t rest 1 ∙ ap (piece.Token kind.Literal) n

pub is_token-literal : (t : Text) → IsToken kind.Literal (literal t) no_need
is_token-literal t = record { some = omega arith; is = λ rest may. literal_piece t rest }

-- what an escaped text says
module _ (b : ℕ) (t esc : Text) (later : unescaped_from false esc ≡ t) where
  says : (c : Bool) → (b == 34 || b == 92) ≡ c → unescaped_from false (cond c (92 ∷ b ∷ []) (b ∷ []) ++ esc) ≡ b ∷ t
  says true e = ap (λ l. b ∷ l) later
  says false e = cond_false (b == 92) _ _ (or_no (b == 34) (b == 92) e).1 ∙ ap (λ l. b ∷ l) later

unescaped-escaped : (t : Text) → unescaped_from false (escaped t) ≡ t
unescaped-escaped [] = refl
unescaped-escaped (b ∷ t) = says b t (escaped t) (unescaped-escaped t) (b == 34 || b == 92) refl

pub content_of-literal : (t : Text) → content_of (literal t) ≡ t
content_of-literal t =
    let n : length (literal t) - 2 ≡ length (escaped t) = omega (arith, length-append (escaped t) (34 ∷ [])) in
    ap (unescaped_from false) (ap (λ m. take m (escaped t ++ 34 ∷ [])) n ∙ take-front (escaped t) (34 ∷ [])) ∙ unescaped-escaped t

-- ---- symbols

four_no : (a b c d : Bool) → not (((a || b) || c) || d) ≡ true → (a ≡ false) × (b ≡ false) × (c ≡ false) × (d ≡ false)
four_no true b c d e = cc
four_no false true c d e = cc
four_no false false true d e = cc
four_no false false false true e = cc
four_no false false false false e = (refl, refl, refl, refl)

no_pair : (s b : ℕ) → soft b ≡ true → is_pair s b ≡ false
no_pair s b e =
    let k = four_no (b == 61) (b == 38) (b == 124) (b == 47) e in
    (λ i. (s == 38 && k.1 i) || (s == 124 && k.2 i) || (k.0 i && (s == 33 || s == 61 || s == 60 || s == 62)))
    ∙ (λ i. and_false (s == 38) false refl i || and_false (s == 124) false refl i || false)

-- a byte that is a symbol, and the first of no other token
abbrev pub is_sign : ℕ → Bool
is_sign s = is_single s && (not (is_blank s) && (not (begins_word s) && (not (is_ascii_digit s) && not (s == 34))))

single_piece : (s : ℕ) (rest : Text) → is_sign s ≡ true → soft (front rest) ≡ true → first_piece (s ∷ rest) ≡ piece.Token kind.Symbol 1
unfolding first_piece symbol
single_piece s rest e may =
    let a = and_parts (is_single s) _ e in
    let b = and_parts (not (is_blank s)) _ a.1 in
    let c = and_parts (not (begins_word s)) _ b.1 in
    let d = and_parts (not (is_ascii_digit s)) (not (s == 34)) c.1 in
    let k = four_no (front rest == 61) (front rest == 38) (front rest == 124) (front rest == 47) may in
    cond_false (is_blank s) _ _ (not_true (is_blank s) b.0)
    ∙ cond_false (s == 47 && front rest == 47) _ _ (and_false (s == 47) (front rest == 47) k.3)
    ∙ cond_false (begins_word s) _ _ (not_true (begins_word s) c.0)
    ∙ cond_false (is_ascii_digit s) _ _ (not_true (is_ascii_digit s) d.0)
    ∙ cond_false (s == 34) _ _ (not_true (s == 34) d.1)
    ∙ cond_false (is_pair s (front rest)) _ _ (no_pair s (front rest) may)
    ∙ cond_true (is_single s) _ _ a.0

pub is_token-single : (s : ℕ) → is_sign s ≡ true → IsToken kind.Symbol (s ∷ []) soft
is_token-single s e = record { some = omega arith; is = λ rest may. single_piece s rest e may }

-- two bytes that are a symbol, and the first of no other token
abbrev pub is_double : ℕ → ℕ → Bool
is_double s t = is_pair s t && (not (s == 47) && (not (is_blank s) && (not (begins_word s) && (not (is_ascii_digit s) && not (s == 34)))))

double_piece : (s t : ℕ) (rest : Text) → is_double s t ≡ true → first_piece (s ∷ t ∷ rest) ≡ piece.Token kind.Symbol 2
unfolding first_piece symbol
double_piece s t rest e =
    let z = and_parts (is_pair s t) _ e in
    let a = and_parts (not (s == 47)) _ z.1 in
    let b = and_parts (not (is_blank s)) _ a.1 in
    let c = and_parts (not (begins_word s)) _ b.1 in
    let d = and_parts (not (is_ascii_digit s)) (not (s == 34)) c.1 in
    let no = not_true (s == 47) a.0 in
    cond_false (is_blank s) _ _ (not_true (is_blank s) b.0)
    ∙ cond_false (s == 47 && t == 47) _ _ (λ i. no i && t == 47)
    ∙ cond_false (begins_word s) _ _ (not_true (begins_word s) c.0)
    ∙ cond_false (is_ascii_digit s) _ _ (not_true (is_ascii_digit s) d.0)
    ∙ cond_false (s == 34) _ _ (not_true (s == 34) d.1)
    ∙ cond_true (is_pair s t) _ _ z.0

pub is_token-double : (s t : ℕ) → is_double s t ≡ true → IsToken kind.Symbol (s ∷ t ∷ []) no_need
is_token-double s t e = record { some = omega arith; is = λ rest may. double_piece s t rest e }
