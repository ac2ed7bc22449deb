-- Each token has the form of its kind.
use Rattle.std.proofs.Common.{◌≡◌, ℕ, suc, ◌+◌, ◌-◌, ◌≤◌, ◌<◌, Bool, true, false, not, ◌&&◌, ◌||◌, cond, ◌⊎◌, inl, inr, [], ◌∷◌, length, take, drop, get_or, refl, sym, ◌∙◌, ap, subst, arith}
use Rattle.std.specs.Prelude.{◌==◌, nat_lt, nat_le, slice_index}
use Rattle.std.specs.List.{list_all, prefix_len}
use Rattle.std.specs.Char.{is_ascii_digit}
use Rattle.std.specs.Int.{is_in_range}
use Rattle.std.proofs.lemmas.Bool.Decides.{nat_tests}
use Rattle.std.proofs.lemmas.List.{get_or-take}
use Rattle.std.proofs.Common.{length-take}
use Rattle.cep_token.specs.declared.piece.Class.TheVariants as class
use Rattle.cep_token.specs.declared.piece.Piece.{Piece}
use Rattle.cep_token.specs.declared.piece.Piece.TheVariants.{Gap, Token, Fault}
use Rattle.cep_token.specs.declared.token.TokenKind.{TokenKind}
use Rattle.cep_token.specs.declared.token.TokenKind.TheVariants as kind
use Rattle.cep_token.specs.declared.token.TheConstants.{BAD_CHARACTER, NUMBER_TOO_LARGE, GREATEST_NUMBER}
use Rattle.cep_token.specs.Piece.{Text, is_in, run_len, is_blank, begins_word, value_of, number, literal_from, may_be_escaped, is_pair, is_single, symbol, first_piece}
use Rattle.cep_token.specs.Form.{is_word, is_number, is_symbol, has_form}

-- ---- tests

pub both_are : (a b : Bool) → a ≡ true → b ≡ true → (a && b) ≡ true
both_are true b e f = f
both_are false b e f = e

chosen : {A : Type 0} (b : Bool) (x y z : A) → cond b x y ≡ z → ((b ≡ true) × (x ≡ z)) ⊎ ((b ≡ false) × (y ≡ z))
chosen true x y z e = inl (refl, e)
chosen false x y z e = inr (refl, e)

is_equal : (a b : ℕ) → (a == b) ≡ true → a ≡ b
is_equal a b e = grind (arith, nat_tests)

equal_is : (a b : ℕ) → a ≡ b → (a == b) ≡ true
equal_is a b e = grind (arith, nat_tests)

-- ---- runs

run_step : (p : ℕ → Bool) (x : ℕ) (z : Text) (b : Bool) → list_all p (take (prefix_len p z) z) ≡ true → p x ≡ b
    → list_all p (take (cond b (1 + prefix_len p z) 0) (x ∷ z)) ≡ true
run_step p x z true so_far e =
    let n : 1 + prefix_len p z ≡ suc (prefix_len p z) = omega arith in
    subst (λ m. list_all p (take m (x ∷ z)) ≡ true) (sym n) (both_are (p x) (list_all p (take (prefix_len p z) z)) e so_far)
run_step p x z false so_far e = refl

-- the front of a run passes
pub run_passes : (p : ℕ → Bool) (z : Text) → list_all p (take (prefix_len p z) z) ≡ true
run_passes p [] = refl
run_passes p (x ∷ z) = run_step p x z (p x) (run_passes p z) refl

-- a run that is not empty keeps its first byte
run_front : (p : ℕ → Bool) (x : ℕ) (z : Text) → p x ≡ true → (n : ℕ) × (take (prefix_len p (x ∷ z)) (x ∷ z) ≡ x ∷ take n z)
run_front p x z e =
    let n : 1 + prefix_len p z ≡ suc (prefix_len p z) = omega arith in
    (prefix_len p z, ap (λ b. take (cond b (1 + prefix_len p z) 0) (x ∷ z)) e ∙ ap (λ m. take m (x ∷ z)) n)

-- ---- words

word_byte : (p q r s : Bool) → (p || q) || r ≡ true → ((s || p) || q) || r ≡ true
word_byte p q r true h = refl
word_byte p q r false h = h

pub begins_is_in : (b : ℕ) → begins_word b ≡ true → is_in class.Word b ≡ true
begins_is_in b h = word_byte (is_in_range 65 90 b) (is_in_range 97 122 b) (b == 95) (is_in_range 48 57 b) h

word_form : (z : Text) → begins_word (slice_index z 0) ≡ true → is_word (take (run_len class.Word z) z) ≡ true
word_form [] h = cc
word_form (b ∷ z) h =
    let front = run_front (is_in class.Word) b z (begins_is_in b h) in
    both_are _ _ (ap (λ l. begins_word (slice_index l 0)) front.1 ∙ h) (run_passes (is_in class.Word) (b ∷ z))

-- ---- numbers

at_most : (n m : ℕ) → nat_lt m n ≡ false → nat_le n m ≡ true
at_most n m e = grind (arith, nat_tests)

some_is_not_none : (l : Text) (b : ℕ) (m : Text) → l ≡ b ∷ m → not (length l == 0) ≡ true
some_is_not_none l b m e = ap (λ x. not (length x == 0)) e ∙ counted (length m) where
  counted : (n : ℕ) → not (suc n == 0) ≡ true
  counted n = grind (arith, nat_tests)

number_form : (z : Text) → is_ascii_digit (slice_index z 0) ≡ true → nat_lt GREATEST_NUMBER (value_of (take (run_len class.Digit z) z)) ≡ false
    → is_number (take (run_len class.Digit z) z) ≡ true
number_form [] h small = cc
number_form (b ∷ z) h small =
    let front = run_front (is_in class.Digit) b z h in
    both_are _ _ (some_is_not_none _ b (take front.0 z) front.1)
    (both_are _ _ (run_passes (is_in class.Digit) (b ∷ z)) (at_most (value_of (take (run_len class.Digit (b ∷ z)) (b ∷ z))) GREATEST_NUMBER small))

-- ---- literals

pub record Closes (len n : ℕ) (z : Text) : Type 0 where
  pub longer : len < n
  pub within : n ≤ len + length z
  pub quote : get_or z (n - 1 - len) 0 ≡ 34

abbrev ClosesLater : Bool → ℕ → ℕ → TokenKind → Text → Type 0
ClosesLater escaped len n k z = literal_from escaped len z ≡ Token k n → (k ≡ kind.Literal) × Closes len n z

-- one byte before the rest of a literal
closes_before : (len n : ℕ) (k : TokenKind) (b : ℕ) (z : Text) → (k ≡ kind.Literal) × Closes (len + 1) n z → (k ≡ kind.Literal) × Closes len n (b ∷ z)
closes_before len n k b z x =
    let longer : len + 1 < n = x.1.longer in
    let i : n - 1 - len ≡ suc (n - 1 - (len + 1)) = omega arith in
    (x.0, record { longer = omega arith; within = omega (arith, x.1.within); quote = ap (λ m. get_or (b ∷ z) m 0) i ∙ x.1.quote })

closes_escaped : (len n : ℕ) (k : TokenKind) (b : ℕ) (z : Text) → ClosesLater false (len + 1) n k z
    → ((may_be_escaped b ≡ true) × (literal_from false (len + 1) z ≡ Token k n))
    ⊎ ((may_be_escaped b ≡ false) × (Fault BAD_CHARACTER (len - 1) ≡ Token k n)) → (k ≡ kind.Literal) × Closes len n (b ∷ z)
closes_escaped len n k b z later (inl h) = closes_before len n k b z (later h.1)
closes_escaped len n k b z later (inr h) = let bad = h.1 in cc

ended : (k : TokenKind) (m n : ℕ) → Token kind.Literal m ≡ Token k n → (k ≡ kind.Literal) × (m ≡ n)
ended k m n h = (cc, cc)

closes_here : (len n : ℕ) (k : TokenKind) (b : ℕ) (z : Text) → ((later : Bool) → ClosesLater later (len + 1) n k z)
    → ((b == 34 ≡ true) × (Token kind.Literal (len + 1) ≡ Token k n)) ⊎ ((b == 34 ≡ false) × (literal_from (b == 92) (len + 1) z ≡ Token k n))
    → (k ≡ kind.Literal) × Closes len n (b ∷ z)
closes_here len n k b z later (inl h) =
    let x = ended k (len + 1) n h.1 in
    let last : len + 1 ≡ n = x.1 in
    let i : n - 1 - len ≡ 0 = omega arith in
    (x.0, record { longer = omega arith; within = omega arith; quote = ap (λ m. get_or (b ∷ z) m 0) i ∙ is_equal b 34 h.0 })
closes_here len n k b z later (inr h) = closes_before len n k b z (later (b == 92) h.1)

literal_closes : (escaped : Bool) (len n : ℕ) (k : TokenKind) (z : Text) → ClosesLater escaped len n k z
literal_closes escaped len n k [] e = cc
literal_closes true len n k (b ∷ z) e = closes_escaped len n k b z (literal_closes false (len + 1) n k z) (chosen (may_be_escaped b) _ _ (Token k n) e)
literal_closes false len n k (b ∷ z) e = closes_here len n k b z (λ later. literal_closes later (len + 1) n k z) (chosen (b == 34) _ _ (Token k n) e)

literal_form : (z : Text) (k : TokenKind) (n : ℕ) → (slice_index z 0 == 34) ≡ true → literal_from false 1 (drop 1 z) ≡ Token k n → has_form k (take n z) ≡ true
literal_form [] k n q e = cc
literal_form (b ∷ z) k n q e =
    let x = literal_closes false 1 n k z e in
    let longer = x.1.longer in
    let within = x.1.within in
    let len : length (take n (b ∷ z)) ≡ n = omega (arith, length_of n (b ∷ z)) in
    let first : get_or (take n (b ∷ z)) 0 0 ≡ b = get_or-take n (b ∷ z) 0 0 (omega arith) in
    let i : n - 1 ≡ suc (n - 1 - 1) = omega arith in
    let last : get_or (take n (b ∷ z)) (n - 1) 0 ≡ 34 = get_or-take n (b ∷ z) (n - 1) 0 (omega arith) ∙ ap (λ m. get_or (b ∷ z) m 0) i ∙ x.1.quote in
    subst (λ c. has_form c (take n (b ∷ z)) ≡ true) (sym x.0)
    (both_are _ _ (ap (nat_le 2) len ∙ two n longer)
    (both_are _ _ (ap (λ c. c == 34) first ∙ q) (ap (λ m. get_or (take n (b ∷ z)) (m - 1) 0 == 34) len ∙ equal_is _ 34 last))) where
      length_of : (m : ℕ) (l : Text) → m ≤ length l → length (take m l) ≡ m
      length_of m l h = simp length-take (omega arith)

      two : (m : ℕ) → 1 < m → nat_le 2 m ≡ true
      two m h = grind (arith, nat_tests)

-- ---- symbols

no_second : (b : ℕ) → is_pair b 0 ≡ false
no_second b = cases (b == 38) (b == 124) where
  cases : (p q : Bool) → (p && false) || (q && false) || false ≡ false
  cases true true = refl
  cases true false = refl
  cases false true = refl
  cases false false = refl

either_is : (a b : Bool) → b ≡ true → a || b ≡ true
either_is true b h = refl
either_is false b h = h

first_is : (a b : Bool) → a ≡ true → a || b ≡ true
first_is true b h = refl
first_is false b h = cc

symbol_form : (z : Text) (k : TokenKind) (n : ℕ) → symbol (slice_index z 0) (slice_index z 1) ≡ Token k n → has_form k (take n z) ≡ true
unfolding symbol
symbol_form [] k n e = cc
symbol_form (b ∷ []) k n e =
    one_byte (chosen (is_single b) _ _ (Token k n)
    (sym (ap (λ t. cond t (Token kind.Symbol 2) (cond (is_single b) (Token kind.Symbol 1) (Fault BAD_CHARACTER 0))) (no_second b)) ∙ e)) where
      one_byte : ((is_single b ≡ true) × (Token kind.Symbol 1 ≡ Token k n)) ⊎ ((is_single b ≡ false) × (Fault BAD_CHARACTER 0 ≡ Token k n))
          → has_form k (take n (b ∷ [])) ≡ true
      one_byte (inl h) =
          let is_kind : kind.Symbol ≡ k = (let f = h.1 in cc) in
          let is_len : 1 ≡ n = (let f = h.1 in cc) in
          subst (λ c. has_form c (take n (b ∷ [])) ≡ true) is_kind (subst (λ m. is_symbol (take m (b ∷ [])) ≡ true) is_len (first_is (is_single b) _ h.0))
      one_byte (inr h) = let bad = h.1 in cc
symbol_form (b ∷ c ∷ z) k n e = cases (chosen (is_pair b c) _ _ (Token k n) e) where
  one_byte : ((is_single b ≡ true) × (Token kind.Symbol 1 ≡ Token k n)) ⊎ ((is_single b ≡ false) × (Fault BAD_CHARACTER 0 ≡ Token k n))
      → has_form k (take n (b ∷ c ∷ z)) ≡ true
  one_byte (inl h) =
      let is_kind : kind.Symbol ≡ k = (let f = h.1 in cc) in
      let is_len : 1 ≡ n = (let f = h.1 in cc) in
      subst (λ d. has_form d (take n (b ∷ c ∷ z)) ≡ true) is_kind (subst (λ m. is_symbol (take m (b ∷ c ∷ z)) ≡ true) is_len (first_is (is_single b) _ h.0))
  one_byte (inr h) = let bad = h.1 in cc

  cases : ((is_pair b c ≡ true) × (Token kind.Symbol 2 ≡ Token k n))
      ⊎ ((is_pair b c ≡ false) × (cond (is_single b) (Token kind.Symbol 1) (Fault BAD_CHARACTER 0) ≡ Token k n))
      → has_form k (take n (b ∷ c ∷ z)) ≡ true
  cases (inl h) =
      let is_kind : kind.Symbol ≡ k = (let f = h.1 in cc) in
      let is_len : 2 ≡ n = (let f = h.1 in cc) in
      subst (λ d. has_form d (take n (b ∷ c ∷ z)) ≡ true) is_kind (subst (λ m. is_symbol (take m (b ∷ c ∷ z)) ≡ true) is_len h.0)
  cases (inr h) = one_byte (chosen (is_single b) _ _ (Token k n) h.1)

-- ---- all

module _ (z : Text) (k : TokenKind) (n : ℕ) where
  abbrev Formed : Type 0
  Formed = has_form k (take n z) ≡ true

  quoted : cond (slice_index z 0 == 34) (literal_from false 1 (drop 1 z)) (symbol (slice_index z 0) (slice_index z 1)) ≡ Token k n → Formed
  quoted e = cases (chosen (slice_index z 0 == 34) _ _ (Token k n) e) where
    cases : ((slice_index z 0 == 34 ≡ true) × (literal_from false 1 (drop 1 z) ≡ Token k n))
        ⊎ ((slice_index z 0 == 34 ≡ false) × (symbol (slice_index z 0) (slice_index z 1) ≡ Token k n)) → Formed
    cases (inl h) = literal_form z k n h.0 h.1
    cases (inr h) = symbol_form z k n h.1

  digits : is_ascii_digit (slice_index z 0) ≡ true → number z ≡ Token k n → Formed
  unfolding number
  digits d e = cases (chosen (nat_lt GREATEST_NUMBER (value_of (take (run_len class.Digit z) z))) _ _ (Token k n) e) where
    cases : ((nat_lt GREATEST_NUMBER (value_of (take (run_len class.Digit z) z)) ≡ true) × (Fault NUMBER_TOO_LARGE 0 ≡ Token k n))
        ⊎ ((nat_lt GREATEST_NUMBER (value_of (take (run_len class.Digit z) z)) ≡ false) × (Token kind.Number (run_len class.Digit z) ≡ Token k n)) → Formed
    cases (inl h) = let bad = h.1 in cc
    cases (inr h) =
        let is_kind : kind.Number ≡ k = (let f = h.1 in cc) in
        let is_len : run_len class.Digit z ≡ n = (let f = h.1 in cc) in
        subst (λ c. has_form c (take n z) ≡ true) is_kind (subst (λ m. is_number (take m z) ≡ true) is_len (number_form z d h.0))

  words : begins_word (slice_index z 0) ≡ true → Token kind.Word (run_len class.Word z) ≡ Token k n → Formed
  words w e =
      let is_kind : kind.Word ≡ k = cc in
      let is_len : run_len class.Word z ≡ n = cc in
      subst (λ c. has_form c (take n z) ≡ true) is_kind (subst (λ m. is_word (take m z) ≡ true) is_len (word_form z w))

  abbrev behind_digit : Piece
  behind_digit = cond (slice_index z 0 == 34) (literal_from false 1 (drop 1 z)) (symbol (slice_index z 0) (slice_index z 1))

  abbrev behind_word : Piece
  behind_word = cond (is_ascii_digit (slice_index z 0)) (number z) behind_digit

  abbrev behind_comment : Piece
  behind_comment = cond (begins_word (slice_index z 0)) (Token kind.Word (run_len class.Word z)) behind_word

  abbrev comments : Bool
  comments = (slice_index z 0 == 47) && (slice_index z 1 == 47)

  abbrev behind_blank : Piece
  behind_blank = cond comments (Gap (run_len class.Comment z)) behind_comment

  digit : ((is_ascii_digit (slice_index z 0) ≡ true) × (number z ≡ Token k n))
      ⊎ ((is_ascii_digit (slice_index z 0) ≡ false) × (behind_digit ≡ Token k n)) → Formed
  digit (inl h) = digits h.0 h.1
  digit (inr h) = quoted h.1

  word : ((begins_word (slice_index z 0) ≡ true) × (Token kind.Word (run_len class.Word z) ≡ Token k n))
      ⊎ ((begins_word (slice_index z 0) ≡ false) × (behind_word ≡ Token k n)) → Formed
  word (inl h) = words h.0 h.1
  word (inr h) = digit (chosen (is_ascii_digit (slice_index z 0)) _ _ (Token k n) h.1)

  comment : ((comments ≡ true) × (Gap (run_len class.Comment z) ≡ Token k n)) ⊎ ((comments ≡ false) × (behind_comment ≡ Token k n)) → Formed
  comment (inl h) = let bad = h.1 in cc
  comment (inr h) = word (chosen (begins_word (slice_index z 0)) _ _ (Token k n) h.1)

  blank : ((is_blank (slice_index z 0) ≡ true) × (Gap 1 ≡ Token k n)) ⊎ ((is_blank (slice_index z 0) ≡ false) × (behind_blank ≡ Token k n)) → Formed
  blank (inl h) = let bad = h.1 in cc
  blank (inr h) = comment (chosen comments _ _ (Token k n) h.1)

  pub piece_form : first_piece z ≡ Token k n → Formed
  unfolding first_piece
  piece_form e = blank (chosen (is_blank (slice_index z 0)) _ _ (Token k n) e)
