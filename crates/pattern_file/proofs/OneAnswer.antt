-- Bytes are read in one way.
use Rattle.std.proofs.lemmas.Bool.Decides.{nat_tests}
use Rattle.std.proofs.Common.{arith, ltb, ◌≡◌, ℕ, Bool, true, false, zero, suc, ◌+◌, ◌-◌, ◌<◌, ◌≤◌, inl, inr, List, [], ◌∷◌, ◌++◌, length, refl, sym, ◌∙◌, ap, subst, append_assoc}
use Rattle.std.specs.Prelude.{Ok, Err, ◌≢◌, Result, Option, Some, None, map}
use Rattle.std.specs.Str.{IsUtf8, is_utf8}
use Rattle.std.specs.Str.Lossy.{utf8_valid_len}
use Rattle.std.proofs.lemmas.Str.{IsUtf8-from_is_utf8, is_utf8-from_IsUtf8}
use Rattle.cep_token.specs.declared.piece.Piece.{Piece}
use Rattle.cep_token.specs.declared.piece.Piece.TheVariants as piece
use Rattle.cep_token.specs.declared.token.TokenFault.TheVariants as token
use Rattle.cep_token.specs.declared.token.Token.{Token}
use Rattle.cep_token.specs.Piece.{Text, first_piece}
use Rattle.cep_token.specs.Tokens.{Tokens, with_front, after_piece, tokens_from, tokens_of}
use Rattle.cep_reading.specs.Lexeme.{Lexeme, lexeme_of}
use Rattle.cep_syntax.specs.declared.fault.SyntaxFault.{SyntaxFault}
use Rattle.cep_syntax.specs.declared.fault.SyntaxFault.TheVariants.{NoMemory, Bad}
use Rattle.cep_syntax.specs.declared.fault.TheConstants.{TOO_DEEP, TOO_LONG, NOT_UTF8}
use Rattle.cep_syntax.specs.Depth.{too_deep_from}
use Rattle.cep_syntax.specs.declared.file.File.{File}
use Rattle.cep_syntax.specs.Grammar.{IsFile, BeginsFile}
use Rattle.cep_syntax.specs.Reads.{StopsAt, IsGreedy, IsUnexpected, IsGreedyAt, AreRead}
use Rattle.cep_syntax.specs.Whole.{IsRefused, AreReadWithin, IsReadBy}
use Rattle.pattern_file.specs.Reading.{AreReadAs}

-- ---- tokens have no want of memory

front_is_told : (front : List Token) (t : Tokens) → t ≢ Err token.NoMemory → with_front front t ≢ Err token.NoMemory
front_is_told front (Ok ts) h = λ e. cc
front_is_told front (Err f) h = h

piece_is_told : (place : ℕ) (p : Piece) (later : ℕ → Tokens) → ((n : ℕ) → later n ≢ Err token.NoMemory) → after_piece place p later ≢ Err token.NoMemory
piece_is_told place (piece.Gap len) later h = h (len - 1)
piece_is_told place (piece.Token kind len) later h = front_is_told (record { kind = kind; start = place; end = place + len } ∷ []) (later (len - 1)) (h (len - 1))
piece_is_told place (piece.Fault code offset) later h = λ e. cc

tokens_are_told : (place left : ℕ) (text : Text) → tokens_from place left text ≢ Err token.NoMemory
tokens_are_told place left [] = λ e. cc
tokens_are_told place (suc left) (b ∷ z) = tokens_are_told (place + 1) left z
tokens_are_told place zero (b ∷ z) = piece_is_told place (first_piece (b ∷ z)) (λ left. tokens_from (place + 1) left z) (λ left. tokens_are_told (place + 1) left z)

-- ---- a list stops to pass a test in one place

abbrev Closed : (List Lexeme → Type 0) → Type 0
Closed P = (xs ys : List Lexeme) → P (xs ++ ys) → P xs

one_place :
    (xs ys r s : List Lexeme) (t u : Lexeme) (P : List Lexeme → Type 0)
    → Closed P → xs ++ t ∷ r ≡ ys ++ u ∷ s → P xs → P ys → (P (xs ++ t ∷ []) → ⊥) → (P (ys ++ u ∷ []) → ⊥)
    → (xs ≡ ys) × (t ≡ u)
one_place [] [] r s t u P closed is here there stops ends = (refl, head_is is) where
  head_is : t ∷ r ≡ u ∷ s → t ≡ u
  head_is e = cc
one_place [] (y ∷ ys) r s t u P closed is here there stops ends = absurd (stops (subst (λ z. P (z ∷ [])) (sym (head_is is)) (closed (y ∷ []) ys there))) where
  head_is : t ∷ r ≡ y ∷ (ys ++ u ∷ s) → t ≡ y
  head_is e = cc
one_place (x ∷ xs) [] r s t u P closed is here there stops ends = absurd (ends (subst (λ z. P (z ∷ [])) (head_is is) (closed (x ∷ []) xs here))) where
  head_is : x ∷ (xs ++ t ∷ r) ≡ u ∷ s → x ≡ u
  head_is e = cc
one_place (x ∷ xs) (y ∷ ys) r s t u P closed is here there stops ends =
    let same : x ≡ y = head_is is in
    let more : xs ++ t ∷ r ≡ ys ++ u ∷ s = tail_is is in
    let Q : List Lexeme → Type 0 = λ l. P (x ∷ l) in
    let k = one_place xs ys r s t u Q (λ a b. closed (x ∷ a) b) more here (subst (λ z. P (z ∷ ys)) (sym same) there) stops (λ p. ends (subst (λ z. P (z ∷ (ys ++ u ∷ []))) same p)) in
    (both same k.0, k.1) where
      head_is : x ∷ (xs ++ t ∷ r) ≡ y ∷ (ys ++ u ∷ s) → x ≡ y
      head_is e = cc

      tail_is : x ∷ (xs ++ t ∷ r) ≡ y ∷ (ys ++ u ∷ s) → xs ++ t ∷ r ≡ ys ++ u ∷ s
      tail_is e = cc

      both : x ≡ y → xs ≡ ys → x ∷ xs ≡ y ∷ ys
      both a b = cc

begins_closed : Closed BeginsFile
begins_closed xs ys b = (ys ++ b.0, b.1, subst (λ l. IsFile l b.1) (append_assoc xs ys b.0) b.2)

-- ---- tokens are read in one way

module _ (ts : List Lexeme) where
  -- tokens that are a file, or the front of one, do not stop
  goes_on : (before : List Lexeme) (t : Lexeme) → StopsAt ts before t → BeginsFile ts → ⊥
  goes_on before t s b =
      let again : ts ≡ (before ++ t ∷ []) ++ s.behind = s.is ∙ sym (append_assoc before (t ∷ []) s.behind) in
      s.no_more (begins_closed (before ++ t ∷ []) s.behind (subst BeginsFile again b))

  begins : (f : File) → IsFile ts f → BeginsFile ts
  begins f is = ([], f, subst (λ l. IsFile l f) (sym (nil_behind ts)) is) where
    nil_behind : (l : List Lexeme) → l ++ [] ≡ l
    nil_behind [] = refl
    nil_behind (x ∷ l) = ap (λ m. x ∷ m) (nil_behind l)

  no_stop : (end code place : ℕ) (f : File) → IsFile ts f → AreRead ts end (Err (Bad place code)) → ⊥
  no_stop end code place f is (inl (c, inl (before, t, s, g, p))) = goes_on before t s (begins f is)
  no_stop end code place f is (inl (c, inr (e, p))) = e.none f is
  no_stop end code place f is (inr (c, (before, t, s, g, p))) = goes_on before t s (begins f is)

  one_stop : (before after : List Lexeme) (t u : Lexeme) → StopsAt ts before t → StopsAt ts after u → (before ≡ after) × (t ≡ u)
  one_stop before after t u s z = one_place before after s.behind z.behind t u BeginsFile begins_closed (sym s.is ∙ z.is) s.begins z.begins s.no_more z.no_more

  same_place : (before after : List Lexeme) (t u : Lexeme) (p q : ℕ) → StopsAt ts before t → StopsAt ts after u → p ≡ t.place → q ≡ u.place → p ≡ q
  same_place before after t u p q s z a b = a ∙ ap (λ x. x.place) (one_stop before after t u s z).1 ∙ sym b

  one_unexpected : (end p q : ℕ) → IsUnexpected ts end p → IsUnexpected ts end q → p ≡ q
  one_unexpected end p q (inl (before, t, s, g, a)) (inl (after, u, z, h, b)) = same_place before after t u p q s z a b
  one_unexpected end p q (inl (before, t, s, g, a)) (inr (e, b)) = absurd (goes_on before t s e.begins)
  one_unexpected end p q (inr (e, a)) (inl (after, u, z, h, b)) = absurd (goes_on after u z e.begins)
  one_unexpected end p q (inr (e, a)) (inr (d, b)) = a ∙ sym b

  not_both : (end p q : ℕ) → IsUnexpected ts end p → IsGreedyAt ts q → ⊥
  not_both end p q (inl (before, t, s, g, a)) (after, u, z, h, b) =
      let k = one_stop before after t u s z in
      g (subst (λ l. IsGreedy l t) (sym k.0) (subst (λ x. IsGreedy after x) (sym k.1) h))
  not_both end p q (inr (e, a)) (after, u, z, h, b) = goes_on after u z e.begins

  one_greedy : (p q : ℕ) → IsGreedyAt ts p → IsGreedyAt ts q → p ≡ q
  one_greedy p q (before, t, s, g, a) (after, u, z, h, b) = same_place before after t u p q s z a b

  bad_is : (c d p q : ℕ) → c ≡ d → p ≡ q → ◌≡◌ {A = Result File SyntaxFault} (Err (Bad p c)) (Err (Bad q d))
  bad_is c d p q a b = cc

  one_bad : (end c d p q : ℕ) → AreRead ts end (Err (Bad p c)) → AreRead ts end (Err (Bad q d)) → ◌≡◌ {A = Result File SyntaxFault} (Err (Bad p c)) (Err (Bad q d))
  one_bad end c d p q (inl (a, x)) (inl (b, y)) = bad_is c d p q (a ∙ sym b) (one_unexpected end p q x y)
  one_bad end c d p q (inl (a, x)) (inr (b, y)) = absurd (not_both end p q x y)
  one_bad end c d p q (inr (a, x)) (inl (b, y)) = absurd (not_both end q p y x)
  one_bad end c d p q (inr (a, x)) (inr (b, y)) = bad_is c d p q (a ∙ sym b) (one_greedy p q x y)

  tokens_one : (end : ℕ) (a b : Result File SyntaxFault) → a ≢ Err NoMemory → b ≢ Err NoMemory → AreRead ts end a → AreRead ts end b → a ≡ b
  tokens_one end (Ok f) (Ok g) m n x y = ap (λ h. Ok h) (sym (x.only g y.is))
  tokens_one end (Ok f) (Err NoMemory) m n x y = absurd (n refl)
  tokens_one end (Ok f) (Err (Bad p c)) m n x y = absurd (no_stop end c p f x.is y)
  tokens_one end (Err NoMemory) b m n x y = absurd (m refl)
  tokens_one end (Err (Bad p c)) (Ok g) m n x y = absurd (no_stop end c p g y.is x)
  tokens_one end (Err (Bad p c)) (Err NoMemory) m n x y = absurd (n refl)
  tokens_one end (Err (Bad p c)) (Err (Bad q d)) m n x y = one_bad end c d p q x y

-- ---- bytes are read in one way

refused_one : (p c : ℕ) (a b : Result File SyntaxFault) → a ≢ Err NoMemory → b ≢ Err NoMemory → IsRefused p c a → IsRefused p c b → a ≡ b
refused_one p c a b m n x y = x m ∙ sym (y n)

deep_one : (deep : Option ℕ) (ts : List Lexeme) (end : ℕ) (a b : Result File SyntaxFault) → a ≢ Err NoMemory → b ≢ Err NoMemory → AreReadWithin deep ts end a → AreReadWithin deep ts end b → a ≡ b
deep_one (Some place) ts end a b m n x y = refused_one place TOO_DEEP a b m n x y
deep_one None ts end a b m n x y = tokens_one ts end a b m n x y

text_one : (r : Tokens) (text : List ℕ) (a b : Result File SyntaxFault) → r ≢ Err token.NoMemory → a ≢ Err NoMemory → b ≢ Err NoMemory → IsReadBy r text a → IsReadBy r text b → a ≡ b
text_one (Ok ts) text a b told m n x y =
    let lexemes = map (lexeme_of text) ts in
    deep_one (too_deep_from 0 lexemes) lexemes (length text) a b m n x y
text_one (Err (token.Bad place code)) text a b told m n x y = refused_one place code a b m n x y
text_one (Err token.NoMemory) text a b told m n x y = absurd (told refl)

short_one : (bytes : List ℕ) (a b : Result File SyntaxFault) → a ≢ Err NoMemory → b ≢ Err NoMemory → AreReadAs bytes a → AreReadAs bytes b → length bytes ≤ 65536 → a ≡ b
unfolding tokens_of
short_one bytes a b m n x y short = by_test (is_utf8 bytes) refl where
  by_test : (test : Bool) → is_utf8 bytes ≡ test → a ≡ b
  by_test true e =
      let is = IsUtf8-from_is_utf8 bytes e in
      text_one (tokens_of bytes) bytes a b (tokens_are_told 0 0 bytes) m n (x.text short is) (y.text short is)
  by_test false e =
      let isnt : IsUtf8 bytes → ⊥ = λ h. let bad = sym (is_utf8-from_IsUtf8 bytes h) ∙ e in cc in
      refused_one (utf8_valid_len bytes) NOT_UTF8 a b m n (x.not_text short isnt) (y.not_text short isnt)

pub one_answer : (bytes : List ℕ) (a b : Result File SyntaxFault) → a ≢ Err NoMemory → b ≢ Err NoMemory → AreReadAs bytes a → AreReadAs bytes b → a ≡ b
one_answer bytes a b m n x y = by_length (ltb 65536 (length bytes)) refl where
  by_length : (test : Bool) → ltb 65536 (length bytes) ≡ test → a ≡ b
  by_length true e = let long : 65536 < length bytes = grind (arith, nat_tests, e) in refused_one 65536 TOO_LONG a b m n (x.long long) (y.long long)
  by_length false e = let short : length bytes ≤ 65536 = grind (arith, nat_tests, e) in short_one bytes a b m n x y short
