-- Texts of which the tokens are known, whatever stands behind them that may.
use Rattle.std.proofs.Common.{◌≡◌, ℕ, ◌+◌, ◌-◌, ◌<◌, Bool, true, false, not, ◌&&◌, ◌||◌, cond, List, [], ◌∷◌, ◌++◌, length, take, drop, map, refl, sym, ◌∙◌, ap, arith, append_assoc, length-append}
use Rattle.std.specs.Prelude.{◌==◌, slice_index, slice_range}
use Rattle.std.proofs.lemmas.Bool.Decides.{nat_tests}
use Rattle.cep_token.specs.declared.piece.Piece.TheVariants as piece
use Rattle.cep_token.specs.declared.token.Token.{Token}
use Rattle.cep_token.specs.declared.token.TokenKind.{TokenKind}
use Rattle.cep_token.specs.Piece.{is_blank, first_piece}
use Rattle.cep_token.specs.Form.{is_word_byte}
use Rattle.cep_token.specs.Tokens.{with_front, tokens_from}
use Rattle.cep_token.proofs.TokenLemmas.{with_front-none, with_front-append, step_gap, step_token}
use Rattle.cep_reading.specs.Lexeme.{Lexeme, lexeme_of}
use Rattle.cep_print.specs.Literal.{Text}

-- ---- what may stand behind

abbrev pub front : Text → ℕ
front z = slice_index z 0

-- the byte makes no pair with a symbol before it, and no comment
abbrev pub soft : ℕ → Bool
soft b = not (((b == 61 || b == 38) || b == 124) || b == 47)

-- it goes on no word and no number either
abbrev pub hard : ℕ → Bool
hard b = soft b && not (is_word_byte b)

abbrev pub no_need : ℕ → Bool
no_need b = true

pub and_parts : (a b : Bool) → (a && b) ≡ true → (a ≡ true) × (b ≡ true)
and_parts true b e = (refl, e)
and_parts false b e = cc

pub and_both : (a b : Bool) → a ≡ true → b ≡ true → (a && b) ≡ true
and_both true b e f = f
and_both false b e f = e

pub hard_is_soft : (b : ℕ) → hard b ≡ true → soft b ≡ true
hard_is_soft b e = (and_parts (soft b) _ e).0

-- a byte is none that fails a test which it passes
pub is_none_of : (p : ℕ → Bool) (b n : ℕ) → p n ≡ false → p b ≡ true → (b == n) ≡ false
is_none_of p b n fails passes = cases (b == n) refl where
  cases : (same : Bool) → (b == n) ≡ same → same ≡ false
  cases true e = let is : b ≡ n = grind (arith, nat_tests) in let bad : true ≡ false = sym passes ∙ ap p is ∙ fails in cc
  cases false e = refl

pub soft_by : (p : ℕ → Bool) (b : ℕ) → p 61 ≡ false → p 38 ≡ false → p 124 ≡ false → p 47 ≡ false → p b ≡ true → soft b ≡ true
soft_by p b e f g h passes =
    let i1 = is_none_of p b 61 e passes in
    let i2 = is_none_of p b 38 f passes in
    let i3 = is_none_of p b 124 g passes in
    let i4 = is_none_of p b 47 h passes in
    λ i. not (((i1 i || i2 i) || i3 i) || i4 i)

pub not_blank_by : (p : ℕ → Bool) (b : ℕ) → p 32 ≡ false → p 9 ≡ false → p 13 ≡ false → p 10 ≡ false → p b ≡ true → is_blank b ≡ false
not_blank_by p b e f g h passes =
    let i1 = is_none_of p b 32 e passes in
    let i2 = is_none_of p b 9 f passes in
    let i3 = is_none_of p b 13 g passes in
    let i4 = is_none_of p b 10 h passes in
    λ i. ((i1 i || i2 i) || i3 i) || i4 i

-- ---- tokens

abbrev pub Mark : Type 0
Mark = TokenKind × Text

-- a token without its place
abbrev pub mark : Lexeme → Mark
mark t = (t.kind, t.text)

-- how the text stands in a longer one
pub record Scanned (needs : ℕ → Bool) (z : Text) (marks : List Mark) : Type 0 where
  pub scan : (before rest : Text) → needs (front rest) ≡ true
      → (tokens : List Token) × (tokens_from (length before) 0 (z ++ rest) ≡ with_front tokens (tokens_from (length before + length z) 0 rest))
      × (map (λ t. mark (lexeme_of (before ++ (z ++ rest)) t)) tokens ≡ marks)

pub scanned-none : (needs : ℕ → Bool) → Scanned needs [] []
scanned-none needs = record {
  scan = λ before rest may. let n : length before ≡ length before + 0 = omega arith in
      ([], ap (λ p. tokens_from p 0 rest) n ∙ sym (with_front-none (tokens_from (length before + 0) 0 rest)), refl);
}

pub map-append : {X Y : Type 0} (f : X → Y) (xs ys : List X) → map f (xs ++ ys) ≡ map f xs ++ map f ys
map-append f [] ys = refl
map-append f (x ∷ xs) ys = ap (λ l. f x ∷ l) (map-append f xs ys)

-- one behind the other
pub scanned-append : (needs later : ℕ → Bool) (z w : Text) (marks others : List Mark) → Scanned needs z marks → Scanned later w others
    → ((rest : Text) → later (front rest) ≡ true → needs (front (w ++ rest)) ≡ true) → Scanned later (z ++ w) (marks ++ others)
scanned-append needs later z w marks others first second so = record {
  scan = λ before rest may.
      let a = first.scan before (w ++ rest) (so rest may) in
      let b = second.scan (before ++ z) rest may in
      let place : length before + length z ≡ length (before ++ z) = sym (length-append before z) in
      let end : length (before ++ z) + length w ≡ length before + length (z ++ w) = omega (arith, length-append before z, length-append z w) in
      let whole : (before ++ z) ++ (w ++ rest) ≡ before ++ (z ++ (w ++ rest)) = append_assoc before z (w ++ rest) in
      let text : z ++ (w ++ rest) ≡ (z ++ w) ++ rest = sym (append_assoc z w rest) in (
        a.0 ++ b.0,
        ap (λ t. tokens_from (length before) 0 t) (sym text)
            ∙ a.1
            ∙ ap (λ p. with_front a.0 (tokens_from p 0 (w ++ rest))) place
            ∙ ap (with_front a.0) b.1
            ∙ with_front-append a.0 b.0 (tokens_from (length (before ++ z) + length w) 0 rest)
            ∙ ap (λ p. with_front (a.0 ++ b.0) (tokens_from p 0 rest)) end,
        map-append (λ t. mark (lexeme_of (before ++ ((z ++ w) ++ rest)) t)) a.0 b.0
            ∙ (λ i. map (λ t. mark (lexeme_of (before ++ sym text i) t)) a.0
            ++ map (λ t. mark (lexeme_of ((ap (λ u. before ++ u) (sym text) ∙ sym whole) i) t)) b.0)
            ∙ (λ i. a.2 i ++ b.2 i),
      );
}

pub drop-front : (z rest : Text) → drop (length z) (z ++ rest) ≡ rest
drop-front [] rest = refl
drop-front (b ∷ z) rest = drop-front z rest

pub take-front : (z rest : Text) → take (length z) (z ++ rest) ≡ z
take-front [] rest = refl
take-front (b ∷ z) rest = ap (λ l. b ∷ l) (take-front z rest)

-- a text that is one token
pub record IsToken (k : TokenKind) (z : Text) (needs : ℕ → Bool) : Type 0 where
  pub some : 0 < length z
  pub is : (rest : Text) → needs (front rest) ≡ true → first_piece (z ++ rest) ≡ piece.Token k (length z)

pub scanned-token : (k : TokenKind) (z : Text) (needs : ℕ → Bool) → IsToken k z needs → Scanned needs z ((k, z) ∷ [])
scanned-token k z needs t = record {
  scan = λ before rest may.
      let all = length-append z rest in
      let token : Token = record { kind = k; start = length before; end = length before + length z } in
      let len : length before + length z - length before ≡ length z = omega arith in
      let text : slice_range (before ++ (z ++ rest)) (length before) (length before + length z) ≡ z =
      (λ i. take (len i) (drop-front before (z ++ rest) i)) ∙ take-front z rest in (
        token ∷ [],
        step_token (length before) (length z) k (z ++ rest) (t.is rest may) t.some (omega (arith, all))
            ∙ ap (λ l. with_front (token ∷ []) (tokens_from (length before + length z) 0 l)) (drop-front z rest),
        ap (λ l. (k, l) ∷ []) text,
      );
}

pub cond_true : {A : Type 0} (b : Bool) (x y : A) → b ≡ true → cond b x y ≡ x
cond_true true x y e = refl
cond_true false x y e = cc

pub cond_false : {A : Type 0} (b : Bool) (x y : A) → b ≡ false → cond b x y ≡ y
cond_false false x y e = refl
cond_false true x y e = cc

gap_is : (b : ℕ) (rest : Text) → is_blank b ≡ true → first_piece (b ∷ rest) ≡ piece.Gap 1
unfolding first_piece
gap_is b rest blank = cond_true (is_blank b) _ _ blank

-- a blank
pub scanned-blank : (b : ℕ) (needs : ℕ → Bool) → is_blank b ≡ true → Scanned needs (b ∷ []) []
scanned-blank b needs blank = record {
  scan = λ before rest may. (
    [],
    step_gap (length before) 1 (b ∷ rest) (gap_is b rest blank) (omega arith) (omega arith)
        ∙ sym (with_front-none (tokens_from (length before + 1) 0 rest)),
    refl,
  );
}
