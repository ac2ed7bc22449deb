use Rattle.std.proofs.Common.{◌≡◌, ℕ, zero, suc, ◌+◌, ◌-◌, ◌≤◌, ◌<◌, List, [], ◌∷◌, ◌++◌, length, length-drop, take, drop, true, refl, sym, ◌∙◌, ap, subst, arith, append_assoc}
use Rattle.std.specs.Prelude.{Ok, Err}
use Rattle.std.proofs.lemmas.List.{take_rest, drop-drop}
use Rattle.cep_token.specs.declared.piece.Piece.TheVariants as piece
use Rattle.cep_token.specs.declared.token.Token.{Token}
use Rattle.cep_token.specs.declared.token.TokenKind.{TokenKind}
use Rattle.cep_token.specs.declared.token.TokenFault.TheVariants.{Bad}
use Rattle.cep_token.specs.Piece.{Text, first_piece}
use Rattle.cep_token.specs.Tokens.{Tokens, with_front, after_piece, tokens_from}
use Rattle.cep_token.specs.Form.{has_form}
use Rattle.cep_token.specs.Within.{IsWithin, AreInOrder}
use Rattle.cep_token.proofs.FormLemmas.{piece_form}

-- the bytes of a piece are passed over
pub tokens_from-drop : (n place : ℕ) (z : Text) → tokens_from place n z ≡ tokens_from (place + n) 0 (drop n z)
tokens_from-drop zero place z = ap (λ p. tokens_from p 0 z) (omega arith)
tokens_from-drop (suc n) place [] = refl
tokens_from-drop (suc n) place (b ∷ z) =
    let e : place + 1 + n ≡ place + suc n = omega arith in
    tokens_from-drop n (place + 1) z ∙ ap (λ p. tokens_from p 0 (drop n z)) e

pub with_front-none : (tokens : Tokens) → with_front [] tokens ≡ tokens
with_front-none (Ok tokens) = refl
with_front-none (Err fault) = refl

pub with_front-append : (xs ys : List Token) (tokens : Tokens) → with_front xs (with_front ys tokens) ≡ with_front (xs ++ ys) tokens
with_front-append xs ys (Ok tokens) = simp append_assoc
with_front-append xs ys (Err fault) = refl

after-drop : (place len b : ℕ) (z : Text) → 0 < len → tokens_from (place + 1) (len - 1) z ≡ tokens_from (place + len) 0 (drop len (b ∷ z))
after-drop place zero b z h = absurd (omega arith)
after-drop place (suc len) b z h =
    let one : suc len - 1 ≡ len = omega arith in
    let place_is : place + 1 + len ≡ place + suc len = omega arith in
    ap (λ n. tokens_from (place + 1) n z) one ∙ tokens_from-drop len (place + 1) z ∙ ap (λ p. tokens_from p 0 (drop len z)) place_is

pub step_gap : (place len : ℕ) (z : Text) → first_piece z ≡ piece.Gap len → 0 < len → len ≤ length z
    → tokens_from place 0 z ≡ tokens_from (place + len) 0 (drop len z)
step_gap place len [] e h k = absurd (omega arith)
step_gap place len (b ∷ z) e h k = ap (λ p. after_piece place p (λ left. tokens_from (place + 1) left z)) e ∙ after-drop place len b z h

pub step_token : (place len : ℕ) (kind : _) (z : Text) → first_piece z ≡ piece.Token kind len → 0 < len → len ≤ length z
    → tokens_from place 0 z ≡ with_front (record { kind = kind; start = place; end = place + len } ∷ []) (tokens_from (place + len) 0 (drop len z))
step_token place len kind [] e h k = absurd (omega arith)
step_token place len kind (b ∷ z) e h k =
    ap (λ p. after_piece place p (λ left. tokens_from (place + 1) left z)) e
    ∙ ap (with_front (record { kind = kind; start = place; end = place + len } ∷ [])) (after-drop place len b z h)

pub step_fault : (place code offset : ℕ) (z : Text) → first_piece z ≡ piece.Fault code offset → offset < length z
    → tokens_from place 0 z ≡ after_piece place (piece.Fault code offset) (λ left. tokens_from (place + 1) left (drop 1 z))
step_fault place code offset [] e k = absurd (omega arith)
step_fault place code offset (b ∷ z) e k = ap (λ p. after_piece place p (λ left. tokens_from (place + 1) left z)) e

-- A step of the loop. The code hands in the part of the text from the place on as its last bytes.
module _ (text : Text) (found : List Token) (place : ℕ) where
  abbrev left_of : Text
  left_of = take (length text - place) (drop place text)

  left_is : left_of ≡ drop place text
  left_is = take_rest text place

  further : (len : ℕ) → drop len left_of ≡ drop (place + len) text
  further len = ap (drop len) left_is ∙ drop-drop len place text

  pub keeps_gap : (len : ℕ) (all : Tokens) → with_front found (tokens_from place 0 (drop place text)) ≡ all
      → piece.Gap len ≡ first_piece left_of → (0 < len) × (len ≤ length left_of)
      → with_front found (tokens_from (place + len) 0 (drop (place + len) text)) ≡ all
  keeps_gap len all so_far e fits =
      sym (ap (with_front found) (ap (tokens_from place 0) (sym left_is) ∙ step_gap place len left_of (sym e) fits.0 fits.1
      ∙ ap (tokens_from (place + len) 0) (further len))) ∙ so_far

  pub keeps_token : (len : ℕ) (kind : TokenKind) (all : Tokens) → with_front found (tokens_from place 0 (drop place text)) ≡ all
      → piece.Token kind len ≡ first_piece left_of → (0 < len) × (len ≤ length left_of)
      → with_front (found ++ record { kind = kind; start = place; end = place + len } ∷ []) (tokens_from (place + len) 0 (drop (place + len) text)) ≡ all
  keeps_token len kind all so_far e fits =
      sym (with_front-append found (record { kind = kind; start = place; end = place + len } ∷ []) (tokens_from (place + len) 0 (drop (place + len) text)))
      ∙ sym (ap (with_front found) (ap (tokens_from place 0) (sym left_is) ∙ step_token place len kind left_of (sym e) fits.0 fits.1
      ∙ ap (λ z. with_front (record { kind = kind; start = place; end = place + len } ∷ []) (tokens_from (place + len) 0 z)) (further len)))
      ∙ so_far

  pub ends_at_fault : (code offset : ℕ) (all : Tokens) → with_front found (tokens_from place 0 (drop place text)) ≡ all
      → piece.Fault code offset ≡ first_piece left_of → offset < length left_of
      → Err (Bad (place + offset) code) ≡ all
  ends_at_fault code offset all so_far e fits =
      sym (ap (with_front found) (ap (tokens_from place 0) (sym left_is) ∙ step_fault place code offset left_of (sym e) fits)) ∙ so_far

  pub stays_within : (len : ℕ) → place ≤ length text → len ≤ length left_of → place + len ≤ length text
  stays_within len h k = omega (arith, ap length left_is, length-drop place text)

  -- the token is a part of the text, and of the form of its kind
  pub is_within : (len : ℕ) (kind : TokenKind) → place ≤ length text → piece.Token kind len ≡ first_piece left_of → (0 < len) × (len ≤ length left_of)
      → IsWithin text (record { kind = kind; start = place; end = place + len })
  is_within len kind h e fits =
      let taken : place + len - place ≡ len = omega arith in
      record {
        some = omega (arith, fits.0);
        fits = stays_within len h fits.1;
        formed =
            subst (λ n. has_form kind (take n (drop place text)) ≡ true) (sym taken)
            (piece_form (drop place text) kind len (ap first_piece (sym left_is) ∙ sym e));
      }

-- where the last of the tokens ends, or else the place
abbrev pub end_of : ℕ → List Token → ℕ
end_of place [] = place
end_of place (token ∷ tokens) = end_of token.end tokens

-- one more token behind those
pub in_order-push : (place : ℕ) (tokens : List Token) (token : Token) → AreInOrder place tokens → end_of place tokens ≤ token.start
    → AreInOrder place (tokens ++ token ∷ [])
in_order-push place [] token h last = (last, tt)
in_order-push place (t ∷ tokens) token h last = (h.0, in_order-push t.end tokens token h.1 last)

pub end_of-push : (place : ℕ) (tokens : List Token) (token : Token) → end_of place (tokens ++ token ∷ []) ≡ token.end
end_of-push place [] token = refl
end_of-push place (t ∷ tokens) token = end_of-push t.end tokens token
