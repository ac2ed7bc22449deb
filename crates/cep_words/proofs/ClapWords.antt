-- The forms of a word, to clap and to the rule.
use Rattle.std.proofs.Common.{◌≡◌, ◌∙◌, ℕ, Bool, true, false, cond, List, [], ◌∷◌, length, codes, Some, None, refl, sym, ap, subst, eqb-true, arith}
use Rattle.std.specs.Prelude.{◌==◌, ◌&&◌, option_and_then}
use Rattle.std.specs.Char.{encode_utf8}
use Rattle.std.specs.Str.{IsUtf8, bytes_eq, chars, encode_utf8_all}
use Rattle.std.proofs.lemmas.Slice.Eq.{bytes_eq-Decides}
use Rattle.std.proofs.lemmas.Str.{encodes-chars}
use Rattle.clap.specs.Lexer.{long_of, long_of_rest, short_of, short_of_rest, strip_byte}
use Rattle.clap.specs.Walk.{Text}
use Rattle.cep_words.specs.Reading.{is_option}

-- a word that is no option, to both
pub record IsPlain (word : Text) : Type 0 where
  pub option : is_option word ≡ false
  pub dashes : bytes_eq word (45 ∷ 45 ∷ []) ≡ false
  pub long : long_of word ≡ None
  pub short : short_of word ≡ None

other_is_plain : (b : ℕ) (bytes : List ℕ) → (b == 45) ≡ false → IsPlain (b ∷ bytes)
other_is_plain b [] e = record {
  option = refl;
  dashes = ap (λ t. t && bytes_eq [] (45 ∷ [])) e;
  long = ap (λ t. option_and_then long_of_rest (option_and_then (strip_byte 45) (cond t (Some []) None))) e;
  short = ap (λ t. option_and_then short_of_rest (cond t (Some []) None)) e;
}
other_is_plain b (c ∷ bytes) e = record {
  option = e;
  dashes = ap (λ t. t && bytes_eq (c ∷ bytes) (45 ∷ [])) e;
  long = ap (λ t. option_and_then long_of_rest (option_and_then (strip_byte 45) (cond t (Some (c ∷ bytes)) None))) e;
  short = ap (λ t. option_and_then short_of_rest (cond t (Some (c ∷ bytes)) None)) e;
}

-- a word is `--`, or `--` and more, or a dash and more, or plain
pub by_form : (P : Text → Type 0) → P (45 ∷ 45 ∷ []) → ((x : ℕ) (xs : Text) → P (45 ∷ 45 ∷ x ∷ xs))
    → ((c : ℕ) (xs : Text) → (c == 45) ≡ false → P (45 ∷ c ∷ xs))
    → ((word : Text) → IsPlain word → P word) → (word : Text) → P word
by_form P dashes long short plain [] = plain [] (record { option = refl; dashes = refl; long = refl; short = refl })
by_form P dashes long short plain (b ∷ bytes) = go (b == 45) refl
  where
    behind : (c : ℕ) (xs : Text) (t : Bool) → (c == 45) ≡ t → P (45 ∷ c ∷ xs)
    behind c [] true e = subst (λ n. P (45 ∷ n ∷ [])) (sym (eqb-true c 45 e)) dashes
    behind c (x ∷ xs) true e = subst (λ n. P (45 ∷ n ∷ x ∷ xs)) (sym (eqb-true c 45 e)) (long x xs)
    behind c xs false e = short c xs e

    dashed : (bytes : Text) → P (45 ∷ bytes)
    dashed [] = plain (45 ∷ []) (record { option = refl; dashes = refl; long = refl; short = refl })
    dashed (c ∷ xs) = behind c xs (c == 45) refl

    go : (t : Bool) → (b == 45) ≡ t → P (b ∷ bytes)
    go true e = subst (λ n. P (n ∷ bytes)) (sym (eqb-true b 45 e)) (dashed bytes)
    go false e = plain (b ∷ bytes) (other_is_plain b bytes e)

-- what follows a dash in a text has a character
pub has_character : (c : ℕ) (xs : Text) → IsUtf8 (45 ∷ c ∷ xs) → (d : ℕ) × (ds : List ℕ) × (chars (c ∷ xs) ≡ d ∷ ds)
unfolding chars encode_utf8
has_character c xs valid = go (chars (c ∷ xs)) refl
  where
    go : (cs : List ℕ) → chars (c ∷ xs) ≡ cs → (d : ℕ) × (ds : List ℕ) × (chars (c ∷ xs) ≡ d ∷ ds)
    go (d ∷ ds) e = (d, ds, e)
    go [] e =
        let whole : encode_utf8_all (45 ∷ chars (c ∷ xs)) ≡ 45 ∷ c ∷ xs = encodes-chars (45 ∷ c ∷ xs) valid in
        let bad : 45 ∷ [] ≡ 45 ∷ c ∷ xs = ap (λ l. encode_utf8_all (45 ∷ l)) (sym e) ∙ whole in
        let lengths : 1 ≡ length (45 ∷ c ∷ xs) = ap length bad in
        absurd (omega (arith, lengths))

-- neither is the other, as clap asks and as the rule asks
abbrev pub Differ : Text → Text → Type 0
Differ name known = (bytes_eq name known ≡ false) × (bytes_eq known name ≡ false)

-- a name is one of the five, or none of them
pub record IsOther (name : Text) : Type 0 where
  pub lag : Differ name (codes "lag")
  pub rows : Differ name (codes "rows")
  pub header : Differ name (codes "header")
  pub seed : Differ name (codes "seed")
  pub count : Differ name (codes "count")

named : (P : Text → Type 0) (known name : Text) → P known → (Differ name known → P name) → P name
named P known name here other = go (bytes_eq name known) (bytes_eq known name) refl refl
  where
    go : (t u : Bool) → bytes_eq name known ≡ t → bytes_eq known name ≡ u → P name
    go true u e f = subst P (sym ((bytes_eq-Decides name known).0 e)) here
    go false true e f = subst P ((bytes_eq-Decides known name).0 f) here
    go false false e f = other (e, f)

pub by_name : (P : Text → Type 0) → P (codes "lag") → P (codes "rows") → P (codes "header") → P (codes "seed") → P (codes "count") → ((name : Text) → IsOther name → P name) → (name : Text) → P name
by_name P lag rows header seed count other name =
    named P (codes "lag") name lag (λ a. named P (codes "rows") name rows (λ b. named P (codes "header") name header (λ c.
    named P (codes "seed") name seed (λ d. named P (codes "count") name count (λ e.
    other name (record { lag = a; rows = b; header = c; seed = d; count = e }))))))
