-- Numbers from their digits.
use Rattle.std.proofs.Common.{◌≡◌, ◌<◌, ◌^◌, List, [], ◌∷◌, ℕ, Bool, true, false, cond, eqb, ltb, leb, length, slice_index, Some, None, refl, sym, ap, ◌∙◌, arith, true≢false}
use Rattle.std.specs.Prelude.{◌&&◌, ◌≢◌, Result, Ok, Err}
use Rattle.std.specs.Char.{is_ascii_digit}
use Rattle.std.specs.Str.{all_ascii_digits}
use Rattle.std.specs.Str.Parse.{digits_value, ParsesUnsigned}
use Rattle.std.specs.Result.{OkIff, result_ok}
use Rattle.std.proofs.lemmas.Bool.Decides.{nat_tests}
use Rattle.std.proofs.lemmas.Str.Parse.{IsNumeralModel, numerals_by_value, tells_all_ascii_digits, parse_plain}
use Rattle.cep_words.specs.Number.{number_within}

and-false : (b : Bool) → (b && false) ≡ false
and-false false = refl
and-false true = refl

own : IsNumeralModel (λ ds. all_ascii_digits ds ≡ true) (digits_value 10)
own = numerals_by_value _ tells_all_ascii_digits

tests : (digits : Bool) (n v : ℕ) → digits ≡ true → 0 < n → v < 2 ^ 64 → ((ltb 0 n && digits) && (leb 0 v && leb v 18446744073709551615)) ≡ true
tests true n v e some small = grind (arith, nat_tests)
tests false n v e some small = absurd (true≢false (sym e))

untested : (digits : Bool) (n v : ℕ) → ((digits ≡ true) × (0 < n) × (v < 2 ^ 64) → ⊥) → ((ltb 0 n && digits) && (leb 0 v && leb v 18446744073709551615)) ≡ false
untested true n v refused = grind (arith, nat_tests)
untested false n v refused = ap (λ (b : Bool). b && (leb 0 v && leb v 18446744073709551615)) (and-false (ltb 0 n))

told : {E : Type 0} (text : List ℕ) (r : Result ℕ E)
    → OkIff r ((all_ascii_digits text ≡ true) × (0 < length text) × (digits_value 10 text < 2 ^ 64)) (digits_value 10 text)
    → result_ok r ≡ number_within 0 18446744073709551615 text
told text (Ok x) h =
    ap Some h.1
    ∙ sym (ap (λ (b : Bool). cond b (Some (digits_value 10 text)) None)
    (tests (all_ascii_digits text) (length text) (digits_value 10 text) h.0.0 h.0.1 h.0.2))
told text (Err e) h =
    sym (ap (λ (b : Bool). cond b (Some (digits_value 10 text)) None) (untested (all_ascii_digits text) (length text) (digits_value 10 text) h))

-- what `parse` reads where no plus stands first
pub parsed : {E : Type 0} (text : List ℕ) (r : Result ℕ E) → ParsesUnsigned 64 10 text r → slice_index text 0 ≢ 43
    → result_ok r ≡ number_within 0 18446744073709551615 text
parsed text r h plain = told text r (parse_plain own 64 text r h plain)

plus : (c : ℕ) → c ≡ 43 → is_ascii_digit c ≡ false
plus c e = grind (arith, nat_tests)

-- a plus is no digit
pub signed : (least most : ℕ) (text : List ℕ) → slice_index text 0 ≡ 43 → number_within least most text ≡ None
signed least most [] e = absurd (omega (arith, e))
signed least most (c ∷ cs) e =
    ap (λ (b : Bool). cond ((ltb 0 (length (c ∷ cs)) && (b && all_ascii_digits cs))
    && (leb least (digits_value 10 (c ∷ cs)) && leb (digits_value 10 (c ∷ cs)) most)) (Some (digits_value 10 (c ∷ cs))) None) (plus c e)
    ∙ ap (λ (b : Bool). cond (b && (leb least (digits_value 10 (c ∷ cs)) && leb (digits_value 10 (c ∷ cs)) most)) (Some (digits_value 10 (c ∷ cs)))
    None) (and-false (ltb 0 (length (c ∷ cs))))

-- a first byte that is tested not to be a plus
pub is_not : (n : ℕ) → eqb n 43 ≡ false → n ≢ 43
is_not n e = grind (arith, nat_tests)
