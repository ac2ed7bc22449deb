-- Numbers from their digits.
use Rattle.std.proofs.Common.{◌≡◌, ◌<◌, ◌≤◌, ◌+◌, ◌-◌, ◌^◌, List, [], ◌∷◌, ℕ, zero, suc, Bool, true, false, cond, eqb, ltb, leb, length, get_or, take, Some, None, add-one, refl, ap, ◌∙◌, arith}
use Rattle.std.specs.Prelude.{◌&&◌}
use Rattle.std.specs.Char.{is_ascii_digit, digit_value}
use Rattle.std.specs.Str.{all_ascii_digits}
use Rattle.std.specs.Str.Parse.{digits_value}
use Rattle.std.specs.Cmp.{first_so, second_so}
use Rattle.std.proofs.lemmas.Bool.Decides.{nat_tests}
use Rattle.std.proofs.lemmas.Int.Digits.{digits_value_more}
use Rattle.std.proofs.lemmas.Str.Parse.{digits_value-take-le}
use Rattle.cep_records.specs.Number.{are_digits, size_in}

and-false : (b : Bool) → (b && false) ≡ false
and-false false = refl
and-false true = refl

no-digit : (text : List ℕ) (i : ℕ) → i < length text → is_ascii_digit (get_or text i 0) ≡ false → all_ascii_digits text ≡ false
no-digit [] i here e = absurd (omega arith)
no-digit (c ∷ text) zero here e = ap (λ (b : Bool). b && all_ascii_digits text) e
no-digit (c ∷ text) (suc i) here e = ap (λ (b : Bool). is_ascii_digit c && b) (no-digit text i (omega arith) e) ∙ and-false (is_ascii_digit c)

-- a byte that is no digit
pub size_in-other : (text : List ℕ) (i : ℕ) → i < length text → is_ascii_digit (get_or text i 0) ≡ false → size_in text ≡ None
size_in-other text i here e =
    ap (λ (b : Bool). cond ((ltb 0 (length text) && b) && leb (digits_value 10 text) (2 ^ 63)) (Some (digits_value 10 text)) None) (no-digit text i here e)
    ∙ ap (λ (b : Bool). cond (b && leb (digits_value 10 text) (2 ^ 63)) (Some (digits_value 10 text)) None) (and-false (ltb 0 (length text)))

past : (n : ℕ) → 2 ^ 63 < n → leb n (2 ^ 63) ≡ false
past n h = grind (arith, nat_tests)

up-to : (n : ℕ) → n ≤ 2 ^ 63 → leb n (2 ^ 63) ≡ true
up-to n h = grind (arith, nat_tests)

some : (n : ℕ) → 0 < n → ltb 0 n ≡ true
some n h = grind (arith, nat_tests)

-- digits of a greater number
pub size_in-great : (text : List ℕ) → 2 ^ 63 < digits_value 10 text → size_in text ≡ None
size_in-great text h =
    ap (λ (b : Bool). cond (are_digits text && b) (Some (digits_value 10 text)) None) (past (digits_value 10 text) h)
    ∙ ap (λ (b : Bool). cond b (Some (digits_value 10 text)) None) (and-false (are_digits text))

-- digits to which one more passes the limit
pub size_in-full : (text : List ℕ) (i : ℕ) → i < length text → 922337203685477580 < digits_value 10 (take i text) → size_in text ≡ None
size_in-full text i here h =
    let more = digits_value_more 10 text i here in
    let whole = digits_value-take-le 10 text (i + 1) (omega arith) in
    size_in-great text (omega arith)

-- digits within the limit
pub size_in-is : (text : List ℕ) → 0 < length text → all_ascii_digits text ≡ true → digits_value 10 text ≤ 2 ^ 63 → size_in text ≡ Some (digits_value 10 text)
size_in-is text some-byte digits small =
    ap (λ (b : Bool). cond ((b && all_ascii_digits text) && leb (digits_value 10 text) (2 ^ 63)) (Some (digits_value 10 text)) None)
    (some (length text) some-byte)
    ∙ ap (λ (b : Bool). cond (b && leb (digits_value 10 text) (2 ^ 63)) (Some (digits_value 10 text)) None) digits
    ∙ ap (λ (b : Bool). cond b (Some (digits_value 10 text)) None) (up-to (digits_value 10 text) small)

pub below-digit : (b : ℕ) → b < 48 → is_ascii_digit b ≡ false
below-digit b h = grind (arith, nat_tests)

pub above-digit : (b : ℕ) → 57 < b → is_ascii_digit b ≡ false
above-digit b h = grind (arith, nat_tests)

pub digit-is : (b : ℕ) → 48 ≤ b → b ≤ 57 → digit_value b ≡ b - 48
digit-is b low high = grind (arith, nat_tests)

is-digit : (b : ℕ) → 48 ≤ b → b ≤ 57 → is_ascii_digit b ≡ true
is-digit b low high = grind (arith, nat_tests)

digit-next : (text : List ℕ) (i : ℕ) → i < length text → all_ascii_digits (take i text) ≡ true → 48 ≤ get_or text i 0 → get_or text i 0 ≤ 57
    → all_ascii_digits (take (suc i) text) ≡ true
digit-next [] i here all low high = absurd (omega arith)
digit-next (c ∷ text) zero here all low high = ap (λ (b : Bool). b && true) (is-digit c low high)
digit-next (c ∷ text) (suc i) here all low high =
    ap (λ (b : Bool). b && all_ascii_digits (take (suc i) text)) (first_so (is_ascii_digit c) _ all)
    ∙ digit-next text i (omega arith) (second_so (is_ascii_digit c) _ all) low high

-- one more digit
pub digit-more : (text : List ℕ) (i : ℕ) → i < length text → all_ascii_digits (take i text) ≡ true → 48 ≤ get_or text i 0 → get_or text i 0 ≤ 57
    → all_ascii_digits (take (i + 1) text) ≡ true
digit-more text i here all low high = rw add-one (digit-next text i here all low high)

pub is-some : (n : ℕ) → eqb n 0 ≡ false → 0 < n
is-some n h = grind (arith, nat_tests)
