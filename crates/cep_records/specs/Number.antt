-- Numbers in rows (this project's own): an optional sign, then one or more ASCII digits, with a value within 64 bits.
use Rattle.std.specs.Prelude.{ℕ, ℤ, ◌^◌, Bool, ◌&&◌, nat_lt, nat_le, if◌then◌else◌, List, length, Option, Some, None}
use Rattle.std.specs.Str.{all_ascii_digits}
use Rattle.std.specs.Str.Parse.{digits_value, signed_digits_value, without_leading_sign}
use Rattle.cep_plan.specs.Answer.{fits_word}

-- one digit or more, and nothing else
abbrev pub are_digits : List ℕ → Bool
are_digits text = nat_lt 0 (length text) && all_ascii_digits text

-- a number that has a place in a signed word of 64 bits
abbrev pub word_if : ℤ → Option ℤ
word_if number = if fits_word number then Some number else None

-- the number that a text writes, if it writes one
abbrev pub number_in : List ℕ → Option ℤ
number_in text = if are_digits (without_leading_sign text) then word_if (signed_digits_value 10 text) else None

-- how far from 0 the number is that digits write, up to the furthest of a word
abbrev pub size_in : List ℕ → Option ℕ
size_in text = if are_digits text && nat_le (digits_value 10 text) (2 ^ 63) then Some (digits_value 10 text) else None
