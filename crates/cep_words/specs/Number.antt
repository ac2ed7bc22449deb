-- Numbers in words (this project's own): one or more ASCII digits, whose number is in a range.
use Rattle.std.specs.Prelude.{ℕ, ◌&&◌, Bool, nat_lt, nat_le, if◌then◌else◌, List, length, Option, Some, None}
use Rattle.std.specs.Str.{all_ascii_digits}
use Rattle.std.specs.Str.Parse.{digits_value}

-- one digit or more, and nothing else
abbrev pub are_digits : List ℕ → Bool
are_digits text = nat_lt 0 (length text) && all_ascii_digits text

-- the number that digits write, if it is one from `least` to `most`
abbrev pub number_within : ℕ → ℕ → List ℕ → Option ℕ
number_within least most text =
    if are_digits text && (nat_le least (digits_value 10 text) && nat_le (digits_value 10 text) most)
    then Some (digits_value 10 text)
    else None
