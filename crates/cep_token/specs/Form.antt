-- The form of a token's text.
use Rattle.std.specs.Prelude.{ℕ, ◌-◌, Bool, not, ◌&&◌, ◌||◌, ◌==◌, nat_le, length, slice_index}
use Rattle.std.specs.Char.{is_ascii_digit}
use Rattle.std.specs.List.{list_all}
use Rattle.cep_token.specs.declared.piece.Class.TheVariants as class
use Rattle.cep_token.specs.declared.token.TokenKind.{TokenKind}
use Rattle.cep_token.specs.declared.token.TokenKind.TheVariants as kind
use Rattle.cep_token.specs.declared.token.TheConstants.{GREATEST_NUMBER}
use Rattle.cep_token.specs.Piece.{Text, is_in, begins_word, value_of, is_pair, is_single}

-- an ASCII letter, a digit or `_`
abbrev pub is_word_byte : ℕ → Bool
is_word_byte b = is_in class.Word b

-- an ASCII letter or `_`, and then ASCII letters, digits and `_`
abbrev pub is_word : Text → Bool
is_word z = begins_word (slice_index z 0) && list_all is_word_byte z

-- one or more ASCII digits, whose value is at most the greatest number
abbrev pub is_number : Text → Bool
is_number z = not (length z == 0) && (list_all is_ascii_digit z && nat_le (value_of z) GREATEST_NUMBER)

-- a quote at each end
abbrev pub is_literal : Text → Bool
is_literal z = nat_le 2 (length z) && (slice_index z 0 == 34 && slice_index z (length z - 1) == 34)

abbrev pub is_symbol : Text → Bool
is_symbol z =
    (length z == 1 && is_single (slice_index z 0)) || (length z == 2 && is_pair (slice_index z 0) (slice_index z 1))

abbrev pub has_form : TokenKind → Text → Bool
has_form kind.Word z = is_word z
has_form kind.Number z = is_number z
has_form kind.Literal z = is_literal z
has_form kind.Symbol z = is_symbol z
