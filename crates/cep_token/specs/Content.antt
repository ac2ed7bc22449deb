-- What a literal says.
use Rattle.std.specs.Prelude.{◌-◌, Bool, true, false, if◌then◌else◌, ◌==◌, [], ◌∷◌, length, take, drop}
use Rattle.cep_token.specs.Piece.{Text}

-- what stands between the quotes
abbrev pub inside : Text → Text
inside z = take (length z - 2) (drop 1 z)

-- The text without the backslashes that escape the byte behind them. The first argument says whether such a one stands before.
abbrev pub unescaped_from : Bool → Text → Text
unescaped_from is_escaped [] = []
unescaped_from true (b ∷ z) = b ∷ unescaped_from false z
unescaped_from false (b ∷ z) = if b == 92 then unescaped_from true z else b ∷ unescaped_from false z

-- the content of a literal: what stands between its quotes, `\"` as `"` and `\\` as `\`
abbrev pub content_of : Text → Text
content_of z = unescaped_from false (inside z)
