-- The first parenthesis that opens with 32 open. One that closes with none open counts nothing.
use Rattle.std.specs.Prelude.{ℕ, ◌+◌, ◌-◌, if◌then◌else◌, nat_lt, List, [], ◌∷◌, Option, Some, None, codes}
use Rattle.cep_reading.specs.Lexeme.{Lexeme}
use Rattle.cep_reading.specs.Terminal.{symbol}
use Rattle.cep_syntax.specs.declared.depth.TheConstants.{DEEPEST}

-- the first number says how many are open
abbrev pub too_deep_from : ℕ → List Lexeme → Option ℕ
too_deep_from open_ones [] = None
too_deep_from open_ones (t ∷ ts) =
    if symbol (codes "(") t then (if nat_lt open_ones DEEPEST then too_deep_from (open_ones + 1) ts else Some t.place)
    else (if symbol (codes ")") t then too_deep_from (open_ones - 1) ts else too_deep_from open_ones ts)
