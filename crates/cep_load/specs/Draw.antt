-- The draws of the generator: a linear congruential sequence of 64 bits. This is this project's own.
use Rattle.std.specs.Prelude.{ℕ, zero, suc, ◌+◌, ◌*◌, ◌/◌, ◌%◌, ◌^◌}

-- the state that a draw leaves
unfoldable pub step : ℕ → ℕ
step x = (x * 6364136223846793005 + 1442695040888963407) % 2 ^ 64

-- the number that a draw gives
abbrev pub drawn : ℕ → ℕ
drawn x = step x / 2 ^ 33

-- the state that so many draws leave
abbrev pub behind : ℕ → ℕ → ℕ
behind zero x = x
behind (suc count) x = behind count (step x)
