use Rattle.std.proofs.Common.{◌≡◌, ◌-◌}
use Rattle.std.specs.Prelude.{codes}
use Rattle.cep_reading.specs.Terminal.{symbol}
use Rattle.cep_reading.specs.Reading.{many}
use Rattle.cep_reading.proofs.ManyLemmas.{with_front}
use Rattle.cep_syntax.specs.Reader.{more_shown, next_shown}
use Rattle.cep_syntax.proofs.tail.more_shown.Given as goal

abbrev pub invariant-loop-turn : goal.invariant-loop-turn
invariant-loop-turn l = with_front l.found (many (l.room - l._turn) (symbol (codes ",")) (next_shown l.room) l.cursor) ≡ more_shown l.room l.fn.cursor
