use Rattle.std.proofs.Common.{◌≡◌, ◌-◌}
use Rattle.std.specs.Prelude.{codes}
use Rattle.cep_reading.specs.Terminal.{word}
use Rattle.cep_reading.specs.Reading.{many}
use Rattle.cep_reading.proofs.ManyLemmas.{with_front}
use Rattle.cep_syntax.specs.Reader.{declarations, declaration}
use Rattle.cep_syntax.proofs.declaration.declarations.Given as goal

abbrev pub invariant-loop-turn : goal.invariant-loop-turn
invariant-loop-turn l = with_front l.found (many (l.room - l._turn) (word (codes "event")) (declaration l.room) l.cursor) ≡ declarations l.room l.fn.cursor
