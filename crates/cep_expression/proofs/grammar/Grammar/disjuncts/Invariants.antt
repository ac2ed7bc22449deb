use Rattle.std.proofs.Common.{◌≡◌, ◌-◌}
use Rattle.std.specs.Prelude.{codes}
use Rattle.cep_reading.specs.Terminal.{symbol}
use Rattle.cep_reading.specs.Reading.{many}
use Rattle.cep_reading.proofs.ManyLemmas.{with_front}
use Rattle.cep_expression.specs.Reader.{expression, next_disjunct, disjuncts}
use Rattle.cep_expression.proofs.grammar.Grammar.disjuncts.Given as goal

abbrev pub invariant-loop-turn : goal.invariant-loop-turn
invariant-loop-turn g l =
    with_front l.found (many (l._turn-end - l._turn) (symbol (codes "||")) (next_disjunct (expression l.self.room) l.self.room) l.cursor) ≡ disjuncts (expression l.self.room) l.self.room l.fn.cursor
