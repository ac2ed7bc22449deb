use Rattle.std.proofs.Common.{◌≡◌, ◌-◌}
use Rattle.cep_expression.specs.Terminal.{is_factor_sign}
use Rattle.cep_reading.specs.Reading.{many}
use Rattle.cep_reading.proofs.ManyLemmas.{with_front}
use Rattle.cep_expression.specs.Reader.{expression, next_factor, factors}
use Rattle.cep_expression.proofs.grammar.Grammar.factors.Given as goal

abbrev pub invariant-loop-turn : goal.invariant-loop-turn
invariant-loop-turn g l =
    with_front l.found (many (l._turn-end - l._turn) is_factor_sign (next_factor (expression l.self.room)) l.cursor)
    ≡ factors (expression l.self.room) l.self.room l.fn.cursor
