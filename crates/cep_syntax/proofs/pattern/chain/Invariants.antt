use Rattle.std.proofs.Common.{◌≡◌, ◌-◌}
use Rattle.std.specs.Prelude.{codes}
use Rattle.cep_reading.specs.Reading.{links}
use Rattle.cep_syntax.specs.Terminal.{is_limit}
use Rattle.cep_syntax.specs.Links.{started, added}
use Rattle.cep_syntax.specs.Reader.{any_link, ending, chain}
use Rattle.cep_syntax.proofs.pattern.chain.Given as goal

abbrev pub invariant-loop-turn : goal.invariant-loop-turn
invariant-loop-turn l =
    links (l.room - l._turn) (codes ".") is_limit added (λ b. any_link l.room b.fresh) ending l.building l.cursor
    ≡ chain l.room (started l.fn.name) l.fn.cursor
