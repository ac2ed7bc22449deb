use Rattle.std.proofs.Common.{refl}
use Rattle.cep_session.specs.Handling.{given}
use Rattle.cep_session.proofs.Endings.{complete}
use Rattle.cep_session.proofs.Steps.{started}
use Rattle.cep_session.proofs.Told.{untouched, nothing_owed}
use Rattle.cep_session.specs.declared.status.Status.TheVariants.{NoMemory}
use Rattle.cep_session.proofs.stream.run.Goals as goal

pub returns-in-Ok-clause-outcome : goal.returns-in-Ok-clause-outcome
returns-in-Ok-clause-outcome g c =
    let ran = c.run in
    λ m all stands start_is.
    let at_first = given (g.K.Sink.taken c.args.output.now) (g.H.Handler.shown c.args.beside.now) in
    let going = started g.H.Handler.stands m (g.S.Source.left c.args.input.now) at_first _ stands refl c.new.ensures in
    ran.ensures.ends m _ _ going all start_is

pub returns-in-Ok-clause-complete : goal.returns-in-Ok-clause-complete
returns-in-Ok-clause-complete g c =
    let ran = c.run in
    λ m all stands start_is.
    let at_first = given (g.K.Sink.taken c.args.output.now) (g.H.Handler.shown c.args.beside.now) in
    let going = started g.H.Handler.stands m (g.S.Source.left c.args.input.now) at_first _ stands refl c.new.ensures in
    complete m c.args.allowed ran.result all _ _ _ _ _ (ran.ensures.ends m _ _ going all start_is) ran.ensures.read ran.ensures.write

pub returns-in-Err-clause-outcome : goal.returns-in-Err-clause-outcome
returns-in-Err-clause-outcome g c = λ m all stands start_is. untouched m c.args.allowed NoMemory all _ _ start_is (nothing_owed m c.args.allowed all)
