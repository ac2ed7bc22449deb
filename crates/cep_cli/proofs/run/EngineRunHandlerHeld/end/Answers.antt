use Rattle.std.proofs.Common.{arith}
use Rattle.cep_session.specs.Handling.{given}
use Rattle.cep_cli.specs.Records.{records_of}
use Rattle.cep_cli.proofs.BegunLaws.{records-length, owed-whole, owed-part}
use Rattle.cep_cli.proofs.run.EngineRunHandlerHeld.end.Goals as goal

pub owe-requires-clause-ready : goal.owe-requires-clause-ready
owe-requires-clause-ready g c =
    let run = c.requires.2 in (
      run.lag,
      run.plan,
      records_of c.args.self.header run.plan.types c.requires.1,
      run.passed,
      omega
          (arith, records-length c.args.self.header run.plan.types c.requires.1, run.room),
    )

pub returns-in-Ok-clause-ended : goal.returns-in-Ok-clause-ended
returns-in-Ok-clause-ended g c = λ m lines run.
    let s = c.args.self in
    let records = records_of s.header run.plan.types lines in
    owed-whole m s.header s.pipeline s.rows.gathered s.handled lines run
    (given (g.K.Sink.taken c.args.output.now) (g.G.Gauge.seen c.args.gauge.now)) (given (g.K.Sink.taken c.owe.new.output) (g.G.Gauge.seen c.owe.new.gauge))
    (c.in-Ok.ensures.owed run.lag run.plan records run.passed) (c.in-Ok.ensures.shown run.lag run.plan records run.passed)

pub returns-in-Err-NoMemory-clause-ended : goal.returns-in-Err-NoMemory-clause-ended
returns-in-Err-NoMemory-clause-ended g c = λ m lines run.
    let s = c.args.self in
    let records = records_of s.header run.plan.types lines in
    owed-part m s.header s.pipeline s.rows.gathered s.handled lines run
    (given (g.K.Sink.taken c.args.output.now) (g.G.Gauge.seen c.args.gauge.now)) (given (g.K.Sink.taken c.owe.new.output) (g.G.Gauge.seen c.owe.new.gauge))
    (c.in-Err-NoMemory.ensures.owed run.lag run.plan records run.passed) (c.in-Err-NoMemory.ensures.shown run.lag run.plan records run.passed)
