use Rattle.std.proofs.Common.{◌≡◌, sym, ◌∙◌, ap, subst, ◌+◌, ◌<◌, ◌^◌, ◌-◌, length, arith, inl, inr, refl}
use Rattle.std.specs.Prelude.{Ok, Err}
use Rattle.cep_session.specs.Handling.{given}
use Rattle.cep_cli.specs.Records.{record_in, records_of}
use Rattle.cep_cli.proofs.RowLaws.{comes_behind}
use Rattle.cep_records.specs.Numbered.{AreNumbered}
use Rattle.cep_cli.proofs.BegunLaws.{numbered, records-length, refused, read-here, goes-on, part-written}
use Rattle.cep_cli.proofs.run.EngineRunHandlerHeld.line.Goals as goal

pub record_in-requires : goal.record_in-requires
record_in-requires g c =
    let run = c.requires.ready.2 in
    subst (λ p. AreNumbered p.types) (sym (c.plan.ensures run.lag run.plan _ run.passed)) (numbered run.plan run.usable)

pub cause-requires-clause-ready : goal.cause-requires-clause-ready
cause-requires-clause-ready g c =
    let m = c.requires.ready.0 in
    let lines = c.requires.ready.1 in
    let run = c.requires.ready.2 in
    let s = c.args.self.now in
    let plan = c.plan.ensures run.lag run.plan _ run.passed in
    let read : record_in s.header run.plan.types (s.handled + 1) c.args.line.now ≡ Ok c.in-Ok.next =
    (λ i. record_in s.header (sym plan i).types (s.handled + 1) c.args.line.now) ∙ c.in-Ok.ensures in (
      run.lag,
      run.plan,
      records_of s.header run.plan.types lines,
      run.passed,
      comes_behind s.header run.plan.types lines c.args.line.now c.in-Ok.next
          (read-here m s.header s.pipeline s.rows.gathered s.handled lines c.args.line.now run c.in-Ok.next read),
      omega (arith, records-length s.header run.plan.types lines, c.requires.ready.3),
    )

pub returns-in-Err-Bad-clause-handled : goal.returns-in-Err-Bad-clause-handled
returns-in-Err-Bad-clause-handled g c = λ m lines run.
    let s = c.args.self.now in
    let plan = c.plan.ensures run.lag run.plan _ run.passed in
    let told = rw c.in-Err-Bad.field-0-is at c.in-Err-Bad.ensures in
    let read : record_in s.header run.plan.types (s.handled + 1) c.args.line.now ≡ Err c.in-Err-Bad.cause =
    (λ i. record_in s.header (sym plan i).types (s.handled + 1) c.args.line.now) ∙ told in
    (refused m s.header s.pipeline s.rows.gathered s.handled lines c.args.line.now run c.in-Err-Bad.cause read, refl)

pub returns-in-Ok-cause-clause-handled : goal.returns-in-Ok-cause-clause-handled
returns-in-Ok-cause-clause-handled g c = λ m lines run.
    let before = given (g.K.Sink.taken c.args.output.now) (g.G.Gauge.seen c.args.gauge.now) in
    let after = given (g.K.Sink.taken c.cause.new.output) (g.G.Gauge.seen c.cause.new.gauge) in
    let s = c.args.self.now in
    let plan = c.plan.ensures run.lag run.plan _ run.passed in
    let read : record_in s.header run.plan.types (s.handled + 1) c.args.line.now ≡ Ok c.in-Ok.next =
    (λ i. record_in s.header (sym plan i).types (s.handled + 1) c.args.line.now) ∙ c.in-Ok.ensures in
    let few : length lines < 2 ^ 32 - 1 = omega (arith, c.requires.ready.3, c.requires.ready.2.counted, run.counted) in
    goes-on m s.header s.pipeline s.rows.gathered s.handled lines c.args.line.now run c.in-Ok.next read c.cause.new.pipeline
    c.cause.new.rows.gathered before after few c.in-Ok-cause.ensures.empty
    (c.in-Ok-cause.ensures.caused run.lag run.plan (records_of s.header run.plan.types lines) run.passed)
    (c.in-Ok-cause.ensures.shown run.lag run.plan (records_of s.header run.plan.types lines) run.passed)

pub returns-in-Err-NoMemory-cause-clause-handled : goal.returns-in-Err-NoMemory-cause-clause-handled
returns-in-Err-NoMemory-cause-clause-handled g c = λ m lines run.
    let before = given (g.K.Sink.taken c.args.output.now) (g.G.Gauge.seen c.args.gauge.now) in
    let after = given (g.K.Sink.taken c.cause.new.output) (g.G.Gauge.seen c.cause.new.gauge) in
    let s = c.args.self.now in
    let plan = c.plan.ensures run.lag run.plan _ run.passed in
    let read : record_in s.header run.plan.types (s.handled + 1) c.args.line.now ≡ Ok c.in-Ok.next =
    (λ i. record_in s.header (sym plan i).types (s.handled + 1) c.args.line.now) ∙ c.in-Ok.ensures in
    inr (part-written m s.header s.pipeline s.rows.gathered s.handled lines c.args.line.now run c.in-Ok.next read before after
    (c.in-Err-NoMemory-cause.ensures.caused run.lag run.plan (records_of s.header run.plan.types lines) run.passed)
    (c.in-Err-NoMemory-cause.ensures.shown run.lag run.plan (records_of s.header run.plan.types lines) run.passed))

pub returns-in-Err-Failed-clause-handled : goal.returns-in-Err-Failed-clause-handled
returns-in-Err-Failed-clause-handled g c = λ m lines run.
    let before = given (g.K.Sink.taken c.args.output.now) (g.G.Gauge.seen c.args.gauge.now) in
    let after = given (g.K.Sink.taken c.cause.new.output) (g.G.Gauge.seen c.cause.new.gauge) in
    let s = c.args.self.now in
    let plan = c.plan.ensures run.lag run.plan _ run.passed in
    let read : record_in s.header run.plan.types (s.handled + 1) c.args.line.now ≡ Ok c.in-Ok.next =
    (λ i. record_in s.header (sym plan i).types (s.handled + 1) c.args.line.now) ∙ c.in-Ok.ensures in
    part-written m s.header s.pipeline s.rows.gathered s.handled lines c.args.line.now run c.in-Ok.next read before after
    (c.in-Err-Failed.ensures.caused run.lag run.plan (records_of s.header run.plan.types lines) run.passed)
    (c.in-Err-Failed.ensures.shown run.lag run.plan (records_of s.header run.plan.types lines) run.passed)
