use Rattle.std.proofs.Common.{refl, subst, ap}
use Rattle.std.specs.Prelude.{Ok, Err}
use Rattle.cep_session.specs.Handling.{given}
use Rattle.cep_session.specs.Progress.{Ended}
use Rattle.pattern_file.specs.Checked.{ArePlannedAs}
use Rattle.cep_cli.specs.Meaning.{meaning_of}
use Rattle.cep_cli.proofs.StopLaws.{accepted-judged, stopped-judged, same-accepted, accepted-stops, fault-told, ended-nothing, begun-fault, begun-refused, stopped-blames}
use Rattle.cep_cli.proofs.program.run_file.Goals as goal

pub returns-in-Ok-clause-pattern : goal.returns-in-Ok-clause-pattern
returns-in-Ok-clause-pattern g c = λ content told.
    accepted-judged (ArePlannedAs content) (c.unique_answers.ensures.planned content) c.in-Ok.plan c.run_plan.result _
    (c.in-Ok.ensures.told content told) (begun-refused c.run_plan.result c.run_plan.ensures.begun)

pub returns-in-Ok-clause-ran : goal.returns-in-Ok-clause-ran
returns-in-Ok-clause-ran g c = λ content all plan told planned left.
    let same = same-accepted (ArePlannedAs content) (c.unique_answers.ensures.planned content) c.in-Ok.plan plan
    (c.in-Ok.ensures.told content told) planned in
    subst (λ p. Ended (meaning_of c.args.options.header c.args.options.lag p) c.args.options.rows c.run_plan.result all (g.S.Source.left c.run_plan.new.input)
    (given (g.K.Sink.taken c.args.output.now) (g.G.Gauge.seen c.args.gauge.now)) (given (g.K.Sink.taken c.run_plan.new.output)
    (g.G.Gauge.seen c.run_plan.new.gauge))) same
    (c.run_plan.ensures.ran all left)

pub returns-in-Ok-clause-complete : goal.returns-in-Ok-clause-complete
returns-in-Ok-clause-complete g c = λ content all told left well.
    (Ok c.in-Ok.plan, c.in-Ok.ensures.told content told, c.run_plan.ensures.complete all left (well.input refl) well.output well.memory)

pub returns-in-Ok-clause-blamed : goal.returns-in-Ok-clause-blamed
returns-in-Ok-clause-blamed g c = record {
  file = λ is. absurd (begun-fault c.run_plan.result c.run_plan.ensures.begun is);
  input = c.run_plan.ensures.read;
  output = c.run_plan.ensures.write;
}

pub returns-in-Err-clause-pattern : goal.returns-in-Err-clause-pattern
returns-in-Err-clause-pattern g c = λ content told.
    stopped-judged (ArePlannedAs content) (c.unique_answers.ensures.planned content) c.in-Err.stop c.status.result _ c.status.ensures.told
    (c.in-Err.ensures.told content told) (refl, refl, refl)

pub returns-in-Err-clause-ran : goal.returns-in-Err-clause-ran
returns-in-Err-clause-ran g c = λ content all plan told planned left.
    ended-nothing (meaning_of c.args.options.header c.args.options.lag plan) c.args.options.rows c.in-Err.stop c.status.result all _ _ c.status.ensures.told
    (accepted-stops (ArePlannedAs content) (c.unique_answers.ensures.planned content) c.in-Err.stop plan (c.in-Err.ensures.told content told) planned) left

pub returns-in-Err-clause-complete : goal.returns-in-Err-clause-complete
returns-in-Err-clause-complete g c = λ content all told left well.
    let f = fault-told (ArePlannedAs content) c.in-Err.stop c.status.result c.status.ensures.told (c.in-Err.ensures.told content told)
    (λ is. well.file (c.in-Err.ensures.failed (ap (λ w. Err w) is))) well.memory in
    (Err f.0, f.1, f.2)

pub returns-in-Err-clause-blamed : goal.returns-in-Err-clause-blamed
returns-in-Err-clause-blamed g c = stopped-blames c.in-Err.stop c.status.result _ _ c.status.ensures.told (λ is. c.in-Err.ensures.failed (ap (λ w. Err w) is))
