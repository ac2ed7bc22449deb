use Rattle.std.proofs.Common.{refl, subst, ap}
use Rattle.std.specs.Prelude.{Ok, Err}
use Rattle.pattern_file.specs.Checked.{ArePlannedAs}
use Rattle.cep_cli.specs.Load.{load_sizes, load_summary}
use Rattle.cep_cli.specs.Verdict.{HasPrinted, HasShown}
use Rattle.cep_cli.proofs.StopLaws.{accepted-judged, stopped-judged, same-accepted, accepted-stops, fault-told, printed-nothing, shown-nothing, stopped-unread, load-of-input, load-unread, load-never-words, load-never-fault, load-never-refused, load-done}
use Rattle.cep_cli.proofs.program.load_file.Goals as goal

pub returns-in-Ok-clause-words : goal.returns-in-Ok-clause-words
returns-in-Ok-clause-words g c = load-never-words c.load_run.result c.load_run.ensures.status

pub returns-in-Ok-clause-shown : goal.returns-in-Ok-clause-shown
returns-in-Ok-clause-shown g c = load-of-input c.load_run.result c.load_run.ensures.status

pub returns-in-Ok-clause-untouched : goal.returns-in-Ok-clause-untouched
returns-in-Ok-clause-untouched g c = load-unread c.load_run.result c.load_run.ensures.status _

pub returns-in-Ok-clause-pattern_fault : goal.returns-in-Ok-clause-pattern_fault
returns-in-Ok-clause-pattern_fault g c = λ is. absurd (load-never-fault c.load_run.result c.load_run.ensures.status is)

pub returns-in-Ok-clause-pattern : goal.returns-in-Ok-clause-pattern
returns-in-Ok-clause-pattern g c = λ content told.
    accepted-judged (ArePlannedAs content) (c.unique_answers.ensures.planned content) c.in-Ok.plan c.load_run.result _
    (c.in-Ok.ensures.told content told) (load-never-refused c.load_run.result c.load_run.ensures.status)

pub returns-in-Ok-clause-showed : goal.returns-in-Ok-clause-showed
returns-in-Ok-clause-showed g c = λ content plan told planned.
    let same = same-accepted (ArePlannedAs content) (c.unique_answers.ensures.planned content) c.in-Ok.plan plan
    (c.in-Ok.ensures.told content told) planned in
    subst (λ p. HasPrinted c.load_run.result (g.K.Sink.taken c.args.output.now) (g.K.Sink.taken c.load_run.new.output)
    (load_summary c.args.options p)) same c.load_run.ensures.showed

pub returns-in-Ok-clause-loaded : goal.returns-in-Ok-clause-loaded
returns-in-Ok-clause-loaded g c = λ content plan told planned.
    let same = same-accepted (ArePlannedAs content) (c.unique_answers.ensures.planned content) c.in-Ok.plan plan
    (c.in-Ok.ensures.told content told) planned in
    subst (λ p. HasShown c.load_run.result (g.G.Gauge.seen c.args.gauge.now) (g.G.Gauge.seen c.load_run.new.gauge)
    (load_sizes c.args.options p)) same c.load_run.ensures.loaded

pub returns-in-Ok-clause-complete : goal.returns-in-Ok-clause-complete
returns-in-Ok-clause-complete g c = λ content told no_file no_write memory. (
  Ok (load_summary c.args.options c.in-Ok.plan),
  (c.in-Ok.plan, c.in-Ok.ensures.told content told, refl),
  load-done c.load_run.result c.load_run.ensures.status (λ is. no_write (c.load_run.ensures.write is)) memory,
)

pub returns-in-Err-clause-shown : goal.returns-in-Err-clause-shown
returns-in-Err-clause-shown g c = stopped-unread c.in-Err.stop c.status.result c.status.ensures.told

pub returns-in-Err-clause-pattern : goal.returns-in-Err-clause-pattern
returns-in-Err-clause-pattern g c = λ content told.
    stopped-judged (ArePlannedAs content) (c.unique_answers.ensures.planned content) c.in-Err.stop c.status.result _ c.status.ensures.told
    (c.in-Err.ensures.told content told) (refl, refl)

pub returns-in-Err-clause-showed : goal.returns-in-Err-clause-showed
returns-in-Err-clause-showed g c = λ content plan told planned.
    printed-nothing c.in-Err.stop c.status.result (g.K.Sink.taken c.args.output.now) (load_summary c.args.options plan) c.status.ensures.told
    (accepted-stops (ArePlannedAs content) (c.unique_answers.ensures.planned content) c.in-Err.stop plan (c.in-Err.ensures.told content told) planned)

pub returns-in-Err-clause-loaded : goal.returns-in-Err-clause-loaded
returns-in-Err-clause-loaded g c = λ content plan told planned.
    shown-nothing c.in-Err.stop c.status.result (g.G.Gauge.seen c.args.gauge.now) (load_sizes c.args.options plan) c.status.ensures.told
    (accepted-stops (ArePlannedAs content) (c.unique_answers.ensures.planned content) c.in-Err.stop plan (c.in-Err.ensures.told content told) planned)

pub returns-in-Err-clause-complete : goal.returns-in-Err-clause-complete
returns-in-Err-clause-complete g c = λ content told no_file no_write memory.
    let f = fault-told (ArePlannedAs content) c.in-Err.stop c.status.result c.status.ensures.told (c.in-Err.ensures.told content told)
    (λ is. no_file (c.in-Err.ensures.failed (ap (λ w. Err w) is))) memory in
    (Err f.0, f.1, f.2)
