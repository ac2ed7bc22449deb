use Rattle.std.proofs.Common.{sym, ◌∙◌, subst, arith}
use Rattle.std.proofs.lemmas.Result.{err_from_is_err_and}
use Rattle.event_pipeline.specs.declared.outputs.TellFault.TheVariants.{Failed}
use Rattle.event_pipeline.specs.Shown.{sizes_added}
use Rattle.event_pipeline.specs.Told.{told_of}
use Rattle.event_pipeline.proofs.TickLaws.{same-fault}
use Rattle.cep_cli.specs.Meaning.{caused_text}
use Rattle.cep_cli.specs.Run.{IsCaused, IsShown}
use Rattle.cep_cli.proofs.WrittenLaws.{caused, shown-whole, written-whole, written-cut, text-caused, gathered-all, cut-among, rose-behind}
use Rattle.cep_cli.proofs.run.cause.Goals as goal

pub returns-clause-caused : goal.returns-clause-caused
returns-clause-caused g c = λ lag plan records h.
    let handled = c.in_ok-take.ensures.handled lag plan records h in
    caused lag plan records c.args.next c.take.new.self (g.K.Sink.taken c.args.output.now) (g.K.Sink.taken c.flush.new.output) c.flush.result handled.0
    (written-whole g.K.Sink.taken g.K.Sink.faults plan (c.args.rows.now, c.args.output.now) (c.take.new.outputs, c.take.new.to)
    (g.K.Sink.taken c.flush.new.output) (told_of lag plan records c.args.next) (caused_text lag plan records c.args.next) c.flush.result
    handled.1 c.requires.empty (text-caused lag plan records c.args.next) c.flush.ensures.whole c.flush.ensures.part)

pub returns-clause-later : goal.returns-clause-later
returns-clause-later g c =
    let h = c.requires.ready in
    let handled = c.in_ok-take.ensures.handled h.0 h.1 h.2 h.3 in
    let all = gathered-all g.K.Sink.taken g.K.Sink.faults h.1 (c.args.rows.now, c.args.output.now) (c.take.new.outputs, c.take.new.to)
    (told_of h.0 h.1 h.2 c.args.next) handled.1 in
    omega (arith, all.later, c.flush.ensures.later)

pub returns-clause-fault : goal.returns-clause-fault
returns-clause-fault g c = λ is.
    let h = c.requires.ready in
    let handled = c.in_ok-take.ensures.handled h.0 h.1 h.2 h.3 in
    let all = gathered-all g.K.Sink.taken g.K.Sink.faults h.1 (c.args.rows.now, c.args.output.now) (c.take.new.outputs, c.take.new.to)
    (told_of h.0 h.1 h.2 c.args.next) handled.1 in
    rose-behind _ _ _ all.later (c.flush.ensures.cause is)

pub returns-in_err-take-clause-caused : goal.returns-in_err-take-clause-caused
returns-in_err-take-clause-caused g c = λ lag plan records h.
    let p = err_from_is_err_and c.from_residual.result c.from_residual.ensures.1 in
    subst (λ r. IsCaused lag plan records c.args.next c.take.new.self (g.K.Sink.taken c.args.output.now) (g.K.Sink.taken c.take.new.to) r) (sym p.1)
    (written-cut g.K.Sink.taken g.K.Sink.faults plan c.in_err-take.field-0.0 (c.args.rows.now, c.args.output.now)
    (c.take.new.outputs, c.take.new.to) (told_of lag plan records c.args.next) (caused_text lag plan records c.args.next)
    (c.in_err-take.ensures.handled lag plan records h) c.requires.empty (text-caused lag plan records c.args.next))

pub returns-in_err-take-clause-later : goal.returns-in_err-take-clause-later
returns-in_err-take-clause-later g c =
    let h = c.requires.ready in
    let cut = cut-among g.K.Sink.taken g.K.Sink.faults h.1 c.in_err-take.field-0.0 (c.args.rows.now, c.args.output.now)
    (c.take.new.outputs, c.take.new.to) (told_of h.0 h.1 h.2 c.args.next) (c.in_err-take.ensures.handled h.0 h.1 h.2 h.3) in
    cut.later

pub returns-in_err-take-clause-fault : goal.returns-in_err-take-clause-fault
returns-in_err-take-clause-fault g c =
    let h = c.requires.ready in
    let p = err_from_is_err_and c.from_residual.result c.from_residual.ensures.1 in
    let cut = cut-among g.K.Sink.taken g.K.Sink.faults h.1 c.in_err-take.field-0.0 (c.args.rows.now, c.args.output.now)
    (c.take.new.outputs, c.take.new.to) (told_of h.0 h.1 h.2 c.args.next) (c.in_err-take.ensures.handled h.0 h.1 h.2 h.3) in
    λ is. cut.cause (sym p.2 ∙ same-fault p.0 Failed (sym p.1 ∙ is))

pub returns-clause-shown : goal.returns-clause-shown
returns-clause-shown g c = λ lag plan records h.
    shown-whole (g.G.Gauge.seen c.args.gauge.now) (g.G.Gauge.seen c.take.new.gauge) (sizes_added lag plan records c.args.next) c.flush.result
    (c.in_ok-take.ensures.shown lag plan records h).0

pub returns-in_err-take-clause-shown : goal.returns-in_err-take-clause-shown
returns-in_err-take-clause-shown g c = λ lag plan records h.
    let p = err_from_is_err_and c.from_residual.result c.from_residual.ensures.1 in
    subst (IsShown (g.G.Gauge.seen c.args.gauge.now) (g.G.Gauge.seen c.take.new.gauge) (sizes_added lag plan records c.args.next)) (sym p.1)
    (c.in_err-take.ensures.shown lag plan records h)
