use Rattle.std.proofs.Common.{sym, ◌∙◌, subst, arith}
use Rattle.std.proofs.lemmas.Result.{err_from_is_err_and}
use Rattle.event_pipeline.specs.declared.outputs.TellFault.TheVariants.{Failed}
use Rattle.event_pipeline.specs.Shown.{sizes_at_end}
use Rattle.event_pipeline.specs.Told.{told_at_end}
use Rattle.event_pipeline.proofs.TickLaws.{same-fault}
use Rattle.cep_cli.specs.Meaning.{owed_text}
use Rattle.cep_cli.specs.Run.{IsShown, IsWritten}
use Rattle.cep_cli.proofs.WrittenLaws.{shown-whole, written-whole, written-cut, text-owed, gathered-all, cut-among, rose-behind}
use Rattle.cep_cli.proofs.run.owe.Goals as goal

pub returns-clause-owed : goal.returns-clause-owed
returns-clause-owed g c = λ lag plan records h.
    let handled = c.in_ok-end.ensures.told lag plan records h in
    written-whole g.K.Sink.taken g.K.Sink.faults plan (c.args.rows.now, c.args.output.now) (c.end.new.outputs, c.end.new.to)
    (g.K.Sink.taken c.flush.new.output) (told_at_end lag plan records) (owed_text lag plan records) c.flush.result
    handled c.requires.empty (text-owed lag plan records) c.flush.ensures.whole c.flush.ensures.part

pub returns-clause-later : goal.returns-clause-later
returns-clause-later g c =
    let h = c.requires.ready in
    let handled = c.in_ok-end.ensures.told h.0 h.1 h.2 h.3 in
    let all = gathered-all g.K.Sink.taken g.K.Sink.faults h.1 (c.args.rows.now, c.args.output.now) (c.end.new.outputs, c.end.new.to)
    (told_at_end h.0 h.1 h.2) handled in
    omega (arith, all.later, c.flush.ensures.later)

pub returns-clause-fault : goal.returns-clause-fault
returns-clause-fault g c = λ is.
    let h = c.requires.ready in
    let handled = c.in_ok-end.ensures.told h.0 h.1 h.2 h.3 in
    let all = gathered-all g.K.Sink.taken g.K.Sink.faults h.1 (c.args.rows.now, c.args.output.now) (c.end.new.outputs, c.end.new.to)
    (told_at_end h.0 h.1 h.2) handled in
    rose-behind _ _ _ all.later (c.flush.ensures.cause is)

pub returns-in_err-end-clause-owed : goal.returns-in_err-end-clause-owed
returns-in_err-end-clause-owed g c = λ lag plan records h.
    let p = err_from_is_err_and c.from_residual.result c.from_residual.ensures.1 in
    subst (λ r. IsWritten (owed_text lag plan records) (g.K.Sink.taken c.args.output.now) (g.K.Sink.taken c.end.new.to) r) (sym p.1)
    (written-cut g.K.Sink.taken g.K.Sink.faults plan c.in_err-end.field-0.0 (c.args.rows.now, c.args.output.now) (c.end.new.outputs, c.end.new.to)
    (told_at_end lag plan records) (owed_text lag plan records)
    (c.in_err-end.ensures.told lag plan records h) c.requires.empty (text-owed lag plan records))

pub returns-in_err-end-clause-later : goal.returns-in_err-end-clause-later
returns-in_err-end-clause-later g c =
    let h = c.requires.ready in
    let cut = cut-among g.K.Sink.taken g.K.Sink.faults h.1 c.in_err-end.field-0.0 (c.args.rows.now, c.args.output.now)
    (c.end.new.outputs, c.end.new.to) (told_at_end h.0 h.1 h.2) (c.in_err-end.ensures.told h.0 h.1 h.2 h.3) in
    cut.later

pub returns-in_err-end-clause-fault : goal.returns-in_err-end-clause-fault
returns-in_err-end-clause-fault g c =
    let h = c.requires.ready in
    let p = err_from_is_err_and c.from_residual.result c.from_residual.ensures.1 in
    let cut = cut-among g.K.Sink.taken g.K.Sink.faults h.1 c.in_err-end.field-0.0 (c.args.rows.now, c.args.output.now)
    (c.end.new.outputs, c.end.new.to) (told_at_end h.0 h.1 h.2) (c.in_err-end.ensures.told h.0 h.1 h.2 h.3) in
    λ is. cut.cause (sym p.2 ∙ same-fault p.0 Failed (sym p.1 ∙ is))

pub returns-clause-shown : goal.returns-clause-shown
returns-clause-shown g c = λ lag plan records h.
    shown-whole (g.G.Gauge.seen c.args.gauge.now) (g.G.Gauge.seen c.end.new.gauge) (sizes_at_end lag plan records) c.flush.result
    (c.in_ok-end.ensures.shown lag plan records h).0

pub returns-in_err-end-clause-shown : goal.returns-in_err-end-clause-shown
returns-in_err-end-clause-shown g c = λ lag plan records h.
    let p = err_from_is_err_and c.from_residual.result c.from_residual.ensures.1 in
    subst (IsShown (g.G.Gauge.seen c.args.gauge.now) (g.G.Gauge.seen c.end.new.gauge) (sizes_at_end lag plan records)) (sym p.1)
    (c.in_err-end.ensures.shown lag plan records h)
