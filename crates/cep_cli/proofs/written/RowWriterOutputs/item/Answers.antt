use Rattle.std.proofs.Common.{sym, ◌∙◌, ap, subst}
use Rattle.std.specs.Prelude.{Err}
use Rattle.std.proofs.lemmas.Result.{err_from_is_err_and}
use Rattle.event_pipeline.specs.declared.outputs.TellFault.TheVariants.{NoMemory}
use Rattle.event_pipeline.specs.Told.{item_told}
use Rattle.event_pipeline.proofs.TickLaws.{same-fault}
use Rattle.cep_cli.specs.Written.{IsAdded}
use Rattle.cep_cli.proofs.WrittenLaws.{told-added, added-from, added-to, short-told}
use Rattle.cep_cli.proofs.written.RowWriterOutputs.item.Goals as goal

pub returns : goal.returns
returns g c =
    told-added g.K.Sink.taken g.K.Sink.faults c.args.plan.now (item_told c.args.item.now) (c.args.self.now, c.args.output.now)
    (record c.add-outcome.new.self { spare = c.in_ok-row.row }, c.add-outcome.new.output) c.add-outcome.result
    (added-to g.K.Sink.taken g.K.Sink.faults (c.args.self.now, c.args.output.now) c.add-outcome.new.self
    (record c.add-outcome.new.self { spare = c.in_ok-row.row }) c.add-outcome.new.output _ c.add-outcome.result (λ i. c.add-outcome.new.self.gathered)
    (added-from g.K.Sink.taken g.K.Sink.faults c.args.self.now c.row_of.new.self c.args.output.now
    (c.add-outcome.new.self, c.add-outcome.new.output) _ c.add-outcome.result c.row_of.ensures.gathered
    (subst (λ t. IsAdded g.K.Sink.taken g.K.Sink.faults (c.row_of.new.self, c.args.output.now)
    (c.add-outcome.new.self, c.add-outcome.new.output) t c.add-outcome.result) (c.as_slice.ensures ∙ c.in_ok-row.ensures.row) c.add-outcome.ensures)))

pub returns-in_err-row : goal.returns-in_err-row
returns-in_err-row g c =
    let p = err_from_is_err_and c.from_residual.result c.from_residual.ensures.1 in
    rw (p.1, p.2, same-fault c.in_err-row.field-0.0 NoMemory c.in_err-row.ensures.fault)
    (short-told g.K.Sink.taken g.K.Sink.faults c.args.plan.now
    (item_told c.args.item.now) c.args.self.now c.row_of.new.self c.args.output.now c.row_of.ensures.gathered)
