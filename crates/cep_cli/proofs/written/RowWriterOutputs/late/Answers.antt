use Rattle.std.proofs.Common.{sym, ◌∙◌, subst}
use Rattle.event_pipeline.specs.Told.{late_told}
use Rattle.cep_cli.specs.Written.{IsAdded}
use Rattle.cep_cli.proofs.WrittenLaws.{told-added, short-told}
use Rattle.cep_cli.proofs.written.RowWriterOutputs.late.Goals as goal

pub returns-in-Ok : goal.returns-in-Ok
returns-in-Ok g c = λ plan.
    told-added g.K.Sink.taken g.K.Sink.faults plan (late_told c.args.row) (c.args.self.now, c.args.output.now) (c.add.new.self, c.add.new.output) c.add.result
    (subst (λ t. IsAdded g.K.Sink.taken g.K.Sink.faults (c.args.self.now, c.args.output.now) (c.add.new.self, c.add.new.output) t c.add.result)
    (c.as_slice.ensures ∙ c.in-Ok.ensures) c.add.ensures)

pub returns-in-Err : goal.returns-in-Err
returns-in-Err g c = λ plan. short-told g.K.Sink.taken g.K.Sink.faults plan (late_told c.args.row) c.args.self.now c.args.self.now c.args.output.now
    (λ i. c.args.self.now.gathered)
