use Rattle.std.proofs.Common.{ap, arith}
use Rattle.std.specs.Prelude.{Err}
use Rattle.std.proofs.lemmas.Result.{err_from_is_err_and}
use Rattle.event_pipeline.specs.declared.outputs.TellFault.TheVariants.{Failed}
use Rattle.event_pipeline.proofs.TickLaws.{same-fault}
use Rattle.cep_cli.proofs.WrittenLaws.{gather-added, flush-added, flush-cut}
use Rattle.cep_cli.proofs.written.RowWriter.add.Goals as goal

pub returns-then-row-saturating_sub : goal.returns-then-row-saturating_sub
returns-then-row-saturating_sub g c =
    gather-added g.K.Sink.taken g.K.Sink.faults c.args.self.now c.gather.new.self c.args.output.now c.args.row.now c.gather.result
    c.gather.ensures.ok c.gather.ensures.err
    (λ few. omega (arith, few, c.len.ensures, c.saturating_sub.ensures, c.if-row-saturating_sub.true))

pub returns : goal.returns
returns g c =
    flush-added g.K.Sink.taken g.K.Sink.faults (c.args.self.now, c.args.output.now) (c.flush.new.self, c.flush.new.output)
    (c.put.new.self, c.put.new.output) c.args.row.now c.put.result c.in_ok-flush.ensures.whole c.in_ok-flush.ensures.empty c.flush.ensures.later c.put.ensures

pub returns-in_err-flush : goal.returns-in_err-flush
returns-in_err-flush g c =
    let p = err_from_is_err_and c.from_residual.result c.from_residual.ensures.1 in
    rw (p.1, p.2) (flush-cut g.K.Sink.taken g.K.Sink.faults c.in_err-flush.field-0.0 (c.args.self.now, c.args.output.now)
    (c.flush.new.self, c.flush.new.output) c.args.row.now c.flush.ensures.part c.flush.ensures.later
    (λ failed. c.in_err-flush.ensures.cause (ap (λ e. Err e) failed)))
