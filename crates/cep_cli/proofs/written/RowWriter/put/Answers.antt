use Rattle.cep_cli.proofs.WrittenLaws.{written-added, gather-added}
use Rattle.std.proofs.Common.{arith, ap, length}
use Rattle.cep_cli.proofs.written.RowWriter.put.Goals as goal

pub returns-then-row-gt-PIECE : goal.returns-then-row-gt-PIECE
returns-then-row-gt-PIECE g c =
    written-added g.K.Sink.taken g.K.Sink.faults (c.args.self.now, c.args.output.now)
    (c.args.self.now, c.write.new.output) c.args.row.now c.write.result c.requires c.requires c.write.ensures.whole c.write.ensures.part
    c.write.ensures.later c.write.ensures.cause

pub returns : goal.returns
returns g c =
    gather-added g.K.Sink.taken g.K.Sink.faults c.args.self.now c.gather.new.self c.args.output.now c.args.row.now c.gather.result
    c.gather.ensures.ok c.gather.ensures.err
    (λ few. omega (arith, ap length c.requires, c.if-row-gt-PIECE.false))
