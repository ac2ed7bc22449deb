use Rattle.std.proofs.Common.{ap, arith, cond, count_by}
use Rattle.std.proofs.lemmas.List.Sums.{sum_by-append}
use Rattle.shared_buffer.specs.Graph.{is_successor}
use Rattle.shared_buffer.proofs.edges.Edges.successors.Goals as goal

pub returns : goal.returns
returns c =
    rw (← c.self.view_is)
    (omega (
      arith,
      c.count_successors.ensures.counted,
      c.count_successors-2.ensures.counted,
      ap (count_by (is_successor c.args.node c.args.label.now)) c.as_slices.ensures.items,
      sum_by-append (λ e. cond (is_successor c.args.node c.args.label.now e) 1 0) c.as_slices.result.0.now c.as_slices.result.1.now,
    ))
