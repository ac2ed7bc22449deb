use Rattle.std.proofs.Common.{◌≡◌, ◌*◌, ◌^◌, take, pos, ◌+ℤ◌, neg_ℤ, ◌≤ℤ◌, fold}
use Rattle.std.specs.Prelude.{filter_map}
use Rattle.cond_eval.specs.Known.{number_taken}
use Rattle.cond_eval.proofs.aggregate.sum_for.Given as goal

abbrev pub invariant-loop-taken : goal.invariant-loop-taken
invariant-loop-taken l =
    record {
      summed : l.total ≡ fold (λ x y. x +ℤ y) (pos 0) (filter_map (number_taken l.types l.stage l.field) (take l.taken-index l.list));
      low :
          neg_ℤ (pos (2 ^ 63 * l.taken-index)) ≤ℤ l.total;
      high : l.total ≤ℤ pos (2 ^ 63 * l.taken-index);
    }
