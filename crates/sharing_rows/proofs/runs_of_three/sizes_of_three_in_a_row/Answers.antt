use Rattle.std.proofs.Common.{refl}
use Rattle.sharing_rows.specs.Sizes.{computing_sizes}
use Rattle.sharing_rows.proofs.runs_of_three.sizes_of_three_in_a_row.Goals as goal

-- the tactics' limit of steps is below what this row takes to compute
pub returns : goal.returns
unfolding computing_sizes
returns c = refl
