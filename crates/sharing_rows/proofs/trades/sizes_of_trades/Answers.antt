use Rattle.std.proofs.Common.{refl}
use Rattle.sharing_rows.specs.Sizes.{computing_sizes}
use Rattle.sharing_rows.proofs.trades.sizes_of_trades.Goals as goal

-- the tactics' limit of steps is below what this row takes to compute
pub returns : goal.returns
unfolding computing_sizes
returns c = refl
