use Rattle.std.proofs.Common.{arith}
use Rattle.cep_rows.proofs.Feeds.{found_in_window}
use Rattle.cep_rows.proofs.lines.place_of_feed.Goals as goal

pub returns : goal.returns
returns c = found_in_window _ _ _ (omega arith) c.first_feed.ensures
