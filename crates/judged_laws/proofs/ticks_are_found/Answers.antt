use Rattle.judged_laws.proofs.FoundLaws.{found_after}
use Rattle.judged_laws.proofs.ticks_are_found.Goals as goal

pub returns : goal.returns
returns c = found_after
