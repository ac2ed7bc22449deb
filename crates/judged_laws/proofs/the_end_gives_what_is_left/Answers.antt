use Rattle.judged_laws.proofs.EndLaws.{given_by_end}
use Rattle.judged_laws.proofs.the_end_gives_what_is_left.Goals as goal

pub returns : goal.returns
returns c = given_by_end
