use Rattle.judged_laws.proofs.OnceLaws.{given_once}
use Rattle.judged_laws.proofs.no_two_ticks_give_a_match.Goals as goal

pub returns : goal.returns
returns c = given_once
