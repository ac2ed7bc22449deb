use Rattle.judged_laws.proofs.GivenLaws.{gives_just}
use Rattle.judged_laws.proofs.matches_are_given_just_there.Goals as goal

pub returns : goal.returns
returns c = gives_just
