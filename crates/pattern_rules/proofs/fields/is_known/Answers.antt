use Rattle.pattern_rules.proofs.FieldLaws.{known_is}
use Rattle.pattern_rules.proofs.fields.is_known.Goals as goal

pub returns : goal.returns
returns c = cc (known_is c.args.fields.now c.args.name.now)
