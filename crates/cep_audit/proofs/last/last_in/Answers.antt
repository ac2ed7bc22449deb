use Rattle.std.proofs.Common.{sym, ◌∙◌}
use Rattle.live_laws.proofs.LastLaws.{last_or-get}
use Rattle.cep_audit.proofs.last.last_in.Goals as goal

pub returns : goal.returns
returns c = c.last.ensures.value ∙ sym (last_or-get c.args.taken.now)
