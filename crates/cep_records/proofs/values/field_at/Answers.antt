use Rattle.std.proofs.Common.{sym}
use Rattle.cep_records.proofs.FieldLaws.{none-at}
use Rattle.cep_records.proofs.values.field_at.Goals as goal

pub returns-in-None : goal.returns-in-None
returns-in-None c = sym (none-at c.args.fields.now c.args.place (rw c.in-None.is at c.get.ensures))
