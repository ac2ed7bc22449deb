use Rattle.std.proofs.Common.{subst, sym}
use Rattle.csv.specs.Records.{AllText}
use Rattle.line_fields.proofs.TextLaws.{fields_of_line-text}
use Rattle.line_fields.proofs.reading.read_fields.Goals as goal

pub returns-clause-text : goal.returns-clause-text
returns-clause-text c text = subst AllText (sym c.in_ok-held.ensures.fields) (fields_of_line-text c.args.line.now text)
