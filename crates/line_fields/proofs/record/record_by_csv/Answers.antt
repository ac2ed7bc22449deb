use Rattle.std.proofs.Common.{◌∙◌}
use Rattle.line_fields.specs.Line.{fields_of_line}
use Rattle.line_fields.proofs.LineLaws.{fields_read-none, fields_read-some}
use Rattle.line_fields.proofs.record.record_by_csv.Goals as goal

pub returns-in-Some : goal.returns-in-Some
unfolding fields_of_line
returns-in-Some c = fields_read-some _ _ (rw c.in-Some.is at c.in_ok-row.ensures)

pub returns-in-None : goal.returns-in-None
unfolding fields_of_line
returns-in-None c = c.new.ensures.fields ∙ fields_read-none _ (rw c.in-None.is at c.in_ok-row.ensures)
