use Rattle.std.proofs.Common.{◌∙◌, sym}
use Rattle.line_fields.proofs.LineLaws.{fields_from_field-plain}
use Rattle.line_fields.proofs.reading.find_fields.Goals as goal

pub returns-then-branch-clause-fields : goal.returns-then-branch-clause-fields
returns-then-branch-clause-fields c =
    let split = c.in_ok-split_at_commas.ensures in
    split.cut c.if-branch.true ∙ sym (fields_from_field-plain c.args.line.now (split.plain c.if-branch.true))
    ∙ sym (c.starts_field.ensures c.if-starts_field.true)
