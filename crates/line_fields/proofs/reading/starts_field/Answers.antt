use Rattle.std.proofs.Common.{arith}
use Rattle.std.proofs.lemmas.Bool.{ne_eqb}
use Rattle.line_fields.proofs.LineLaws.{fields_of_line-first}
use Rattle.line_fields.proofs.reading.starts_field.Goals as goal

pub returns-in-Some : goal.returns-in-Some
returns-in-Some c =
    λ t. fields_of_line-first c.args.line.now c.in-Some.field-0.now c.in-Some.ensures.value (ne_eqb _ _ (λ e. omega (arith, e)))
    (ne_eqb _ _ (λ e. omega (arith, e))) (ne_eqb _ _ (λ e. omega (arith, e)))
