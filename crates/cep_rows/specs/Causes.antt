-- The numbers of the causes for which a row is refused (this project's own).
use Rattle.std.specs.Prelude.{ℕ}
use Rattle.cep_rows.specs.declared.cause.RowCause.{RowCause}
use Rattle.cep_rows.specs.declared.cause.RowCause.TheVariants as cause

abbrev pub cause_number : RowCause → ℕ
cause_number cause.LineTooLong = 1
cause_number cause.NotText = 2
cause_number cause.OpenQuote = 3
cause_number cause.UnknownType = 4
cause_number cause.FieldCount = 5
cause_number cause.BadTime = 6
cause_number (cause.BadNumber field) = 7
