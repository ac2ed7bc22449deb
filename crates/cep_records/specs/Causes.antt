-- What an answer tells (this project's own).
use Rattle.std.specs.Prelude.{◌≡◌, Result, Ok, Err}
use Rattle.cep_rows.specs.declared.cause.RowCause.{RowCause}
use Rattle.cep_records.specs.declared.cause.RowFault.{RowFault}
use Rattle.cep_records.specs.declared.cause.RowFault.TheVariants as fault

-- The answer is what is told. Want of memory may be answered in its place.
abbrev pub Answers : {T : Type 0} → Result T RowFault → Result T RowCause → Type 0
Answers (Ok value) told = told ≡ Ok value
Answers (Err fault.NoMemory) told = Unit {0}
Answers (Err (fault.Bad cause)) told = told ≡ Err cause
