-- The line that tells of a status (this project's own). Each ends with a line feed, and Done has none.
use Rattle.std.specs.Prelude.{ℕ, List, [], ◌++◌, codes, decimal}
use Rattle.cep_rows.specs.Causes.{cause_number}
use Rattle.cep_rows.specs.declared.cause.RowCause.{RowCause}
use Rattle.cep_rows.specs.declared.cause.RowCause.TheVariants as cause
use Rattle.cep_session.specs.declared.status.Status.{Status}
use Rattle.cep_session.specs.declared.status.Status.TheVariants.{Done, NoMemory, BadWords, PatternFault, PatternRefused, BadRow, TooManyRows, ReadFault, WriteFault}

-- where in a row a cause has a field, the words for it
abbrev pub field_text : RowCause → List ℕ
field_text (cause.BadNumber field) = codes " in field " ++ decimal field
field_text cause.LineTooLong = []
field_text cause.NotText = []
field_text cause.OpenQuote = []
field_text cause.UnknownType = []
field_text cause.FieldCount = []
field_text cause.BadTime = []

-- the words of a cause
abbrev pub cause_text : RowCause → List ℕ
cause_text why = decimal (cause_number why) ++ field_text why

abbrev pub fault_line : Status → List ℕ
fault_line Done = []
fault_line NoMemory = codes "cep: no memory\n"
fault_line BadWords = codes "cep: usage: cep MODE PATTERN [--lag MS] [--rows N] [--header] [--seed S] [--count N]\n"
fault_line PatternFault = codes "cep: cannot read the pattern\n"
fault_line (PatternRefused code place) = codes "cep: pattern refused: code " ++ decimal code ++ codes " at byte " ++ decimal place ++ codes "\n"
fault_line (BadRow row why) = codes "cep: row " ++ decimal row ++ codes " refused: cause " ++ cause_text why ++ codes "\n"
fault_line TooManyRows = codes "cep: more rows than allowed\n"
fault_line ReadFault = codes "cep: cannot read the input\n"
fault_line WriteFault = codes "cep: cannot write the output\n"
