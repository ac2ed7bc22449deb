-- The number with which the program exits (this project's own).
use Rattle.std.specs.Prelude.{ℕ}
use Rattle.cep_session.specs.declared.status.Status.{Status}
use Rattle.cep_session.specs.declared.status.Status.TheVariants.{Done, NoMemory, BadWords, PatternFault, PatternRefused, BadRow, TooManyRows, ReadFault, WriteFault}

abbrev pub number_of : Status → ℕ
number_of Done = 0
number_of NoMemory = 1
number_of BadWords = 2
number_of PatternFault = 3
number_of (PatternRefused code place) = 4
number_of (BadRow row cause) = 5
number_of TooManyRows = 6
number_of ReadFault = 7
number_of WriteFault = 8
