-- How a run ended, as a status (this project's own).
use Rattle.cep_session.specs.declared.ending.Ending.{Ending}
use Rattle.cep_session.specs.declared.ending.Ending.TheVariants as ending
use Rattle.cep_session.specs.declared.status.Status.{Status}
use Rattle.cep_session.specs.declared.status.Status.TheVariants as status

abbrev pub status_of : Ending → Status
status_of ending.Done = status.Done
status_of ending.NoMemory = status.NoMemory
status_of (ending.BadRow row cause) = status.BadRow row cause
status_of ending.TooManyRows = status.TooManyRows
status_of ending.ReadFault = status.ReadFault
status_of ending.WriteFault = status.WriteFault
