-- The status that tells why a pattern file came to nothing.
use Rattle.std.specs.Prelude.{◌≡◌}
use Rattle.cep_session.specs.declared.status.Status.{Status}
use Rattle.cep_session.specs.declared.status.Status.TheVariants as status
use Rattle.cep_cli.specs.declared.pattern.PatternStop.{PatternStop}
use Rattle.cep_cli.specs.declared.pattern.PatternStop.TheVariants as stop

-- the status tells of the stop
abbrev pub IsToldBy : PatternStop → Status → Type 0
IsToldBy stop.NoMemory s = s ≡ status.NoMemory
IsToldBy stop.Failed s = s ≡ status.PatternFault
IsToldBy (stop.Refused place code) s = s ≡ status.PatternRefused code place
