-- What is left decides, with the time of the event before it.
use Rattle.std.proofs.Common.{◌≡◌, drop}
use Rattle.std.specs.Prelude.{None}
use Rattle.cep_audit.specs.Asked.{near_behind}
use Rattle.cep_audit.proofs.limit.are_near.Given as goal

abbrev pub invariant-loop-t : goal.invariant-loop-t
invariant-loop-t l = near_behind l.plan l.before (drop l.t-index l.taken) ≡ near_behind l.plan None l.taken
