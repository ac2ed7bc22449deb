-- What is left decides, and only the first event may follow directly.
use Rattle.std.proofs.Common.{◌≡◌, drop}
use Rattle.std.specs.Prelude.{true}
use Rattle.cep_audit.specs.Asked.{are_spared_from}
use Rattle.cep_audit.proofs.gap.are_spared.Given as goal

abbrev pub invariant-loop-event : goal.invariant-loop-event
invariant-loop-event l =
    are_spared_from l.plan l.taken l.before l.stage l.directly (drop l.event-index l.gap) ≡ are_spared_from l.plan l.taken l.before l.stage true l.gap
