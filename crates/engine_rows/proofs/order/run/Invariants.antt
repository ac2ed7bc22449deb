use Rattle.std.proofs.Common.{◌<◌, ◌+◌}
use Rattle.std.specs.List.{AllByRecursion}
use Rattle.cep_event.specs.declared.event.Event.{Event}
use Rattle.engine_rows.proofs.order.run.Given as goal

abbrev pub invariant-loop-step : goal.invariant-loop-step
invariant-loop-step l = AllByRecursion (λ (event : Event). event.row < l.row + 1) l.order.waiting
