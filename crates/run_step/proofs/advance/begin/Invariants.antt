-- The takes of the waits so far are noted.
use Rattle.std.proofs.Common.{List}
use Rattle.cep_event.specs.declared.event.Event.{Event}
use Rattle.run_step.specs.Noting.{CanBeginFirst}
use Rattle.run_step.proofs.FirstLaws.{FirstsSoFar}
use Rattle.run_step.proofs.advance.begin.Given as goal

abbrev pub invariant-loop-number : goal.invariant-loop-number
invariant-loop-number l = (events : List Event) (can : CanBeginFirst l.plan events l.position l.waits l.initial.bumps.items l.empty)
    → FirstsSoFar l.plan events l.event l.position l.waits l.initial.bumps.items l.empty can l.number l.bumps.items l.initial.takes.items l.takes.items
