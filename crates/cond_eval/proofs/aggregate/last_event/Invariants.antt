use Rattle.std.proofs.Common.{◌≡◌, ◌≤◌, length, take}
use Rattle.cep_plan.specs.Aggregate.{taken_for, last_event}
use Rattle.cond_eval.proofs.aggregate.last_event.Given as goal

abbrev pub invariant-loop-place : goal.invariant-loop-place
invariant-loop-place l =
    record { within : l.place ≤ length l.list; same : last_event (taken_for l.stage l.list) ≡ last_event (taken_for l.stage (take l.place l.list)) }

abbrev pub decreases-loop-place : goal.decreases-loop-place
decreases-loop-place l = l.place
