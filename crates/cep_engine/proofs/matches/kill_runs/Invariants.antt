-- The runs without those that the matches so far kill.
use Rattle.std.proofs.Common.{◌≡◌, List, take}
use Rattle.std.specs.List.{list_any}
use Rattle.cep_event.specs.declared.event.Event.{Event}
use Rattle.cep_plan.specs.declared.plan.Plan.{Plan}
use Rattle.cep_plan.specs.Skipping.{kills_start}
use Rattle.cep_engine.specs.Running.{RunsStand, RunsStandSome, without_starts}
use Rattle.live_laws.specs.Starts.{Scope}
use Rattle.cep_engine.specs.Small.{AreSmall}
use Rattle.cep_engine.proofs.matches.kill_runs.Given as goal

abbrev pub invariant-loop-list : goal.invariant-loop-list
invariant-loop-list l =
    (AreSmall l.found → (plan : Plan) (events : List Event) (scope : Scope) → RunsStand plan events scope l.initial.runs l.initial.buffer
    → RunsStand plan events (without_starts scope (λ p. list_any (λ list. kills_start l.skip list p) (take l.list-index l.list-items))) l.runs l.buffer)
    × (l.runs.position ≡ l.initial.runs.position) × RunsStandSome l.runs l.buffer
