-- What the runs and the buffer stand for, over another scope and after runs were let go.
use Rattle.std.proofs.Common.{◌≡◌, subst, ℕ, ◌<◌, Bool, List, [], ◌++◌, length, map}
use Rattle.cep_event.specs.declared.event.Event.{Event}
use Rattle.cep_plan.specs.declared.plan.Plan.{Plan}
use Rattle.live_laws.specs.Starts.{Scope}
use Rattle.shared_buffer.specs.Content.{Content as BufferContent}
use Rattle.list_runs.specs.Runs.{runs_of}
use Rattle.list_runs.proofs.RunLaws.{StandsFor-agree}
use Rattle.run_step.specs.Content.{Content}
use Rattle.run_step.specs.Pins.{KeepsPins}
use Rattle.run_step.specs.Runs.{StandsNow, seen}
use Rattle.run_step.specs.Stepping.{StandsForSome}
use Rattle.cep_engine.specs.Running.{IsSettled, RunsStand, RunsStandSome, without_starts}

-- scopes that are the same
pub RunsStand-is : (plan : Plan) (events : List Event) (scope other : Scope) (content : Content) (buffer : BufferContent) → scope ≡ other
    → RunsStand plan events scope content buffer → RunsStand plan events other content buffer
RunsStand-is plan events scope other content buffer same stands = subst (λ (s : Scope). RunsStand plan events s content buffer) same stands

-- the same without starts that are the same
pub RunsStand-same : (plan : Plan) (events : List Event) (scope : Scope) (gone other : ℕ → Bool) (content : Content) (buffer : BufferContent)
    → ((p : ℕ) → gone p ≡ other p) → RunsStand plan events (without_starts scope gone) content buffer
    → RunsStand plan events (without_starts scope other) content buffer
RunsStand-same plan events scope gone other content buffer same stands =
    subst (λ (s : ℕ → Bool). RunsStand plan events (without_starts scope s) content buffer) (λ i p. same p i) stands

-- scopes that are the same among the events so far
pub RunsStand-agree : (plan : Plan) (events : List Event) (scope other : Scope) (content : Content) (buffer : BufferContent)
    → ((p : ℕ) → p < length events → scope.starts p ≡ other.starts p) → ((p : ℕ) → p < length events → scope.lasts p ≡ other.lasts p)
    → RunsStand plan events scope content buffer → RunsStand plan events other content buffer
RunsStand-agree plan events scope other content buffer starts lasts runs =
    let before = runs.now.stands in
    record {
      now = record {
        stands = record {
          counted = before.counted;
          bumps = before.bumps;
          empty = before.empty;
          waiters = before.waiters;
          stand = StandsFor-agree plan events scope other starts lasts (runs_of plan [] ++ map (seen events) before.waiters) before.stand;
          runs = before.runs;
          ahead = before.ahead;
          one_ahead = before.one_ahead;
          held = before.held;
        };
        none_ahead = runs.now.none_ahead;
      };
      settled = runs.settled;
    }

pub IsSettled-kept : (old new : BufferContent) → KeepsPins old new → IsSettled old → IsSettled new
IsSettled-kept old new keeps settled key row found = settled key row (keeps.only key row found)

-- runs were let go
pub RunsStand-killed : (plan : Plan) (events : List Event) (scope other : Scope) (old new : Content) (before after : BufferContent)
    → (StandsNow plan events scope [] old before → StandsNow plan events other [] new after) → KeepsPins before after
    → RunsStand plan events scope old before → RunsStand plan events other new after
RunsStand-killed plan events scope other old new before after kill keeps runs =
    record { now = kill runs.now; settled = IsSettled-kept before after keeps runs.settled }

-- what `kill` and `expire` ask
pub can_kill : (content : Content) (buffer : BufferContent) → RunsStandSome content buffer → StandsForSome content buffer
can_kill content buffer some =
    record { plan = some.plan; somehow = record { events = some.events; scope = some.scope; tips = []; stands = some.stands.now.stands } }

-- after runs were let go they stand for some scope
pub killed_some : {old new : Content} {before after : BufferContent} {other : Scope} → (some : RunsStandSome old before)
    → RunsStand some.plan some.events other new after → RunsStandSome new after
killed_some {other = other} some stands = record { plan = some.plan; events = some.events; scope = other; stands = stands }
