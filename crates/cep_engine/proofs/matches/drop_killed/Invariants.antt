-- The starts without those that the matches so far kill.
use Rattle.std.proofs.Common.{◌≡◌, ℕ, not, take}
use Rattle.std.specs.Prelude.{ℤ, filter}
use Rattle.std.specs.List.{list_any}
use Rattle.cep_plan.specs.Skipping.{kills_start}
use Rattle.cep_engine.specs.State.{AreKeptBefore}
use Rattle.cep_engine.specs.Small.{AreSmall}
use Rattle.cep_engine.proofs.matches.drop_killed.Given as goal

abbrev pub invariant-loop-list : goal.invariant-loop-list
invariant-loop-list l =
    (AreSmall l.found
    → l.limits
    ≡ record l.initial.limits {
      starts =
          filter (λ s. not (list_any (λ list. kills_start l.skip list s.position) (take l.list-index l.list-items))) l.initial.limits.starts;
    })
    × ((position : ℕ) (time : ℤ) → AreKeptBefore position time l.initial.limits → AreKeptBefore position time l.limits)
