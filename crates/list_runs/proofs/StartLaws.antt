-- Before the first event only the empty list waits.
use Rattle.std.proofs.Common.{◌≡◌, refl, sym, ◌∙◌, ap, subst, ℕ, ◌+◌, arith, true, List, []}
use Rattle.std.specs.Prelude.{filter, Contains}
use Rattle.std.specs.List.{range_with_len}
use Rattle.cep_plan.specs.declared.plan.Plan.{Plan}
use Rattle.cep_plan.specs.Entry.{Entry, stages_of}
use Rattle.cep_plan.specs.Follow.{end_stage, may_follow}
use Rattle.cep_plan.proofs.FilteredLaws.{Contains-filter, Contains-from_filter}
use Rattle.list_runs.specs.Runs.{ListRun, StandsFor, run_of, runs_of}
use Rattle.cep_plan.specs.Partial.{waits}
use Rattle.live_laws.specs.Starts.{Scope, is_open}
use Rattle.live_laws.proofs.MemberLaws.{Contains-map, Contains-from_map, Contains-range, AllApart-filter, AllApart-map, AllApart-range}
use Rattle.live_laws.proofs.PartialLaws.{stage_awaited}
use Rattle.live_laws.proofs.WaitLaws.{waits-follows, waits-among, waits-nil, none_among}

module _ (plan : Plan) (scope : Scope) where
  start-sound : (run : ListRun) → Contains (runs_of plan []) run → (list : List Entry) × (run ≡ run_of [] list run.stage)
      × (waits plan [] list run.stage ≡ true) × (is_open scope list ≡ true)
  start-sound run q =
      let all = range_with_len 0 (end_stage plan + 1) in
      let found = Contains-from_map (λ (stage : ℕ). record { stage = stage; list = [] }) (filter (may_follow plan []) all) run q in
      let follow = (Contains-from_filter (may_follow plan []) all found.0 found.1).1 in (
        [],
        (λ i. record { stage = run.stage; list = sym (ap (λ r. r.list) found.2) i }),
        waits-nil plan [] run.stage
            ∙ sym (ap (λ r. may_follow plan [] r.stage) found.2) ∙ follow,
        refl,
      )

  start-complete : (list : List Entry) (stage : ℕ) → waits plan [] list stage ≡ true → is_open scope list ≡ true
      → Contains (runs_of plan []) (run_of [] list stage)
  start-complete list stage h begins =
      let all = range_with_len 0 (end_stage plan + 1) in
      let none = none_among list (waits-among plan [] list stage h) in
      let follow : may_follow plan [] stage ≡ true = sym (ap (λ l. may_follow plan (stages_of l) stage) none) ∙ waits-follows plan [] list stage h in
      subst (λ l. Contains (runs_of plan []) (run_of [] l stage)) (sym none)
      (Contains-map (λ (s : ℕ). record { stage = s; list = [] }) (filter (may_follow plan []) all) stage
      (Contains-filter (may_follow plan []) all stage
      (Contains-range 0 (end_stage plan + 1) stage (omega arith) (omega (arith, stage_awaited plan [] stage follow))) follow))

  -- the runs of the empty list
  pub StandsFor-start : StandsFor plan [] scope (runs_of plan [])
  StandsFor-start = record {
    sound = start-sound;
    complete = start-complete;
    once =
        AllApart-map (λ (s : ℕ). record { stage = s; list = [] }) (filter (may_follow plan []) (range_with_len 0 (end_stage plan + 1)))
        (λ a b p q e. ap (λ r. r.stage) e)
        (AllApart-filter (may_follow plan []) (range_with_len 0 (end_stage plan + 1)) (AllApart-range 0 (end_stage plan + 1)));
  }
