-- The step: runs that stand for the lists that wait, and the lists that end at the new event.
use Rattle.std.proofs.Common.{◌≡◌, refl, sym, ◌∙◌, ap, subst, ℕ, ◌+◌, ◌<◌, arith, Bool, true, false, List, [], ◌∷◌, ◌++◌, length, length-append, map, ◌⊎◌, inl, inr}
use Rattle.std.specs.Prelude.{filter, flat_map, Contains, Some, None}
use Rattle.std.specs.Option.{option_map_or}
use Rattle.std.specs.List.{last_or, range_with_len, AllByRecursion as Each}
use Rattle.std.proofs.lemmas.Bool.{and_parts, and_from}
use Rattle.std.proofs.lemmas.List.Elements.{Contains-append_left, Contains-append_right, Contains-append_cases}
use Rattle.cep_event.specs.declared.event.Event.{Event}
use Rattle.cep_plan.specs.declared.plan.Plan.{Plan}
use Rattle.cep_plan.specs.declared.item.Taken.{Taken}
use Rattle.cep_plan.specs.Entry.{Entry, event_at, taken_at, taken_of, stages_of, stages_in}
use Rattle.cep_plan.specs.Follow.{end_stage, may_follow}
use Rattle.cep_plan.specs.Candidate.{fits}
use Rattle.cep_plan.specs.Limit.{limit_from, limit_behind, last_behind, limit_of, is_below_limit}
use Rattle.cep_plan.specs.Partial.{is_partial, waits}
use Rattle.cep_plan.proofs.RisingLaws.{IsRising, Each-map}
use Rattle.cep_plan.proofs.FilteredLaws.{Contains-filter, Contains-from_filter}
use Rattle.cep_plan.proofs.LocalLaws.{AreAmong, taken_of-append}
use Rattle.list_runs.specs.Runs.{ListRun, StandsFor, Admits, run_of, runs_of, with_event, grown, stepped}
use Rattle.live_laws.specs.Survival.{survives, takes}
use Rattle.live_laws.specs.Starts.{AllApart, Scope, begins_in, ends_in, is_open, IsTooLate}
use Rattle.live_laws.proofs.LastLaws.{last_or-push, stages_in-taken_of}
use Rattle.live_laws.proofs.MemberLaws.{Each-from_contains, Contains-map, Contains-from_map, Contains-flat_map, Contains-from_flat_map, Contains-range, AllApart-append, AllApart-filter, AllApart-map, AllApart-flat_map, AllApart-range}
use Rattle.live_laws.proofs.GrowthLaws.{is_partial-grow}
use Rattle.live_laws.proofs.PartialLaws.{stage_awaited, may_grow-rising, IsGrown, rising_split}
use Rattle.live_laws.proofs.LesserLaws.{below_lesser}
use Rattle.live_laws.proofs.ScopeLaws.{last_limit}
use Rattle.live_laws.proofs.WaitLaws.{waits-may_grow, waits-among, waits-old, waits-new, taken_of-push}

-- ---- lists with one more element

module _ {X : Type 0} where
  same_front : (xs ys : List X) (x y : X) → xs ++ x ∷ [] ≡ ys ++ y ∷ [] → xs ≡ ys
  same_front [] [] x y e = refl
  same_front [] (b ∷ ys) x y e = absurd (omega (arith, ap length e, length-append ys (y ∷ [])))
  same_front (a ∷ xs) [] x y e = absurd (omega (arith, ap length e, length-append xs (x ∷ [])))
  same_front (a ∷ xs) (b ∷ ys) x y e =
      let first : a ≡ b = cc in
      let later : xs ++ x ∷ [] ≡ ys ++ y ∷ [] = cc in
      λ i. first i ∷ same_front xs ys x y later i

  same_end : (xs ys : List X) (x y : X) → xs ++ x ∷ [] ≡ ys ++ y ∷ [] → x ≡ y
  same_end xs ys x y e = let is : Some x ≡ Some y = sym (last_or-push None xs x) ∙ ap (last_or None) e ∙ last_or-push None ys y in cc

  Each-end : (P : X → Type 0) (xs : List X) (x : X) → Each P (xs ++ x ∷ []) → P x
  Each-end P [] x h = h.0
  Each-end P (y ∷ xs) x h = Each-end P xs x h.1

-- one more entry changes the start of the empty list alone
begins_in-push : (starts : ℕ → Bool) (list : List Entry) (last : Entry) → starts last.position ≡ true
    → begins_in starts (list ++ last ∷ []) ≡ begins_in starts list
begins_in-push starts [] last h = h
begins_in-push starts (first ∷ list) last h = refl

-- and the end of each
ends_in-push : (lasts : ℕ → Bool) (list : List Entry) (last : Entry) → lasts last.position ≡ true → ends_in lasts (list ++ last ∷ []) ≡ true
ends_in-push lasts list last h = ap (λ o. option_map_or (λ (e : Entry). lasts e.position) o true) (last_or-push None list last) ∙ h

is_open-push : (scope : Scope) (list : List Entry) (last : Entry) → scope.starts last.position ≡ true → scope.lasts last.position ≡ true
    → begins_in scope.starts list ≡ true → is_open scope (list ++ last ∷ []) ≡ true
is_open-push scope list last start_open last_open begins =
    and_from (begins_in scope.starts (list ++ last ∷ [])) (ends_in scope.lasts (list ++ last ∷ []))
    (begins_in-push scope.starts list last start_open ∙ begins) (ends_in-push scope.lasts list last last_open)

-- a list whose last event the new one comes soon enough after ends at an open position
ends_in-near : (plan : Plan) (events : List Event) (event : Event) (lasts : ℕ → Bool) → IsTooLate plan events lasts event
    → (first : Entry) (later : List Entry) → AreAmong events (first ∷ later)
    → ends_in (λ last. is_below_limit (limit_behind plan (event_at events last)) event.ts) (first ∷ later) ≡ true → ends_in lasts (first ∷ later) ≡ true
ends_in-near plan events event lasts late first [] among h = by_test (lasts first.position) refl where
  by_test : (b : Bool) → lasts first.position ≡ b → lasts first.position ≡ true
  by_test true is = is
  by_test false is = let no : true ≡ false = sym h ∙ late first.position among.0 is in absurd cc
ends_in-near plan events event lasts late first (next ∷ later) among h = ends_in-near plan events event lasts late next later among.1 h

module _ (plan : Plan) (events : List Event) (event : Event) (scope : Scope) (admits : Admits plan events scope event)
    (runs : List ListRun) (stands : StandsFor plan events scope runs) where
  -- a list that the event is taken for ends at an open position
  ends_in-taking : (list : List Entry) → AreAmong events list → (stage : ℕ) → takes plan (taken_of events list) stage event (length events) ≡ true
      → ends_in scope.lasts list ≡ true
  unfolding takes
  ends_in-taking [] among stage h = refl
  ends_in-taking (first ∷ later) among stage h =
      let in_time : is_below_limit (limit_of plan (taken_of events (first ∷ later))) event.ts ≡ true =
      (and_parts (fits plan (taken_of events (first ∷ later)) stage event (length events)) _ h).1 in
      let near = (and_parts (is_below_limit (limit_from plan (event_at events first.position)) event.ts) _
      (sym (below_lesser (limit_from plan (event_at events first.position))
      (limit_behind plan (last_behind (taken_at events first) (taken_of events later)).event) event.ts) ∙ in_time)).1 in
      ends_in-near plan events event scope.lasts admits.late first later among
      (sym (last_limit plan events first later (λ limit. is_below_limit limit event.ts)) ∙ near)

  -- ---- the lists that end at the event

  -- a list of the step is a partial one that ends at the event
  pub grown-sound : (whole : List Taken) → Contains (grown plan runs event (length events)) whole
      → (list : List Entry) × (whole ≡ taken_of (events ++ event ∷ []) list) × (is_partial plan (events ++ event ∷ []) list ≡ true)
      × IsGrown events list × (is_open scope list ≡ true)
  unfolding grown
  grown-sound whole q =
      let test : ListRun → Bool = λ r. takes plan r.list r.stage event (length events) in
      let found = Contains-from_map (with_event event (length events)) (filter test runs) whole q in
      let run : ListRun = found.0 in
      let passed = Contains-from_filter test runs run found.1 in
      let known = stands.sound run passed.0 in
      let list : List Entry = known.0 in
      let among = waits-among plan events list run.stage known.2 in
      let taken : run.list ≡ taken_of events list = ap (λ r. r.list) known.1 in
      let new : List Entry = list ++ record { stage = run.stage; position = length events } ∷ [] in
      let is : whole ≡ taken_of (events ++ event ∷ []) new =
      sym found.2 ∙ (λ i. taken i ++ record { stage = run.stage; position = length events; event = event } ∷ [])
      ∙ sym (taken_of-push events event list run.stage among) in
      let taking : takes plan (taken_of events list) run.stage event (length events) ≡ true = sym (ap (λ l. takes plan l run.stage event (length events)) taken) ∙ passed.1 in (
        new,
        is,
        is_partial-grow plan events event list among run.stage
            ∙ and_from _ _ known.2 taking,
        (list, run.stage, refl, among),
        is_open-push scope list (record { stage = run.stage; position = length events })
            admits.start_open admits.last_open (and_parts (begins_in scope.starts list) (ends_in scope.lasts list) known.3).0,
      )

  -- each partial list that ends at the event is a list of the step
  pub grown-complete : (list : List Entry) → is_partial plan (events ++ event ∷ []) list ≡ true → IsGrown events list → begins_in scope.starts list ≡ true
      → Contains (grown plan runs event (length events)) (taken_of (events ++ event ∷ []) list)
  unfolding grown
  grown-complete whole partial (list, stage, is, among) begins =
      let test : ListRun → Bool = λ r. takes plan r.list r.stage event (length events) in
      let both = and_parts (waits plan events list stage) (takes plan (taken_of events list) stage event (length events))
      (sym (is_partial-grow plan events event list among stage) ∙ sym (ap (is_partial plan (events ++ event ∷ [])) is) ∙ partial) in
      subst (λ l. Contains (map (with_event event (length events)) (filter test runs)) l)
      (sym (taken_of-push events event list stage among) ∙ sym (ap (taken_of (events ++ event ∷ [])) is))
      (Contains-map (with_event event (length events)) (filter test runs) (run_of events list stage)
      (Contains-filter test runs (run_of events list stage)
      (stands.complete list stage both.0
      (and_from (begins_in scope.starts list) (ends_in scope.lasts list)
      (sym (begins_in-push scope.starts list (record { stage = stage; position = length events }) admits.start_open)
      ∙ sym (ap (begins_in scope.starts) is) ∙ begins)
      (ends_in-taking list among stage both.1))) both.1))

  pub grown-once : AllApart (grown plan runs event (length events))
  unfolding grown
  grown-once = AllApart-map (with_event event (length events)) (filter test runs) (λ a b p q e. same a b e) (AllApart-filter test runs stands.once) where
    test : ListRun → Bool
    test r = takes plan r.list r.stage event (length events)

    same : (a b : ListRun) → with_event event (length events) a ≡ with_event event (length events) b → a ≡ b
    same a b e =
        let lists = same_front a.list b.list _ _ e in
        let ends = same_end a.list b.list _ _ e in
        λ i. record { stage = (ends i).stage; list = lists i }

  -- ---- the runs after the event
  survivor-sound : (run : ListRun) → Contains runs run → survives plan run.list run.stage event (length events) ≡ true
      → (list : List Entry) × (run ≡ run_of (events ++ event ∷ []) list run.stage) × (waits plan (events ++ event ∷ []) list run.stage ≡ true)
      × (is_open scope list ≡ true)
  survivor-sound run q passed =
      let known = stands.sound run q in
      let list : List Entry = known.0 in
      let among = waits-among plan events list run.stage known.2 in
      let taken : run.list ≡ taken_of events list = ap (λ r. r.list) known.1 in (
        list,
        known.1 ∙ (λ i. record { stage = run.stage; list = sym (taken_of-append events (event ∷ []) list among) i }),
        waits-old plan events event list among run.stage
            ∙ and_from _ _ known.2 (sym (ap (λ l. survives plan l run.stage event (length events)) taken) ∙ passed),
        known.3,
      )

  -- the runs of a list that ends at the event
  runs_of-sound : (whole : List Taken) (run : ListRun) → Contains (grown plan runs event (length events)) whole → Contains (runs_of plan whole) run
      → (list : List Entry) × (run ≡ run_of (events ++ event ∷ []) list run.stage) × (waits plan (events ++ event ∷ []) list run.stage ≡ true)
      × (is_open scope list ≡ true)
  runs_of-sound whole run p q =
      let known = grown-sound whole p in
      let new : List Entry = known.0 in
      let found = Contains-from_map (λ (stage : ℕ). record { stage = stage; list = whole })
      (filter (may_follow plan (stages_in whole)) (range_with_len 0 (end_stage plan + 1))) run q in
      let stage : ℕ = found.0 in
      let follow : may_follow plan (stages_in whole) stage ≡ true =
      (Contains-from_filter (may_follow plan (stages_in whole)) (range_with_len 0 (end_stage plan + 1)) stage found.1).1 in
      let entries : stages_in whole ≡ stages_of new = ap stages_in known.1 ∙ stages_in-taken_of (events ++ event ∷ []) new in
      let same_stage : stage ≡ run.stage = ap (λ r. r.stage) found.2 in
      let before = known.3 in
      let waiting : waits plan (events ++ event ∷ []) new stage ≡ true =
      ap (λ l. waits plan (events ++ event ∷ []) l stage) before.2
      ∙ waits-new plan events event before.0 (record { stage = before.1; position = length events }) refl stage
      ∙ and_from _ _ (sym (ap (is_partial plan (events ++ event ∷ [])) before.2) ∙ known.2)
      (sym (ap (λ l. may_follow plan l stage) (entries ∙ ap stages_of before.2)) ∙ follow) in (
        new,
        (λ i. record { stage = run.stage; list = (sym (ap (λ r. r.list) found.2) ∙ known.1) i }),
        sym (ap (waits plan (events ++ event ∷ []) new) same_stage) ∙ waiting,
        known.4,
      )

  stepped-sound : (run : ListRun) → Contains (stepped plan runs event (length events)) run
      → (list : List Entry) × (run ≡ run_of (events ++ event ∷ []) list run.stage) × (waits plan (events ++ event ∷ []) list run.stage ≡ true)
      × (is_open scope list ≡ true)
  unfolding stepped
  stepped-sound run q = split (Contains-append_cases (filter test runs) (flat_map (runs_of plan) (grown plan runs event (length events))) run q) where
    test : ListRun → Bool
    test r = survives plan r.list r.stage event (length events)

    split : Contains (filter test runs) run ⊎ Contains (flat_map (runs_of plan) (grown plan runs event (length events))) run
        → (list : List Entry) × (run ≡ run_of (events ++ event ∷ []) list run.stage) × (waits plan (events ++ event ∷ []) list run.stage ≡ true)
        × (is_open scope list ≡ true)
    split (inl p) = let passed = Contains-from_filter test runs run p in survivor-sound run passed.0 passed.1
    split (inr p) = let found = Contains-from_flat_map (runs_of plan) (grown plan runs event (length events)) run p in runs_of-sound found.0 run found.1 found.2

  survivor-complete : (list : List Entry) (stage : ℕ) → AreAmong events list → waits plan (events ++ event ∷ []) list stage ≡ true
      → is_open scope list ≡ true
      → Contains (filter (λ r. survives plan r.list r.stage event (length events)) runs) (run_of (events ++ event ∷ []) list stage)
  survivor-complete list stage among h begins =
      let test : ListRun → Bool = λ r. survives plan r.list r.stage event (length events) in
      let both = and_parts (waits plan events list stage) (survives plan (taken_of events list) stage event (length events)) (sym (waits-old plan events event list among stage) ∙ h) in
      subst (λ l. Contains (filter test runs) (record { stage = stage; list = l })) (sym (taken_of-append events (event ∷ []) list among))
      (Contains-filter test runs (run_of events list stage) (stands.complete list stage both.0 begins) both.1)

  grown-waits : (list : List Entry) (stage : ℕ) → IsGrown events list → waits plan (events ++ event ∷ []) list stage ≡ true → is_open scope list ≡ true
      → Contains (flat_map (runs_of plan) (grown plan runs event (length events))) (run_of (events ++ event ∷ []) list stage)
  grown-waits list stage before h begins =
      let all = range_with_len 0 (end_stage plan + 1) in
      let whole = taken_of (events ++ event ∷ []) list in
      let both = and_parts (is_partial plan (events ++ event ∷ []) (before.0 ++ record { stage = before.1; position = length events } ∷ [])) (may_follow plan (stages_of (before.0 ++ record { stage = before.1; position = length events } ∷ [])) stage)
      (sym (waits-new plan events event before.0 (record { stage = before.1; position = length events }) refl stage)
      ∙ sym (ap (λ l. waits plan (events ++ event ∷ []) l stage) before.2) ∙ h) in
      let partial : is_partial plan (events ++ event ∷ []) list ≡ true = ap (is_partial plan (events ++ event ∷ [])) before.2 ∙ both.0 in
      let follow : may_follow plan (stages_of list) stage ≡ true = ap (λ l. may_follow plan (stages_of l) stage) before.2 ∙ both.1 in
      Contains-flat_map (runs_of plan) (grown plan runs event (length events)) whole (run_of (events ++ event ∷ []) list stage)
      (grown-complete list partial before (and_parts (begins_in scope.starts list) (ends_in scope.lasts list) begins).0)
      (Contains-map (λ (s : ℕ). record { stage = s; list = whole }) (filter (may_follow plan (stages_in whole)) all) stage
      (Contains-filter (may_follow plan (stages_in whole)) all stage
      (Contains-range 0 (end_stage plan + 1) stage (omega arith) (omega (arith, stage_awaited plan (stages_of list) stage follow)))
      (ap (λ l. may_follow plan l stage) (stages_in-taken_of (events ++ event ∷ []) list) ∙ follow)))

  stepped-complete : (list : List Entry) (stage : ℕ) → waits plan (events ++ event ∷ []) list stage ≡ true → is_open scope list ≡ true
      → Contains (stepped plan runs event (length events)) (run_of (events ++ event ∷ []) list stage)
  unfolding stepped
  stepped-complete list stage h begins =
      split (rising_split (length plan.stages) 0 events list
      (subst (λ n. IsRising (length plan.stages) 0 n list) (length-append events (event ∷ []))
      (may_grow-rising plan (events ++ event ∷ []) list (waits-may_grow plan (events ++ event ∷ []) list stage h)))) where
        split : AreAmong events list ⊎ IsGrown events list
            → Contains (filter (λ r. survives plan r.list r.stage event (length events)) runs
            ++ flat_map (runs_of plan) (grown plan runs event (length events))) (run_of (events ++ event ∷ []) list stage)
        split (inl among) =
            Contains-append_left (filter (λ r. survives plan r.list r.stage event (length events)) runs)
            (flat_map (runs_of plan) (grown plan runs event (length events))) (run_of (events ++ event ∷ []) list stage)
            (survivor-complete list stage among h begins)
        split (inr before) =
            Contains-append_right (filter (λ r. survives plan r.list r.stage event (length events)) runs)
            (flat_map (runs_of plan) (grown plan runs event (length events))) (run_of (events ++ event ∷ []) list stage)
            (grown-waits list stage before h begins)

  -- ---- each once

  -- a run from before has no taken event at the new position, and a new one has
  run_before : (run : ListRun) → Contains runs run → Each (λ t. t.position < length events) run.list
  run_before run q =
      let known = stands.sound run q in
      subst (Each (λ t. t.position < length events)) (sym (ap (λ r. r.list) known.1))
      (Each-map (λ t. t.position < length events) (taken_at events) known.0 (waits-among plan events known.0 run.stage known.2))

  run_after : (whole : List Taken) → Contains (grown plan runs event (length events)) whole → Each (λ t. t.position < length events) whole → ⊥
  unfolding grown
  run_after whole q below =
      let found = Contains-from_map (with_event event (length events)) (filter (λ r. takes plan r.list r.stage event (length events)) runs) whole q in
      let last : length events < length events = Each-end (λ t. t.position < length events) found.0.list _ (subst (Each (λ t. t.position < length events)) (sym found.2) below) in
      omega (arith, last)

  in_whole : (whole : List Taken) (run : ListRun) → Contains (runs_of plan whole) run → whole ≡ run.list
  in_whole whole run q =
      ap (λ r. r.list) (Contains-from_map (λ (s : ℕ). record { stage = s; list = whole })
      (filter (may_follow plan (stages_in whole)) (range_with_len 0 (end_stage plan + 1))) run q).2

  runs_of-once : (whole : List Taken) → AllApart (runs_of plan whole)
  runs_of-once whole =
      AllApart-map (λ (s : ℕ). record { stage = s; list = whole })
      (filter (may_follow plan (stages_in whole)) (range_with_len 0 (end_stage plan + 1))) (λ a b p q e. ap (λ r. r.stage) e)
      (AllApart-filter (may_follow plan (stages_in whole)) (range_with_len 0 (end_stage plan + 1)) (AllApart-range 0 (end_stage plan + 1)))

  apart_from_old : (a b : ListRun) → Contains runs a → Contains (flat_map (runs_of plan) (grown plan runs event (length events))) b → a ≡ b → ⊥
  apart_from_old a b p q e =
      let found = Contains-from_flat_map (runs_of plan) (grown plan runs event (length events)) b q in
      run_after found.0 found.1 (subst (Each (λ t. t.position < length events)) (ap (λ r. r.list) e ∙ sym (in_whole found.0 b found.2)) (run_before a p))

  stepped-once : AllApart (stepped plan runs event (length events))
  unfolding stepped
  stepped-once =
      let test : ListRun → Bool = λ r. survives plan r.list r.stage event (length events) in
      let new = flat_map (runs_of plan) (grown plan runs event (length events)) in
      AllApart-append (filter test runs) new (AllApart-filter test runs stands.once)
      (AllApart-flat_map (runs_of plan) (grown plan runs event (length events)) runs_of-once (λ a b y p q. in_whole a y p ∙ sym (in_whole b y q)) grown-once)
      (Each-from_contains (λ a. Each (λ b. a ≡ b → ⊥) new) (filter test runs)
      (λ a p. Each-from_contains (λ b. a ≡ b → ⊥) new (λ b q e. apart_from_old a b (Contains-from_filter test runs a p).0 q e)))

  -- The runs that a step leaves stand for the lists that wait after the event.
  pub StandsFor-stepped : StandsFor plan (events ++ event ∷ []) scope (stepped plan runs event (length events))
  StandsFor-stepped = record { sound = stepped-sound; complete = stepped-complete; once = stepped-once }
