-- The lists of runs are the living lists: what waits and is open is living, and waits for some stage.
use Rattle.std.proofs.Common.{◌≡◌, refl, sym, ◌∙◌, ap, subst, ℕ, ◌+◌, arith, Bool, true, false, ◌&&◌, List, [], ◌∷◌, ◌++◌, length, map}
use Rattle.std.proofs.Common.{inl, inr, zero-add}
use Rattle.std.specs.Prelude.{Contains, Option, filter}
use Rattle.std.specs.List.{range_with_len, AllByRecursion as Each}
use Rattle.std.specs.List.Sorted.{IsPermutation}
use Rattle.std.proofs.lemmas.Bool.{and_parts, and_from}
use Rattle.std.proofs.lemmas.List.Elements.{Contains-append_right, Contains-append_cases}
use Rattle.cep_event.specs.declared.event.Event.{Event}
use Rattle.cep_event.specs.declared.record.Moment.{Moment}
use Rattle.cep_plan.specs.declared.plan.Plan.{Plan}
use Rattle.cep_plan.specs.declared.item.Item.{Item}
use Rattle.cep_plan.specs.Entry.{Entry, event_at, entries_in, taken_of, stages_of}
use Rattle.cep_plan.specs.Follow.{end_stage}
use Rattle.cep_plan.specs.Limit.{limit_from, is_time_left}
use Rattle.cep_plan.specs.Partial.{may_grow, is_partial, has_entries, waits, is_live}
use Rattle.cep_plan.specs.History.{history, lists_within}
use Rattle.cep_plan.specs.Skipping.{kept}
use Rattle.cep_plan.specs.Tick.{Tick, events_of, last_time}
use Rattle.cep_plan.specs.Living.{is_living, living}
use Rattle.cep_plan.proofs.FilteredLaws.{Contains-filter, Contains-from_filter}
use Rattle.cep_plan.proofs.RisingLaws.{IsRisingList, rising_lists-sorted, rising_lists-rising, Contains-rising_lists}
use Rattle.cep_plan.proofs.SortedLaws.{Each-contains}
use Rattle.live_laws.specs.Starts.{Scope, AllApart, ends_in, is_open, is_start_alive, open_lasts, open_scope}
use Rattle.live_laws.proofs.LastLaws.{entries_in-taken_of}
use Rattle.live_laws.proofs.LiveLaws.{is_live-waits, waits-is_live}
use Rattle.live_laws.proofs.PartialLaws.{stage_awaited, is_partial-rising}
use Rattle.live_laws.proofs.WaitLaws.{waits-may_grow, waits-follows}
use Rattle.live_laws.proofs.MemberLaws.{Contains-map, Contains-from_map, Contains-flat_map, Contains-from_flat_map, Contains-range}
use Rattle.live_laws.proofs.MemberLaws.{AllApart-filter, AllApart-map, AllApart-flat_map, AllApart-range}
use Rattle.live_laws.proofs.ScopeLaws.{time_left-open}
use Rattle.live_laws.proofs.TickLaws.{alive-begins}
use Rattle.list_buffer.proofs.CountLaws.{IsPermutation-apart}
use Rattle.list_runs.specs.Runs.{ListRun}
use Rattle.list_runs.specs.Runs.{StandsFor, runs_of, run_of}
use Rattle.run_step.specs.Runs.{Waiter, seen}
use Rattle.sharing_laws.specs.Sizes.{Waiting, waiting_for, waiting_of, waiting_after}
use Rattle.sharing_laws.proofs.MemberLaws.{sorted_apart}

-- ---- living lists

module _ (plan : Plan) (events : List Event) (items : List Item) (now : Option Moment) where
  -- a live list is living where it is open
  living_opens : (list : List Entry) → has_entries list ≡ true
      → is_living plan events items now list ≡ (is_live plan events list && is_open (open_scope plan events items now) list)
  living_opens [] none = let no : false ≡ true = none in absurd cc
  living_opens (first ∷ later) some =
      let alive = is_start_alive plan.skip items first.position in
      let in_time = is_time_left (limit_from plan (event_at events first.position)) now in
      let near = ends_in (open_lasts plan events now) (first ∷ later) in
      (λ i. (is_live plan events (first ∷ later) && alive-begins plan.skip items events (first ∷ later) i)
      && time_left-open plan events first later now i)
      ∙ grouped (is_live plan events (first ∷ later)) alive in_time near where
        grouped : (live alive in_time near : Bool) → ((live && alive) && (in_time && near)) ≡ (live && ((alive && in_time) && near))
        grouped false alive in_time near = refl
        grouped true false in_time near = refl
        grouped true true in_time near = refl

partial_from : (plan : Plan) (events : List Event) (list : List Entry) → has_entries list ≡ true → may_grow plan events list ≡ true
    → is_partial plan events list ≡ true
unfolding is_partial
partial_from plan events list some grows = and_from (has_entries list) (may_grow plan events list) some grows

partial_has : (plan : Plan) (events : List Event) (list : List Entry) → is_partial plan events list ≡ true → has_entries list ≡ true
unfolding is_partial
partial_has plan events list partial = (and_parts (has_entries list) (may_grow plan events list) partial).0

-- a waiter of this list for this stage
pub record HasWaiter (waiters : List Waiter) (list : List Entry) (stage : ℕ) : Type 0 where
  pub waiter : Waiter
  pub listed : Contains waiters waiter
  pub list_is : waiter.list ≡ list
  pub stage_is : waiter.stage ≡ stage

-- the list waits for the stage, and is living
pub record LivesFor (plan : Plan) (ticks : List Tick) (list : List Entry) (stage : ℕ) : Type 0 where
  pub lives : Contains (living plan ticks) list
  pub waits_for : waits plan (events_of ticks) list stage ≡ true

-- the list is living, and waits for some stage
pub record LivesForSome (plan : Plan) (ticks : List Tick) (list : List Entry) : Type 0 where
  pub stage : ℕ
  pub partial : is_partial plan (events_of ticks) list ≡ true
  pub waits_for : waits plan (events_of ticks) list stage ≡ true
  pub opens : is_open (open_scope plan (events_of ticks) (kept plan.skip (history plan ticks)) (last_time ticks)) list ≡ true

-- With the runs of the empty list the waiters stand for the events of the ticks and the lists that are open after them, and each
-- waiter's list has entries.
pub record AreWaiting (plan : Plan) (ticks : List Tick) (waiters : List Waiter) : Type 0 where
  pub stand :
      StandsFor plan (events_of ticks) (open_scope plan (events_of ticks) (kept plan.skip (history plan ticks)) (last_time ticks))
      (runs_of plan [] ++ map (seen (events_of ticks)) waiters)
  pub some : Each (λ (w : Waiter). has_entries w.list ≡ true) waiters

module _ (plan : Plan) (ticks : List Tick) where
  abbrev events : List Event
  events = events_of ticks

  abbrev scope : Scope
  scope = open_scope plan (events_of ticks) (kept plan.skip (history plan ticks)) (last_time ticks)

  abbrev lives_now : List Entry → Bool
  lives_now = is_living plan (events_of ticks) (kept plan.skip (history plan ticks)) (last_time ticks)

  -- a partial match stands among all lists
  pub within_of : (list : List Entry) → is_partial plan events list ≡ true → Contains (lists_within plan (length events)) list
  within_of list partial =
      Contains-rising_lists (length plan.stages) 0 (length events) (length events) (zero-add (length events)) list
      (is_partial-rising plan events list partial)

  -- what waits and is open is living
  pub lives_from : (list : List Entry) (stage : ℕ) → has_entries list ≡ true → waits plan events list stage ≡ true → is_open scope list ≡ true
      → Contains (living plan ticks) list
  unfolding living
  lives_from list stage some is opens =
      let partial = partial_from plan events list some (waits-may_grow plan events list stage is) in
      Contains-filter lives_now (lists_within plan (length events)) list (within_of list partial)
      (living_opens plan events (kept plan.skip (history plan ticks)) (last_time ticks) list some
      ∙ and_from (is_live plan events list) (is_open scope list) (is_live-waits plan events list stage partial is) opens)

  -- and what is living waits for some stage
  pub lives_for : (list : List Entry) → Contains (living plan ticks) list → LivesForSome plan ticks list
  unfolding living
  lives_for list q =
      let found = Contains-from_filter lives_now (lists_within plan (length events)) list q in
      let rises = Each-contains (IsRisingList (length plan.stages) 0 (length events)) (lists_within plan (length events)) list
      (rising_lists-rising (length plan.stages) 0 (length events) (length events) (zero-add (length events))) found.0 in
      let both = and_parts (is_live plan events list) (is_open scope list)
      (sym (living_opens plan events (kept plan.skip (history plan ticks)) (last_time ticks) list (rising_some list rises)) ∙ found.1) in
      let live = waits-is_live plan events list both.0 in
      record { stage = live.1.0; partial = live.0; waits_for = live.1.1; opens = both.1 } where
        rising_some : (l : List Entry) → IsRisingList (length plan.stages) 0 (length events) l → has_entries l ≡ true
        rising_some [] rises = absurd rises
        rising_some (first ∷ later) rises = refl

  pub living_apart : AllApart (living plan ticks)
  unfolding living
  living_apart =
      AllApart-filter lives_now (lists_within plan (length events))
      (sorted_apart (lists_within plan (length events)) (rising_lists-sorted (length plan.stages) 0 (length events)))

  -- ---- what waits

  -- the list with the stage waits after the ticks
  pub waiting_has : (list : List Entry) (stage : ℕ) → Contains (living plan ticks) list → waits plan events list stage ≡ true
      → Contains (waiting_after plan ticks) (waiting_for list stage)
  waiting_has list stage q is =
      let known = stage_awaited plan (stages_of list) stage (waits-follows plan events list stage is) in
      Contains-flat_map (waiting_of plan ticks) (living plan ticks) list (waiting_for list stage) q
      (Contains-map (waiting_for list) (filter (waits plan events list) (range_with_len 0 (end_stage plan + 1))) stage
      (Contains-filter (waits plan events list) (range_with_len 0 (end_stage plan + 1)) stage
      (Contains-range 0 (end_stage plan + 1) stage (omega arith) (omega (arith, known))) is))

  pub waiting_lives : (one : Waiting) → Contains (waiting_after plan ticks) one → LivesFor plan ticks one.list one.stage
  waiting_lives one q = of_list (Contains-from_flat_map (waiting_of plan ticks) (living plan ticks) one q) where
    of_list : ((list : List Entry) × Contains (living plan ticks) list × Contains (waiting_of plan ticks list) one) → LivesFor plan ticks one.list one.stage
    of_list (list, lives, there) =
        of_stage (Contains-from_map (waiting_for list) (filter (waits plan events list) (range_with_len 0 (end_stage plan + 1))) one there) where
          of_stage :
              ((stage : ℕ) × Contains (filter (waits plan events list) (range_with_len 0 (end_stage plan + 1))) stage ×
              (waiting_for list stage ≡ one)) → LivesFor plan ticks one.list one.stage
          of_stage (stage, listed, is) =
              subst (λ (w : Waiting). LivesFor plan ticks w.list w.stage) is
              (record { lives = lives; waits_for = (Contains-from_filter (waits plan events list) (range_with_len 0 (end_stage plan + 1)) stage listed).1 })

  pub waiting_apart : AllApart (waiting_after plan ticks)
  waiting_apart =
      AllApart-flat_map (waiting_of plan ticks) (living plan ticks)
      (λ list. AllApart-map (waiting_for list) (filter (waits plan events list) (range_with_len 0 (end_stage plan + 1)))
      (λ a b in_a in_b same. ap (λ (w : Waiting). w.stage) same)
      (AllApart-filter (waits plan events list) (range_with_len 0 (end_stage plan + 1)) (AllApart-range 0 (end_stage plan + 1))))
      (λ a b one in_a in_b. sym (list_in a one in_a) ∙ list_in b one in_b) living_apart where
        list_in : (list : List Entry) (one : Waiting) → Contains (waiting_of plan ticks list) one → one.list ≡ list
        list_in list one q =
            sym (ap (λ (w : Waiting). w.list)
            (Contains-from_map (waiting_for list) (filter (waits plan events list) (range_with_len 0 (end_stage plan + 1))) one q).2)

  -- ---- runs

  module _ (waiters : List Waiter) (are : AreWaiting plan ticks waiters) where
    same_taken : (a b : List Entry) → taken_of events a ≡ taken_of events b → a ≡ b
    same_taken a b same = sym (entries_in-taken_of events a) ∙ ap entries_in same ∙ entries_in-taken_of events b

    -- each waiter's list is living, and waits for the waiter's stage
    pub waiter_lives : (w : Waiter) → Contains waiters w → LivesFor plan ticks w.list w.stage
    waiter_lives w q =
        of_sound (are.stand.sound (seen events w)
        (Contains-append_right (runs_of plan []) (map (seen events) waiters) (seen events w) (Contains-map (seen events) waiters w q))) where
          of_sound :
              ((list : List Entry) × (seen events w ≡ run_of events list w.stage) × (waits plan events list w.stage ≡ true) ×
              (is_open scope list ≡ true)) → LivesFor plan ticks w.list w.stage
          of_sound (list, is, waits_for, opens) =
              let same : list ≡ w.list = sym (same_taken w.list list (ap (λ (r : ListRun). r.list) is)) in
              let there : waits plan events w.list w.stage ≡ true = ap (λ l. waits plan events l w.stage) (sym same) ∙ waits_for in
              record {
                lives =
                    lives_from w.list w.stage (Each-contains (λ (v : Waiter). has_entries v.list ≡ true) waiters w are.some q) there
                    (ap (is_open scope) (sym same) ∙ opens);
                waits_for = there;
              }

    -- and each living list has a waiter for each stage that it waits for
    pub waiter_of : (list : List Entry) (stage : ℕ) → has_entries list ≡ true → waits plan events list stage ≡ true → is_open scope list ≡ true
        → HasWaiter waiters list stage
    waiter_of list stage entries is opens =
        elim (Contains-append_cases (runs_of plan []) (map (seen events) waiters) (run_of events list stage) (are.stand.complete list stage is opens)) [
          | inl of_start ↦ absurd
              (of_none list _ entries (Contains-from_map (λ (s : ℕ). record { stage = s; list = taken_of events [] }) _ (run_of events list stage) of_start))
          | inr of_waiter ↦ of_one (Contains-from_map (seen events) waiters (run_of events list stage) of_waiter)
        ] where
          of_none : (l : List Entry) (xs : List ℕ) → has_entries l ≡ true
              → ((s : ℕ) × Contains xs s × ((record { stage = s; list = [] }) ≡ run_of events l stage)) → ⊥
          of_none [] xs none found = let no : false ≡ true = none in cc
          of_none (first ∷ later) xs entries (s, q, same) = let bad : [] ≡ taken_of events (first ∷ later) = ap (λ (r : ListRun). r.list) same in cc

          of_one : ((w : Waiter) × Contains waiters w × (seen events w ≡ run_of events list stage)) → HasWaiter waiters list stage
          of_one (w, q, same) =
              record {
                waiter = w;
                listed = q;
                list_is = same_taken w.list list (ap (λ (r : ListRun). r.list) same);
                stage_is = ap
                    (λ (r : ListRun). r.stage) same;
              }

    pub living_waiter : (list : List Entry) → Contains (living plan ticks) list → (stage : ℕ) → waits plan events list stage ≡ true
        → HasWaiter waiters list stage
    living_waiter list q stage is = let lives = lives_for list q in waiter_of list stage (partial_has plan events list lives.partial) is lives.opens

    -- ---- each once

    -- different runs have different lists or stages
    apart_seen : (ws : List Waiter) → AllApart (map (seen events) ws) → AllApart (map (λ (w : Waiter). waiting_for w.list w.stage) ws)
    apart_seen [] apart = tt
    apart_seen (w ∷ ws) apart = (others ws apart.0, apart_seen ws apart.1) where
      others : (vs : List Waiter) → Each (λ r. seen events w ≡ r → ⊥) (map (seen events) vs)
          → Each (λ x. waiting_for w.list w.stage ≡ x → ⊥) (map (λ (v : Waiter). waiting_for v.list v.stage) vs)
      others [] far = tt
      others (v ∷ vs) far = (
        (λ same. far.0 (λ i. record { stage = (ap (λ (x : Waiting). x.stage) same) i; list = taken_of events ((ap (λ (x : Waiting). x.list) same) i) })),
        others vs far.1,
      )

    apart_behind : (xs ys : List ListRun) → AllApart (xs ++ ys) → AllApart ys
    apart_behind [] ys apart = apart
    apart_behind (x ∷ xs) ys apart = apart_behind xs ys apart.1

    -- The waiters are, in some order, what waits after the ticks, each once.
    pub waiters_are : IsPermutation (map (λ (w : Waiter). waiting_for w.list w.stage) waiters) (waiting_after plan ticks)
    waiters_are =
        IsPermutation-apart (map (λ (w : Waiter). waiting_for w.list w.stage) waiters) (waiting_after plan ticks)
        (apart_seen waiters (apart_behind (runs_of plan []) (map (seen events) waiters) are.stand.once))
        waiting_apart there here where
          there : (one : Waiting) → Contains (map (λ (w : Waiter). waiting_for w.list w.stage) waiters) one → Contains (waiting_after plan ticks) one
          there one q = of_waiter (Contains-from_map (λ (w : Waiter). waiting_for w.list w.stage) waiters one q) where
            of_waiter : ((w : Waiter) × Contains waiters w × (waiting_for w.list w.stage ≡ one)) → Contains (waiting_after plan ticks) one
            of_waiter (w, listed, is) =
                let lives = waiter_lives w listed in
                subst (Contains (waiting_after plan ticks)) is (waiting_has w.list w.stage lives.lives lives.waits_for)

          here : (one : Waiting) → Contains (waiting_after plan ticks) one → Contains (map (λ (w : Waiter). waiting_for w.list w.stage) waiters) one
          here one q =
              let lives = waiting_lives one q in
              let its = living_waiter one.list lives.lives one.stage lives.waits_for in
              let same : waiting_for its.waiter.list its.waiter.stage ≡ one = λ i. record { list = its.list_is i; stage = its.stage_is i } in
              subst (Contains (map (λ (w : Waiter). waiting_for w.list w.stage) waiters)) same
              (Contains-map (λ (w : Waiter). waiting_for w.list w.stage) waiters its.waiter its.listed)
