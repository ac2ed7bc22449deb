-- At which tick a match is given: a full one at the tick of its last event, another at the first tick that reaches its limit.
use Rattle.std.proofs.Common.{◌≡◌, refl, sym, ◌∙◌, ap, subst, ℕ, ℤ, ◌+◌, arith, Bool, cond, true, false, not, ◌&&◌, List, [], ◌∷◌, ◌++◌, map, length, append_assoc, length-append}
use Rattle.std.specs.Prelude.{◌||◌, Contains, IfSome, Option, Some, None}
use Rattle.std.specs.List.{AllByRecursion as Each, list_any}
use Rattle.std.specs.Option.{option_map_or}
use Rattle.std.proofs.lemmas.Bool.{and_parts, and_from, and_left, not-true, not_from_false, eq-eqb}
use Rattle.std.proofs.lemmas.List.Folds.{list_any-append}
use Rattle.std.proofs.lemmas.List.Sums.{sum_by-cons}
use Rattle.std.proofs.lemmas.List.Elements.{filter_map-append}
use Rattle.cep_event.specs.declared.event.Event.{Event}
use Rattle.cep_event.specs.declared.record.Moment.{Moment}
use Rattle.cep_event.specs.declared.record.Moment.TheVariants.{At}
use Rattle.cep_event.specs.Moment.{has_reached}
use Rattle.cep_plan.specs.declared.plan.Plan.{Plan}
use Rattle.cep_plan.specs.declared.item.Item.TheVariants.{Match, Timeout}
use Rattle.cep_plan.specs.Entry.{Entry, taken_of, stages_of}
use Rattle.cep_plan.specs.Follow.{end_stage, is_closing, may_follow, may_end, may_come, is_full}
use Rattle.cep_plan.specs.Gap.{gap_holds}
use Rattle.cep_plan.specs.Limit.{limit_of, is_below_limit, is_due}
use Rattle.cep_plan.specs.Partial.{is_partial, is_complete, is_match, is_open_for, count_before, closes}
use Rattle.cep_plan.specs.Tick.{Tick, event_tick, mark_tick, event_in, events_of, last_time}
use Rattle.cep_plan.specs.History.{lists_within, timeouts_at, closed_at, due_items, ends_at, matches_at, items_at, items_from}
use Rattle.cep_plan.proofs.RisingLaws.{Contains-rising_lists}
use Rattle.cep_plan.proofs.FilteredLaws.{Contains-filter, Contains-from_filter}
use Rattle.cep_plan.proofs.LocalLaws.{AreAmong, taken_of-append, is_partial-append, gap_holds-append}
use Rattle.live_laws.proofs.PartialLaws.{is_partial-rising}
use Rattle.recent_laws.proofs.CutLaws.{never_front, never_behind}
use Rattle.recent_laws.proofs.GivenLaws.{Each-also, AllReached, all_reached, later_reached, below_last, among_of}
use Rattle.recent_laws.proofs.NextLaws.{last_time-push}
use Rattle.judged_rows.specs.Place.{is_match_of}
use Rattle.judged_laws.specs.Found.{ends_below, is_given, GivesJust}
use Rattle.judged_laws.proofs.ListLaws.{same_bools, shown-listed, listed-shown, none_timed_out, all_below, below_all, at-below}

-- ---- events below a limit

count-none : (limit : ℤ) (more : List Event) → Each (λ e. is_below_limit (Some limit) e.ts ≡ false) more → count_before more limit ≡ 0
count-none limit [] h = refl
count-none limit (e ∷ more) h = sum_by-cons (λ (e : Event). cond {A = ℕ} (is_below_limit (Some limit) e.ts) 1 0) e more
    ∙ (λ i. cond {A = ℕ} (h.0 i) 1 0 + count-none limit more h.1 i)

count-all : (limit : ℤ) (events more : List Event) → Each (λ e. is_below_limit (Some limit) e.ts ≡ true) events
    → Each (λ e. is_below_limit (Some limit) e.ts ≡ false) more → count_before (events ++ more) limit ≡ length events
count-all limit [] more h k = count-none limit more k
count-all limit (e ∷ events) more h k =
    let one : 1 + length events ≡ length (e ∷ events) = omega arith in
    sum_by-cons (λ (e : Event). cond {A = ℕ} (is_below_limit (Some limit) e.ts) 1 0) e (events ++ more)
    ∙ (λ i. cond {A = ℕ} (h.0 i) 1 0 + count-all limit events more h.1 k i) ∙ one

-- ---- full lists and lists that wait for the end

-- a list that may end isn't full
may_end-not_full : (plan : Plan) (so_far : List ℕ) → may_follow plan so_far (end_stage plan) ≡ true → is_full plan so_far ≡ false
unfolding may_follow is_full
may_end-not_full plan so_far h =
    let ends : may_end plan so_far ≡ true =
    sym (ap (λ b. cond b (may_end plan so_far) (may_come plan so_far (end_stage plan))) (eq-eqb (end_stage plan) (end_stage plan) refl)) ∙ h in
    let closing : is_closing plan ≡ true = (and_parts (is_closing plan) _ ends).0 in and_left (not (is_closing plan)) _ (ap not closing)

module _ (plan : Plan) (events more : List Event) (list : List Entry) where
  -- a partial match among all events that ends below some of them is one among these
  module _ (below : ends_below (length events) list ≡ true) (partial : is_partial plan (events ++ more) list ≡ true) where
    pub among_these : AreAmong events list
    among_these = all_below _ _ (length events) list (is_partial-rising plan (events ++ more) list partial) below

    pub partial_these : is_partial plan events list ≡ true
    partial_these = sym (is_partial-append plan events more list among_these) ∙ partial

    pub listed_these : Contains (lists_within plan (length events)) list
    listed_these = Contains-rising_lists (length plan.stages) 0 (length events) (length events) (omega arith) list
        (is_partial-rising plan events list partial_these)

  match_parts : is_match plan (events ++ more) list ≡ true → (is_partial plan (events ++ more) list ≡ true)
      × ((is_full plan (stages_of list) || closes plan (events ++ more) list) ≡ true)
  unfolding is_match
  match_parts h = and_parts (is_partial plan (events ++ more) list) _ h

-- ---- lists that close at a tick

module _ (plan : Plan) (before : List Tick) (more : List Event) (now : Moment) (reached : AllReached before)
    (above : (limit : ℤ) → has_reached now limit ≡ true → Each (λ e. is_below_limit (Some limit) e.ts ≡ false) more) (list : List Entry) where
  open_now : (limit : Option ℤ) (last : Option Moment) → limit_of plan (taken_of (events_of before ++ more) list) ≡ limit → last_time before ≡ last
      → is_due limit last now ≡ true → AreAmong (events_of before) list → closes plan (events_of before ++ more) list ≡ true
      → is_open_for plan (events_of before) list (end_stage plan) ≡ true
  open_now limit None l t due among shut = let wrong : false ≡ true = due in absurd cc
  open_now None (Some last) l t due among shut = let wrong : false ≡ true = due in absurd cc
  open_now (Some limit) (Some last) l t due among shut =
      let events = events_of before in
      let whole = events ++ more in
      let parts = and_parts (not (has_reached last limit)) (has_reached now limit) due in
      let unreached = not-true (has_reached last limit) parts.0 in
      let all = reached last (subst (λ o. IfSome o (λ earlier. (t : ℤ) → has_reached earlier t ≡ true → has_reached last t ≡ true)) (sym t) (λ t r. r)) in
      let below = Each-also (λ e. has_reached last e.ts ≡ true) (λ e. is_below_limit (Some limit) e.ts ≡ true)
      (λ e r. below_last limit last e.ts unreached r) events all in
      let both = and_parts (may_follow plan (stages_of list) (end_stage plan)) _ shut in
      let gap : gap_holds plan whole list (end_stage plan) (count_before whole limit) ≡ true =
      sym (ap (λ o. option_map_or (λ l. gap_holds plan whole list (end_stage plan) (count_before whole l)) o false) l) ∙ both.1 in
      and_from _ _ both.0
      (sym (gap_holds-append plan events more list among (end_stage plan) (length events) (omega arith))
      ∙ sym (ap (gap_holds plan whole list (end_stage plan)) (count-all limit events more below (above limit parts.1))) ∙ gap)

  closed_just : is_match plan (events_of before ++ more) list ≡ true
      → list_any (is_match_of list) (map (λ l. Match (taken_of (events_of before) l)) (closed_at plan (events_of before) (last_time before) now))
      ≡ (not (is_full plan (stages_of list)) && (ends_below (length (events_of before)) list
      && is_due (limit_of plan (taken_of (events_of before ++ more) list)) (last_time before) now))
  closed_just matched = same_bools _ _ given told where
    given : list_any (is_match_of list) (map (λ l. Match (taken_of (events_of before) l)) (closed_at plan (events_of before) (last_time before) now)) ≡ true
        → (not (is_full plan (stages_of list)) && (ends_below (length (events_of before)) list
        && is_due (limit_of plan (taken_of (events_of before ++ more) list)) (last_time before) now)) ≡ true
    given h =
        let events = events_of before in
        let found = Contains-from_filter _ (lists_within plan (length events)) list (shown-listed events list _ h) in
        let three = and_parts _ (is_open_for plan events list (end_stage plan)) found.1 in
        let two = and_parts (is_due (limit_of plan (taken_of events list)) (last_time before) now) (is_partial plan events list) three.0 in
        let among = among_of plan events list two.1 in
        let follows = (and_parts (may_follow plan (stages_of list) (end_stage plan)) _ three.1).0 in
        and_from _ _ (not_from_false _ (may_end-not_full plan (stages_of list) follows))
        (and_from _ _ (below_all _ _ (length events) list (is_partial-rising plan events list two.1) among)
        (ap (λ t. is_due (limit_of plan t) (last_time before) now) (taken_of-append events more list among) ∙ two.0))

    told : (not (is_full plan (stages_of list)) && (ends_below (length (events_of before)) list
        && is_due (limit_of plan (taken_of (events_of before ++ more) list)) (last_time before) now)) ≡ true
        → list_any (is_match_of list) (map (λ l. Match (taken_of (events_of before) l)) (closed_at plan (events_of before) (last_time before) now)) ≡ true
    told h =
        let events = events_of before in
        let two = and_parts (not (is_full plan (stages_of list))) _ h in
        let three = and_parts (ends_below (length events) list) _ two.1 in
        let parts = match_parts plan events more list matched in
        let among = among_these plan events more list three.0 parts.0 in
        let partial = partial_these plan events more list three.0 parts.0 in
        let shut : closes plan (events ++ more) list ≡ true =
        sym (ap (λ b. b || closes plan (events ++ more) list) (not-true _ two.0)) ∙ parts.1 in
        let waiting = open_now (limit_of plan (taken_of (events ++ more) list)) (last_time before) refl refl three.1 among shut in
        let due = sym (ap (λ t. is_due (limit_of plan t) (last_time before) now) (taken_of-append events more list among)) ∙ three.1 in
        listed-shown events list _ (Contains-filter _ (lists_within plan (length events)) list (listed_these plan events more list three.0 parts.0)
        (and_from _ _ (and_from _ _ due partial) waiting))

-- ---- lists that an event completes

module _ (plan : Plan) (events : List Event) (event : Event) (more : List Event) (list : List Entry) where
  complete_just : is_match plan ((events ++ event ∷ []) ++ more) list ≡ true
      → list_any (is_match_of list) (map (λ l. Match (taken_of (events ++ event ∷ []) l)) (matches_at plan events event))
      ≡ (is_full plan (stages_of list) && ends_at (length events) list)
  unfolding is_complete
  complete_just matched = same_bools _ _ given told where
    given : list_any (is_match_of list) (map (λ l. Match (taken_of (events ++ event ∷ []) l)) (matches_at plan events event)) ≡ true
        → (is_full plan (stages_of list) && ends_at (length events) list) ≡ true
    given h =
        let whole = events ++ event ∷ [] in
        let found = Contains-from_filter _ (lists_within plan (length events + 1)) list (shown-listed whole list _ h) in
        let two = and_parts (ends_at (length events) list) (is_complete plan whole list) found.1 in
        and_from _ _ (and_parts (is_partial plan whole list) (is_full plan (stages_of list)) two.1).1 two.0

    told : (is_full plan (stages_of list) && ends_at (length events) list) ≡ true
        → list_any (is_match_of list) (map (λ l. Match (taken_of (events ++ event ∷ []) l)) (matches_at plan events event)) ≡ true
    told h =
        let whole = events ++ event ∷ [] in
        let two = and_parts (is_full plan (stages_of list)) (ends_at (length events) list) h in
        let one_more : length whole ≡ length events + 1 = length-append events (event ∷ []) in
        let below : ends_below (length whole) list ≡ true = ap (λ n. ends_below n list) one_more ∙ at-below (length events) list two.1 in
        let partial = (match_parts plan whole more list matched).0 in
        listed-shown whole list _ (Contains-filter _ (lists_within plan (length events + 1)) list
        (subst (λ n. Contains (lists_within plan n) list) one_more (listed_these plan whole more list below partial))
        (and_from _ _ two.1 (and_from _ _ (partial_these plan whole more list below partial) two.0)))

-- ---- a tick

by_full : (full late ended : Bool) → ((false || (not full && late)) || (full && ended)) ≡ cond full ended late
by_full true late ended = refl
by_full false true ended = refl
by_full false false ended = refl

by_due : (full late : Bool) → (false || (not full && late)) ≡ cond full false late
by_due true late = refl
by_due false late = refl

due_any : (plan : Plan) (before : List Tick) (now : Moment) (list : List Entry) (late : Bool)
    → list_any (is_match_of list) (map (λ l. Match (taken_of (events_of before) l)) (closed_at plan (events_of before) (last_time before) now)) ≡ late
    → list_any (is_match_of list) (due_items plan (events_of before) (last_time before) now) ≡ (false || late)
due_any plan before now list late h =
    list_any-append (is_match_of list) (map (λ l. Timeout (taken_of (events_of before) l)) (timeouts_at plan (events_of before) (last_time before) now)) _
    ∙ (λ i. none_timed_out (events_of before) list (timeouts_at plan (events_of before) (last_time before) now) i || h i)

pub gives_just : GivesJust
unfolding items_at
gives_just plan before (event_tick event) later never list matched =
    let events = events_of before in
    let rest = events_of later in
    let behind = never_behind [] before (event_tick event ∷ later) never in
    let all : events_of (before ++ event_tick event ∷ later) ≡ events ++ event ∷ rest = filter_map-append event_in before (event_tick event ∷ later) in
    let reached = all_reached [] before (λ now c. tt) (never_front [] before (event_tick event ∷ later) never) in
    let here : is_match plan (events ++ event ∷ rest) list ≡ true = sym (ap (λ l. is_match plan l list) all) ∙ matched in
    let late = closed_just plan before (event ∷ rest) (At event.ts) reached (λ limit r.
    (ap not r, later_reached limit (before ++ event_tick event ∷ []) later (At event.ts) (last_time-push before (event_tick event)) r behind.1)) list here in
    let ended = complete_just plan events event rest list (ap (λ l. is_match plan l list) (append_assoc events (event ∷ []) rest) ∙ here) in
    subst (λ l. list_any (is_match_of list) (items_from plan events (last_time before) (event_tick event)) ≡ is_given plan l list before (event_tick event))
    (sym all)
    (list_any-append (is_match_of list) (due_items plan events (last_time before) (At event.ts)) _
    ∙ (λ i. due_any plan before (At event.ts) list _ late i || ended i)
    ∙ by_full (is_full plan (stages_of list)) _ (ends_at (length events) list))
gives_just plan before (mark_tick moment) later never list matched =
    let events = events_of before in
    let rest = events_of later in
    let behind = never_behind [] before (mark_tick moment ∷ later) never in
    let all : events_of (before ++ mark_tick moment ∷ later) ≡ events ++ rest = filter_map-append event_in before (mark_tick moment ∷ later) in
    let reached = all_reached [] before (λ now c. tt) (never_front [] before (mark_tick moment ∷ later) never) in
    let here : is_match plan (events ++ rest) list ≡ true = sym (ap (λ l. is_match plan l list) all) ∙ matched in
    let late = closed_just plan before rest moment reached (λ limit r.
    later_reached limit (before ++ mark_tick moment ∷ []) later moment (last_time-push before (mark_tick moment)) r behind.1) list here in
    subst (λ l. list_any (is_match_of list) (items_from plan events (last_time before) (mark_tick moment)) ≡ is_given plan l list before (mark_tick moment))
    (sym all) (due_any plan before moment list _ late ∙ by_due (is_full plan (stages_of list)) _)
