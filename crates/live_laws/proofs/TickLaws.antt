-- The kept items of a tick, from the starts that earlier kept matches have left open: all timeouts from there, and of the matches from there, those
-- that close before those that the event completes, those that no kept match of the same tick kills.
use Rattle.std.proofs.Common.{◌≡◌, refl, sym, ◌∙◌, ap, append_assoc, Bool, true, false, not, ◌||◌, List, [], ◌∷◌, ◌++◌, map}
use Rattle.std.specs.Prelude.{filter, Option}
use Rattle.cep_event.specs.declared.event.Event.{Event}
use Rattle.cep_event.specs.declared.record.Moment.{Moment}
use Rattle.cep_plan.specs.declared.plan.Plan.{Plan}
use Rattle.cep_plan.specs.declared.plan.Skip.{Skip}
use Rattle.cep_plan.specs.declared.item.Taken.{Taken}
use Rattle.cep_plan.specs.declared.item.Item.{Item}
use Rattle.cep_plan.specs.declared.item.Item.TheVariants.{Match, Timeout}
use Rattle.cep_plan.specs.Entry.{Entry, taken_at, taken_of}
use Rattle.cep_plan.specs.Tick.{event_tick, mark_tick, time_of}
use Rattle.cep_plan.specs.History.{items_from, matches_at, timeouts_at, closed_at}
use Rattle.cep_plan.specs.Skipping.{kills, is_killed, list_in, kept_after}
use Rattle.cep_plan.proofs.HistoryLaws.{kept_after-append}
use Rattle.std.proofs.lemmas.List.{append-nil}
use Rattle.std.proofs.lemmas.List.Elements.{filter-append}
use Rattle.live_laws.specs.Starts.{begins_in, is_start_alive}
use Rattle.live_laws.proofs.MemberLaws.{filter-map}
use Rattle.live_laws.proofs.KeepLaws.{is_alive, is_killed-append, is_killed-start, kept_after-alive, kept_after-timeouts, same_killed}

none_killed : (skip : Skip) (items : List Item) → is_killed skip items [] ≡ false
unfolding kills
none_killed skip [] = refl
none_killed skip (Match match ∷ items) = none_killed skip items
none_killed skip (Timeout other ∷ items) = none_killed skip items

-- a list is alive by its start
pub alive-begins : (skip : Skip) (before : List Item) (events : List Event) (list : List Entry)
    → not (is_killed skip before (taken_of events list)) ≡ begins_in (is_start_alive skip before) list
alive-begins skip before events [] = ap not (none_killed skip before)
alive-begins skip before events (first ∷ later) = ap not (is_killed-start skip before (taken_at events first) (taken_of events later))

-- the items of lists, and those that are alive
alive_items : (skip : Skip) (before : List Item) (events : List Event) (item : List Taken → Item)
    → ((list : List Taken) → list_in (item list) ≡ list) → (lists : List (List Entry))
    → filter (is_alive skip before) (map (λ list. item (taken_of events list)) lists)
    ≡ map (λ list. item (taken_of events list)) (filter (begins_in (is_start_alive skip before)) lists)
alive_items skip before events item same lists =
    filter-map (is_alive skip before) (λ list. item (taken_of events list)) lists
    ∙ ap (λ t. map (λ list. item (taken_of events list)) (filter t lists))
    (λ i list. (ap (λ l. not (is_killed skip before l)) (same (taken_of events list)) ∙ alive-begins skip before events list) i)

-- timeouts before matches kill none of them
timeouts_kill_none : (skip : Skip) (before : List Item) (events : List Event) (lists : List (List Entry)) (list : List Taken)
    → is_killed skip (before ++ map (λ l. Timeout (taken_of events l)) lists) list ≡ is_killed skip before list
timeouts_kill_none skip before events lists list = is_killed-append skip before (map (λ l. Timeout (taken_of events l)) lists) list
    ∙ ap (λ b. is_killed skip before list || b) (none lists) ∙ or-false (is_killed skip before list) where
      none : (ls : List (List Entry)) → is_killed skip (map (λ l. Timeout (taken_of events l)) ls) list ≡ false
      none [] = refl
      none (l ∷ ls) = none ls

      or-false : (b : Bool) → (b || false) ≡ b
      or-false true = refl
      or-false false = refl

module _ (plan : Plan) (events : List Event) (last : Option Moment) (before : List Item) where
  pub timeouts_kept : (now : Moment)
      → kept_after plan.skip before (map (λ l. Timeout (taken_of events l)) (timeouts_at plan events last now))
      ≡ map (λ l. Timeout (taken_of events l)) (filter (begins_in (is_start_alive plan.skip before)) (timeouts_at plan events last now))
  timeouts_kept now = kept_after-timeouts plan.skip before (taken_of events) (timeouts_at plan events last now)
      ∙ alive_items plan.skip before events Timeout (λ list. refl) (timeouts_at plan events last now)

  -- timeouts, and then matches
  kept_behind : (now : Moment) (matches : List Item)
      → kept_after plan.skip before (map (λ l. Timeout (taken_of events l)) (timeouts_at plan events last now) ++ matches)
      ≡ map (λ list. Timeout (taken_of events list)) (filter (begins_in (is_start_alive plan.skip before)) (timeouts_at plan events last now))
      ++ kept_after plan.skip before (filter (is_alive plan.skip before) matches)
  kept_behind now matches =
      let timeouts = map (λ l. Timeout (taken_of events l)) (timeouts_at plan events last now) in
      let shown = map (λ l. Timeout (taken_of events l)) (filter (begins_in (is_start_alive plan.skip before)) (timeouts_at plan events last now)) in
      kept_after-append plan.skip before timeouts matches
      ∙ (λ i. timeouts_kept now i ++ kept_after plan.skip (before ++ timeouts_kept now i) matches)
      ∙ ap (λ r. shown ++ r)
      (same_killed plan.skip (before ++ shown) before matches (timeouts_kill_none plan.skip before events
      (filter (begins_in (is_start_alive plan.skip before)) (timeouts_at plan events last now)))
      ∙ sym (ap (λ b. kept_after plan.skip b (filter (is_alive plan.skip before) matches)) (sym (append-nil before))
      ∙ kept_after-alive plan.skip before [] matches ∙ ap (λ b. kept_after plan.skip b matches) (append-nil before)))

  -- The kept items of a mark's tick.
  pub kept_mark : (now : Moment)
      → kept_after plan.skip before (items_from plan events last (mark_tick now))
      ≡ map (λ list. Timeout (taken_of events list)) (filter (begins_in (is_start_alive plan.skip before)) (timeouts_at plan events last now))
      ++ kept_after plan.skip before (map (λ list. Match (taken_of events list))
      (filter (begins_in (is_start_alive plan.skip before)) (closed_at plan events last now)))
  kept_mark now =
      kept_behind now (map (λ l. Match (taken_of events l)) (closed_at plan events last now))
      ∙ ap (λ r. map (λ l. Timeout (taken_of events l)) (filter (begins_in (is_start_alive plan.skip before)) (timeouts_at plan events last now))
      ++ kept_after plan.skip before r)
      (alive_items plan.skip before events Match (λ list. refl) (closed_at plan events last now))

  -- The kept items of an event's tick.
  pub kept_tick : (event : Event)
      → kept_after plan.skip before (items_from plan events last (event_tick event))
      ≡ map (λ list. Timeout (taken_of events list)) (filter (begins_in (is_start_alive plan.skip before))
      (timeouts_at plan events last (time_of (event_tick event))))
      ++ kept_after plan.skip before (map (λ list. Match (taken_of events list))
      (filter (begins_in (is_start_alive plan.skip before)) (closed_at plan events last (time_of (event_tick event))))
      ++ map (λ list. Match (taken_of (events ++ event ∷ []) list)) (filter (begins_in (is_start_alive plan.skip before)) (matches_at plan events event)))
  kept_tick event =
      let now = time_of (event_tick event) in
      let timeouts = map (λ l. Timeout (taken_of events l)) (timeouts_at plan events last now) in
      let closed = map (λ l. Match (taken_of events l)) (closed_at plan events last now) in
      let matches = map (λ l. Match (taken_of (events ++ event ∷ []) l)) (matches_at plan events event) in
      ap (kept_after plan.skip before) (append_assoc timeouts closed matches)
      ∙ kept_behind now (closed ++ matches)
      ∙ ap (λ r. map (λ l. Timeout (taken_of events l)) (filter (begins_in (is_start_alive plan.skip before)) (timeouts_at plan events last now))
      ++ kept_after plan.skip before r)
      (filter-append (is_alive plan.skip before) closed matches
      ∙ (λ i. alive_items plan.skip before events Match (λ list. refl) (closed_at plan events last now) i
      ++ alive_items plan.skip before (events ++ event ∷ []) Match (λ list. refl) (matches_at plan events event) i))
