-- What the parts of an engine stand for after an event at whose time nothing is due any more, and its kept matches.
use Rattle.std.proofs.Common.{◌≡◌, sym, ◌∙◌, ap, subst, ℕ, ◌+◌, ◌-◌, ◌^◌, ◌<◌, arith, Bool, true, not, ◌&&◌, List, [], ◌∷◌, ◌++◌, append_assoc, length, length-append, map}
use Rattle.std.specs.Prelude.{filter, Option, Some, None, Contains}
use Rattle.std.specs.List.{AllByRecursion as Each}
use Rattle.std.proofs.lemmas.Bool.{and_parts}
use Rattle.std.proofs.lemmas.List.{append-nil}
use Rattle.cep_event.specs.declared.event.Event.{Event}
use Rattle.cep_event.specs.declared.record.Moment.TheVariants.{At}
use Rattle.cep_plan.specs.declared.plan.Plan.{Plan}
use Rattle.cep_plan.specs.declared.item.Taken.{Taken}
use Rattle.cep_plan.specs.declared.item.Item.{Item}
use Rattle.cep_plan.specs.declared.item.Item.TheVariants.{Match}
use Rattle.cep_plan.specs.Entry.{Entry, event_at, taken_of, stages_of}
use Rattle.cep_plan.specs.Follow.{is_full}
use Rattle.cep_plan.specs.Limit.{limit_from, limit_behind, is_limit_reached, is_below_limit}
use Rattle.cep_plan.specs.Partial.{is_partial, is_complete}
use Rattle.cep_plan.specs.Rising.{rising_lists}
use Rattle.cep_plan.specs.History.{ends_at, items_at, due_items, matches_at}
use Rattle.cep_plan.specs.Keys.{kept_of, kept_at}
use Rattle.cep_plan.specs.Tick.{Tick, event_tick, mark_tick, events_of, last_time}
use Rattle.cep_plan.specs.Skipping.{kept, kept_after}
use Rattle.cep_plan.proofs.FilteredLaws.{Contains-from_filter}
use Rattle.cep_event.specs.declared.record.Moment.{Moment}
use Rattle.cep_plan.proofs.HistoryLaws.{kept_after-append}
use Rattle.cep_plan.proofs.LocalLaws.{AreAmong, event_at-append}
use Rattle.live_laws.specs.Starts.{begins_in, is_start_alive, open_starts, open_scope}
use Rattle.live_laws.proofs.KeepLaws.{is_alive, kept_after-alive}
use Rattle.live_laws.proofs.MemberLaws.{Each-from_contains, Each-filter, filter-map}
use Rattle.live_laws.proofs.PartialLaws.{may_grow-among, is_partial-may_grow}
use Rattle.live_laws.proofs.TickLaws.{alive-begins}
use Rattle.live_laws.proofs.TimeLaws.{matches_at-late}
use Rattle.list_runs.specs.Runs.{Admits}
use Rattle.shared_buffer.specs.Content.{Content as BufferContent}
use Rattle.run_step.specs.Content.{Content}
use Rattle.time_limit.specs.Limits.{Kept, limited}
use Rattle.cep_engine.specs.Running.{RunsStand, HasAdvanced}
use Rattle.cep_engine.specs.Small.{AreSmall}
use Rattle.cep_engine.specs.Standing.{IsBelow, AreBelow, PartsAre, PartsStand}
use Rattle.cep_engine.specs.State.{HasRoom}
use Rattle.cep_engine.proofs.KeptLaws.{AreBelow-later, kept_after-each, is_start_alive-next}
use Rattle.cep_engine.proofs.LoopLaws.{map-map}
use Rattle.cep_engine.proofs.OpenLaws.{events_of-event, events_of-mark, last_time-push, kept_of-push, filter-passes, open_new, open_new_last, RunsStand-event, saved_for-event}
use Rattle.cep_engine.proofs.TickLaws.{matches_of, kept_fresh, among_below, among_small}

-- each match of a tick has its events among those so far
matches_among : (plan : Plan) (events : List Event) (event : Event) → Each (AreAmong (events ++ event ∷ [])) (matches_at plan events event)
unfolding is_complete
matches_among plan events event = Each-from_contains (AreAmong (events ++ event ∷ [])) (matches_at plan events event) (λ list q. among list q) where
  among : (list : List Entry) → Contains (matches_at plan events event) list → AreAmong (events ++ event ∷ []) list
  among list q =
      let test : List Entry → Bool = λ l. ends_at (length events) l && (is_partial plan (events ++ event ∷ []) l && is_full plan (stages_of l)) in
      let passed = (Contains-from_filter test (rising_lists (length plan.stages) 0 (length events + 1)) list q).1 in
      let match = (and_parts (ends_at (length events) list) (is_partial plan (events ++ event ∷ []) list && is_full plan (stages_of list)) passed).1 in
      let partial = (and_parts (is_partial plan (events ++ event ∷ []) list) (is_full plan (stages_of list)) match).0 in
      may_grow-among plan (events ++ event ∷ []) list (is_partial-may_grow plan (events ++ event ∷ []) list partial)

module _ (plan : Plan) (events : List Event) (items : List Item) (content : Content) (buffer : BufferContent) (saved : Kept) (event : Event)
    (parts : PartsAre plan events items (Some (At event.ts)) content buffer saved) (room : HasRoom plan) where
  abbrev whole : List Event
  whole = events ++ event ∷ []

  abbrev alive : ℕ → Bool
  alive = is_start_alive plan.skip items

  abbrev open_now : ℕ → Bool
  open_now = open_starts plan (events ++ event ∷ []) items (Some (At event.ts))

  -- ---- the step

  lives : is_start_alive plan.skip items (length events) ≡ true
  lives = is_start_alive-next (length events) plan.skip items parts.below

  -- the event may come next
  pub admits : Admits plan events (open_scope plan (events ++ event ∷ []) items (Some (At event.ts))) event
  admits = record {
    start_open = open_new plan events items event lives room;
    last_open = open_new_last plan events items event room;
    late = λ position lt shut.
        sym (ap (λ e. is_below_limit (limit_behind plan e) event.ts) (event_at-append events (event ∷ []) position lt)) ∙ shut;
  }

  -- before the step the runs stand for what is open at the event
  pub ready : RunsStand plan events (open_scope plan (events ++ event ∷ []) items (Some (At event.ts))) content buffer
  ready = RunsStand-event plan events items event content buffer parts.runs

  -- after it the parts stand for the events with this one
  pub parts_next : (lists : List (List Taken)) (after : Content) (after_buffer : BufferContent) (added : Kept)
      → HasAdvanced plan events event (open_scope plan (events ++ event ∷ []) items (Some (At event.ts))) lists after after_buffer
      → added
      ≡ record saved {
        starts = saved.starts ++ limited saved.within (record { position = length events; ts = event.ts } ∷ []);
        lasts = saved.lasts ++ limited saved.gap (record { position = length events; ts = event.ts } ∷ []);
      }
      → PartsAre plan (events ++ event ∷ []) items (Some (At event.ts)) after after_buffer added
  parts_next lists after after_buffer added advanced is = record {
    runs = advanced.stands;
    limits = is
        ∙ (λ i. record (parts.limits i) {
          starts = (parts.limits i).starts ++ limited (parts.limits i).within (record { position = length events; ts = event.ts } ∷ []);
          lasts = (parts.limits i).lasts ++ limited (parts.limits i).gap (record { position = length events; ts = event.ts } ∷ []);
        })
        ∙ saved_for-event plan events items event lives room;
    below = AreBelow-later (length events) (length whole) (omega (arith, length-append events (event ∷ []))) items parts.below;
    first = λ none. let no : Some (At event.ts) ≡ None = none in absurd cc;
  }

  -- ---- the kept matches

  -- the matches of the tick from the starts that are alive
  same_matches : filter (begins_in open_now) (matches_at plan events event) ≡ filter (begins_in alive) (matches_at plan events event)
  same_matches =
      matches_at-late plan events event alive (λ p. is_limit_reached (limit_from plan (event_at (events ++ event ∷ []) p)) (At event.ts))
      (λ first h. ap not h)

  module _ (lists : List (List Taken)) (are :
      lists
      ≡ map (taken_of (events ++ event ∷ []))
      (filter (begins_in (open_starts plan (events ++ event ∷ []) items (Some (At event.ts)))) (matches_at plan events event))) where
    among : Each (AreAmong (events ++ event ∷ [])) (filter (begins_in open_now) (matches_at plan events event))
    among = Each-filter (AreAmong whole) (begins_in open_now) (matches_at plan events event) (matches_among plan events event)

    pub matches_small : length events < 2 ^ 32 - 1 → AreSmall lists
    matches_small small =
        subst AreSmall (sym are)
        (among_small whole (filter (begins_in open_now) (matches_at plan events event)) among (omega (arith, small, length-append events (event ∷ []))))

    pub matches_below : (found : List (List Taken)) → map Match found ≡ kept plan.skip (map Match lists)
        → AreBelow (length (events ++ event ∷ [])) (map Match found)
    unfolding kept
    matches_below found is =
        subst (Each (IsBelow (length whole))) (sym is)
        (kept_after-each (IsBelow (length whole)) plan.skip [] (map Match lists)
        (subst (λ ls. Each (IsBelow (length whole)) (map Match ls)) (sym are)
        (among_below whole (filter (begins_in open_now) (matches_at plan events event)) among)))

    -- the matches that are kept after all items before
    pub kept_next : (found : List (List Taken)) → map Match found ≡ kept plan.skip (map Match lists)
        → map Match found ≡ kept_after plan.skip items (map (λ list. Match (taken_of (events ++ event ∷ []) list)) (matches_at plan events event))
    unfolding kept
    kept_next found is =
        let all = matches_at plan events event in
        let ours = filter (begins_in alive) all in
        is
        ∙ ap (kept_after plan.skip []) (ap (map Match) (are ∙ ap (map (taken_of whole)) same_matches) ∙ map-map Match (taken_of whole) ours)
        ∙ sym (kept_fresh plan.skip items whole ours (filter-passes (begins_in alive) all))
        ∙ ap (kept_after plan.skip items)
        (sym (filter-map (is_alive plan.skip items) (λ list. Match (taken_of whole list)) all
        ∙ ap (λ t. map (λ list. Match (taken_of whole list)) (filter t all)) (λ i list. alive-begins plan.skip items whole list i)))
        ∙ ap (λ k. kept_after plan.skip k (filter (is_alive plan.skip items) (matches_of whole all))) (sym (append-nil items))
        ∙ kept_after-alive plan.skip items [] (matches_of whole all)
        ∙ ap (λ k. kept_after plan.skip k (matches_of whole all)) (append-nil items)

-- ---- ticks

parts_of :
    (plan : Plan) (events other : List Event) (items more : List Item) (last now : Option Moment) (content : Content) (buffer : BufferContent)
    (saved : Kept) → events ≡ other → items ≡ more → last ≡ now
    → PartsAre plan other more now content buffer saved → PartsAre plan events items last content buffer saved
parts_of plan events other items more last now content buffer saved e k t parts =
    subst (λ (x : List Event × List Item × Option Moment). PartsAre plan x.0 x.1 x.2 content buffer saved) (λ i. (sym e i, sym k i, sym t i)) parts

module _ (plan : Plan) (ticks : List Tick) where
  -- a mark's kept items are those of its moment
  pub kept_at-mark : (now : Moment) (made : List Item)
      → made ≡ kept_after plan.skip (kept_of plan ticks) (due_items plan (events_of ticks) (last_time ticks) now) → made ≡ kept_at plan ticks (mark_tick now)
  unfolding items_at
  kept_at-mark now made is = is

  pub PartsStand-mark : (now : Moment) (made : List Item) (content : Content) (buffer : BufferContent) (saved : Kept)
      → made ≡ kept_after plan.skip (kept_of plan ticks) (due_items plan (events_of ticks) (last_time ticks) now)
      → PartsAre plan (events_of ticks) (kept_of plan ticks ++ made) (Some now) content buffer saved
      → PartsStand plan (ticks ++ mark_tick now ∷ []) content buffer saved
  PartsStand-mark now made content buffer saved is parts =
      parts_of plan (events_of (ticks ++ mark_tick now ∷ [])) (events_of ticks) (kept_of plan (ticks ++ mark_tick now ∷ [])) (kept_of plan ticks ++ made)
      (last_time (ticks ++ mark_tick now ∷ [])) (Some now) content buffer saved
      (events_of-mark ticks now) (kept_of-push plan ticks (mark_tick now) ∙ ap (λ r. kept_of plan ticks ++ r) (sym (kept_at-mark now made is)))
      (last_time-push ticks (mark_tick now)) parts

  module _ (event : Event) (due next : List Item)
      (due_is : due ≡ kept_after plan.skip (kept_of plan ticks) (due_items plan (events_of ticks) (last_time ticks) (At event.ts)))
      (next_is : next ≡ kept_after plan.skip (kept_of plan ticks ++ due)
      (map (λ list. Match (taken_of (events_of ticks ++ event ∷ []) list)) (matches_at plan (events_of ticks) event))) where
    -- those of an event are those of its time, and then the matches
    pub kept_at-event : due ++ next ≡ kept_at plan ticks (event_tick event)
    unfolding items_at
    kept_at-event =
        let matches = map (λ list. Match (taken_of (events_of ticks ++ event ∷ []) list)) (matches_at plan (events_of ticks) event) in
        (λ i. due_is i ++ (next_is ∙ ap (λ d. kept_after plan.skip (kept_of plan ticks ++ d) matches) due_is) i)
        ∙ sym (kept_after-append plan.skip (kept_of plan ticks) (due_items plan (events_of ticks) (last_time ticks) (At event.ts)) matches)

    pub PartsStand-event : (content : Content) (buffer : BufferContent) (saved : Kept)
        → PartsAre plan (events_of ticks ++ event ∷ []) ((kept_of plan ticks ++ due) ++ next) (Some (At event.ts)) content buffer saved
        → PartsStand plan (ticks ++ event_tick event ∷ []) content buffer saved
    PartsStand-event content buffer saved parts =
        parts_of plan (events_of (ticks ++ event_tick event ∷ [])) (events_of ticks ++ event ∷ []) (kept_of plan (ticks ++ event_tick event ∷ []))
        ((kept_of plan ticks ++ due) ++ next) (last_time (ticks ++ event_tick event ∷ [])) (Some (At event.ts)) content buffer saved
        (events_of-event ticks event)
        (kept_of-push plan ticks (event_tick event) ∙ ap (λ r. kept_of plan ticks ++ r) (sym kept_at-event) ∙ sym (append_assoc (kept_of plan ticks) due next))
        (last_time-push ticks (event_tick event)) parts
