-- What the parts of an engine stand for after a moment: what it ends, and the starts that matches kill.
use Rattle.std.proofs.Common.{◌≡◌, refl, sym, ◌∙◌, ap, subst, ℕ, ◌-◌, ◌^◌, ◌<◌, arith, Bool, true, false, not, ◌&&◌, List, [], ◌∷◌, ◌++◌, append_assoc, length, map}
use Rattle.std.specs.Prelude.{filter, Option, Some, None, Contains}
use Rattle.std.specs.List.{list_any, AllByRecursion as Each}
use Rattle.std.specs.List.Sorted.{IsPermutation, IsSortedBy}
use Rattle.std.proofs.lemmas.Bool.{and_parts}
use Rattle.std.proofs.lemmas.List.{append-nil}
use Rattle.cep_event.specs.declared.event.Event.{Event}
use Rattle.cep_event.specs.declared.record.Moment.{Moment}
use Rattle.cep_plan.specs.declared.plan.Plan.{Plan}
use Rattle.cep_plan.specs.declared.plan.Skip.{Skip}
use Rattle.cep_plan.specs.declared.item.Taken.{Taken}
use Rattle.cep_plan.specs.declared.item.Item.{Item}
use Rattle.cep_plan.specs.declared.item.Item.TheVariants.{Match, Timeout}
use Rattle.cep_plan.specs.Entry.{Entry, event_at, taken_at, taken_of}
use Rattle.cep_plan.specs.Follow.{end_stage}
use Rattle.cep_plan.specs.Limit.{limit_from, limit_of, is_due, is_time_left}
use Rattle.cep_plan.specs.Partial.{is_partial, is_open_for}
use Rattle.cep_plan.specs.History.{due_items, lists_within, timeouts_at, closed_at}
use Rattle.cep_plan.specs.Skipping.{kept, kept_after, is_killed, list_in}
use Rattle.cep_plan.proofs.FilteredLaws.{Contains-from_filter}
use Rattle.cep_plan.proofs.LocalLaws.{AreAmong}
use Rattle.cep_plan.proofs.RisingLaws.{Each-append, Each-map}
use Rattle.live_laws.specs.Starts.{Scope, begins_in, item_kills_start, is_start_alive, open_starts, open_lasts, open_scope, waiting_at, closing_at, comes_earlier}
use Rattle.live_laws.proofs.KeepLaws.{kept_after-fresh}
use Rattle.live_laws.proofs.MemberLaws.{Each-from_contains, Each-filter}
use Rattle.live_laws.proofs.PartialLaws.{may_grow-among, is_partial-may_grow}
use Rattle.live_laws.proofs.TickLaws.{alive-begins, kept_mark}
use Rattle.live_laws.proofs.TimeoutLaws.{closes_now}
use Rattle.shared_buffer.specs.Content.{Content as BufferContent}
use Rattle.run_step.specs.Content.{Content}
use Rattle.time_limit.specs.Limits.{Kept}
use Rattle.due_laws.specs.Due.{dues_of, left_of, told_along, scope_after, places_among, saved_for}
use Rattle.due_laws.proofs.OpenLaws.{after_open_start, after_open_last, left_are}
use Rattle.due_laws.proofs.GroupLaws.{timeouts_told, closed_told}
use Rattle.cep_engine.specs.Running.{RunsStand, without_starts}
use Rattle.cep_engine.specs.Small.{AreSmall}
use Rattle.cep_engine.specs.Standing.{IsBelow, AreBelow, PartsAre, IsLater}
use Rattle.cep_engine.proofs.KeptLaws.{AreBelow-timeouts, kept_after-each, is_start_alive-timeouts, is_start_alive-append}
use Rattle.cep_engine.proofs.LoopLaws.{map-map}
use Rattle.cep_engine.proofs.OpenLaws.{filter-passes, places_among-killed, kill_order}
use Rattle.cep_engine.proofs.RunningLaws.{RunsStand-is, RunsStand-agree}

-- ---- matches by their lists

abbrev pub matches_of : List Event → List (List Entry) → List Item
matches_of events lists = map (λ list. Match (taken_of events list)) lists

abbrev pub timeouts_of : List Event → List (List Entry) → List Item
timeouts_of events lists = map (λ list. Timeout (taken_of events list)) lists

not_true : (b : Bool) → not b ≡ true → b ≡ false
not_true true h = let no : false ≡ true = h in absurd cc
not_true false h = refl

-- matches whose starts are alive are kept as if there were no items before
pub kept_fresh : (skip : Skip) (before : List Item) (events : List Event) (lists : List (List Entry))
    → Each (λ list. begins_in (is_start_alive skip before) list ≡ true) lists
    → kept_after skip before (matches_of events lists) ≡ kept_after skip [] (matches_of events lists)
kept_fresh skip before events lists alive =
    ap (λ k. kept_after skip k (matches_of events lists)) (sym (append-nil before))
    ∙ kept_after-fresh skip before [] (matches_of events lists)
    (Each-map (λ item. is_killed skip before (list_in item) ≡ false) (λ list. Match (taken_of events list)) lists (fresh lists alive)) where
      fresh : (all : List (List Entry)) → Each (λ list. begins_in (is_start_alive skip before) list ≡ true) all
          → Each (λ list. is_killed skip before (taken_of events list) ≡ false) all
      fresh [] h = tt
      fresh (list ∷ all) h = (not_true (is_killed skip before (taken_of events list)) (alive-begins skip before events list ∙ h.0), fresh all h.1)

-- ---- where the events of lists stand

taken_below : (events : List Event) (position : ℕ) (list : List Entry) → Each (λ e. e.position < position) list
    → Each (λ t. t.position < position) (taken_of events list)
taken_below events position list h = Each-map (λ (t : Taken). t.position < position) (taken_at events) list h

pub among_below : (events : List Event) (lists : List (List Entry)) → Each (AreAmong events) lists
    → Each (IsBelow (length events)) (map Match (map (taken_of events) lists))
among_below events [] h = tt
among_below events (list ∷ lists) h = (taken_below events (length events) list h.0, among_below events lists h.1)

pub among_small : (events : List Event) (lists : List (List Entry)) → Each (AreAmong events) lists → length events < 2 ^ 32
    → AreSmall (map (taken_of events) lists)
among_small events [] h room = tt
among_small events (list ∷ lists) h room = (taken_below events (2 ^ 32 - 1) list (below list h.0), among_small events lists h.1 room) where
  below : (l : List Entry) → AreAmong events l → Each (λ e. e.position < 2 ^ 32 - 1) l
  below [] k = tt
  below (e ∷ l) k = (omega (arith, k.0, room), below l k.1)

-- the closed matches of a tick have their events among those so far
closed_among : (plan : Plan) (events : List Event) (last : Option Moment) (now : Moment) → Each (AreAmong events) (closed_at plan events last now)
closed_among plan events last now = Each-from_contains (AreAmong events) (closed_at plan events last now) (λ list q. among list q) where
  among : (list : List Entry) → Contains (closed_at plan events last now) list → AreAmong events list
  among list q =
      let passed = (Contains-from_filter (closes_now plan events last now) (lists_within plan (length events)) list q).1 in
      may_grow-among plan events list (is_partial-may_grow plan events list
      (and_parts (is_due (limit_of plan (taken_of events list)) last now) (is_partial plan events list)
      (and_parts (is_due (limit_of plan (taken_of events list)) last now && is_partial plan events list)
      (is_open_for plan events list (end_stage plan)) passed).0).1)

-- ---- kept matches kill starts

module _ (plan : Plan) (events : List Event) (items : List Item) (last : Option Moment) (content : Content) (buffer : BufferContent) (saved : Kept)
    (parts : PartsAre plan events items last content buffer saved) where
  abbrev alive : ℕ → Bool
  alive = is_start_alive plan.skip items

  abbrev scope : Scope
  scope = open_scope plan events items last

  -- After more items, timeouts and then matches, the parts stand without the starts that these matches kill.
  pub parts_killed : (timeouts found : List (List Taken)) → AreBelow (length events) (map Match found) → (after : Content) (after_buffer : BufferContent)
      (left : Kept)
      → RunsStand plan events (without_starts (open_scope plan events items last) (λ p. list_any (item_kills_start plan.skip p) (map Match found)))
      after after_buffer
      → left ≡ record saved { starts = filter (λ s. not (list_any (item_kills_start plan.skip s.position) (map Match found))) saved.starts }
      → PartsAre plan events (items ++ (map Timeout timeouts ++ map Match found)) last after after_buffer left
  parts_killed timeouts found below after after_buffer left stands is =
      let matches = map Match found in
      let outs = map Timeout timeouts in
      let killed : ℕ → Bool = λ p. list_any (item_kills_start plan.skip p) matches in
      let left_now : ℕ → Bool = λ p. is_time_left (limit_from plan (event_at events p)) last in
      let alive_after : (p : ℕ) → is_start_alive plan.skip (items ++ (outs ++ matches)) p ≡ (alive p && not (killed p)) =
      λ p. ap (λ k. is_start_alive plan.skip k p) (sym (append_assoc items outs matches)) ∙ is_start_alive-append plan.skip (items ++ outs) matches p
      ∙ ap (λ b. b && not (killed p)) (is_start_alive-timeouts plan.skip items (λ list. list) timeouts p) in
      let starts : (p : ℕ) → ((alive p && left_now p) && not (killed p)) ≡ open_starts plan events (items ++ (outs ++ matches)) last p =
      λ p. kill_order (alive p) (left_now p) (killed p) ∙ ap (λ b. b && left_now p) (sym (alive_after p)) in
      record {
        runs = RunsStand-is plan events (without_starts (open_scope plan events items last) killed) (open_scope plan events (items ++ (outs ++ matches)) last)
            after after_buffer (λ i. record { starts = λ p. starts p i; lasts = open_lasts plan events last }) stands;
        limits = is
            ∙ (λ i. record (parts.limits i) { starts = filter (λ s. not (killed s.position)) (parts.limits i).starts })
            ∙ (λ i. record (saved_for plan events (open_scope plan events items last)) {
              starts = (places_among-killed plan.within events alive left_now killed
                  ∙ ap (places_among plan.within events) (λ j p. (ap (λ b. b && left_now p) (sym (alive_after p))) j)) i;
            });
        below = Each-append (IsBelow (length events)) items (outs ++ matches) parts.below
            (Each-append (IsBelow (length events)) outs matches (AreBelow-timeouts (length events) (λ list. list) timeouts) below);
        first = parts.first;
      }

  -- ---- what a moment ends

  module _ (now : Moment) where
    dues_same : dues_of saved now ≡ dues_of (saved_for plan events (open_scope plan events items last)) now
    dues_same = ap (λ k. dues_of k now) parts.limits

    -- what is left once all is over that is due
    pub parts_due : IsLater last now → (after : Content) (after_buffer : BufferContent) (left : Kept)
        → RunsStand plan events (scope_after (open_scope plan events items last) (dues_of saved now)) after after_buffer
        → left ≡ left_of saved now → PartsAre plan events items (Some now) after after_buffer left
    parts_due later after after_buffer left stands is = record {
      runs = RunsStand-agree plan events (scope_after (open_scope plan events items last)
          (dues_of (saved_for plan events (open_scope plan events items last)) now))
          (open_scope plan events items (Some now)) after after_buffer
          (after_open_start plan events alive last now parts.first later) (after_open_last plan events alive last now parts.first later)
          (RunsStand-is plan events (scope_after (open_scope plan events items last) (dues_of saved now)) _ after after_buffer
          (ap (scope_after (open_scope plan events items last)) dues_same) stands);
      limits = is ∙ ap (λ k. left_of k now) parts.limits ∙ left_are plan events alive last now parts.first later;
      below = parts.below;
      first = λ none. let no : Some now ≡ None = none in absurd cc;
    }

    -- the lists that were told, in order
    pub due_timeouts : (told made : List (List Taken))
        → told ≡ map (taken_of events) (told_along (waiting_at plan events) (open_scope plan events items last) (dues_of saved now))
        → IsPermutation told made → IsSortedBy comes_earlier made
        → made ≡ map (taken_of events) (filter (begins_in (is_start_alive plan.skip items)) (timeouts_at plan events last now))
    due_timeouts told made is moved sorted =
        timeouts_told plan events alive last now parts.first made sorted
        (subst (λ xs. IsPermutation xs made)
        (is ∙ ap (λ dues. map (taken_of events) (told_along (waiting_at plan events) (open_scope plan events items last) dues)) dues_same) moved)

    pub due_closed : (told made : List (List Taken))
        → told ≡ map (taken_of events) (told_along (closing_at plan events) (open_scope plan events items last) (dues_of saved now))
        → IsPermutation told made → IsSortedBy comes_earlier made
        → made ≡ map (taken_of events) (filter (begins_in (is_start_alive plan.skip items)) (closed_at plan events last now))
    due_closed told made is moved sorted =
        closed_told plan events alive last now parts.first made sorted
        (subst (λ xs. IsPermutation xs made)
        (is ∙ ap (λ dues. map (taken_of events) (told_along (closing_at plan events) (open_scope plan events items last) dues)) dues_same) moved)

    module _ (closed : List (List Taken))
        (closed_is : closed ≡ map (taken_of events) (filter (begins_in (is_start_alive plan.skip items)) (closed_at plan events last now))) where
      among : Each (AreAmong events) (filter (begins_in (is_start_alive plan.skip items)) (closed_at plan events last now))
      among = Each-filter (AreAmong events) (begins_in alive) (closed_at plan events last now) (closed_among plan events last now)

      pub closed_small : length events < 2 ^ 32 → AreSmall closed
      closed_small room =
          subst AreSmall (sym closed_is) (among_small events (filter (begins_in alive) (closed_at plan events last now)) among room)

      -- the kept ones are below the next position
      pub closed_below : (found : List (List Taken)) → map Match found ≡ kept plan.skip (map Match closed) → AreBelow (length events) (map Match found)
      unfolding kept
      closed_below found is =
          subst (Each (IsBelow (length events))) (sym is)
          (kept_after-each (IsBelow (length events)) plan.skip [] (map Match closed)
          (subst (λ ls. Each (IsBelow (length events)) (map Match ls)) (sym closed_is)
          (among_below events (filter (begins_in alive) (closed_at plan events last now)) among)))

      -- the kept items of the moment
      pub kept_due : (timeouts found : List (List Taken))
          → timeouts ≡ map (taken_of events) (filter (begins_in (is_start_alive plan.skip items)) (timeouts_at plan events last now))
          → map Match found ≡ kept plan.skip (map Match closed)
          → map Timeout timeouts ++ map Match found ≡ kept_after plan.skip items (due_items plan events last now)
      unfolding kept
      kept_due timeouts found timeouts_are is =
          let outs = filter (begins_in alive) (timeouts_at plan events last now) in
          let ends = filter (begins_in alive) (closed_at plan events last now) in
          (λ i. (ap (map Timeout) timeouts_are ∙ map-map Timeout (taken_of events) outs) i
          ++ (is ∙ ap (kept_after plan.skip []) (ap (map Match) closed_is ∙ map-map Match (taken_of events) ends)
          ∙ sym (kept_fresh plan.skip items events ends (filter-passes (begins_in alive) (closed_at plan events last now)))) i)
          ∙ sym (kept_mark plan events last items now)
