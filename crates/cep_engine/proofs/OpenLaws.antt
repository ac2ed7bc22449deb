-- The open starts and last positions after one more event, and without the starts that are killed.
use Rattle.std.proofs.Common.{◌≡◌, refl, sym, ◌∙◌, ap, ℕ, zero, suc, ◌+◌, ◌<◌, arith, Bool, true, false, not, ◌&&◌, cond, List, [], ◌∷◌, ◌++◌, length, length-append, map}
use Rattle.std.specs.Prelude.{ℤ, pos, ◌+ℤ◌, int_le, filter, Option, Some, None, IfSome, option_map}
use Rattle.std.specs.List.{last_or, range_with_len, AllByRecursion as Each}
use Rattle.std.proofs.lemmas.Int.{ints}
use Rattle.std.proofs.lemmas.List.{get_or_push}
use Rattle.std.proofs.lemmas.List.Elements.{filter-append}
use Rattle.cep_event.specs.declared.event.Event.{Event}
use Rattle.cep_event.specs.declared.record.Moment.{Moment}
use Rattle.cep_event.specs.declared.record.Moment.TheVariants.{At}
use Rattle.cep_plan.specs.declared.plan.Plan.{Plan}
use Rattle.cep_plan.specs.declared.item.Item.{Item}
use Rattle.cep_plan.specs.Entry.{event_at, no_event}
use Rattle.cep_plan.specs.Keys.{kept_of, kept_at}
use Rattle.cep_plan.specs.Limit.{limit_from, limit_behind, is_time_left}
use Rattle.cep_plan.specs.Tick.{Tick, event_tick, mark_tick, time_of, events_of, last_time}
use Rattle.cep_plan.specs.History.{history, items_at}
use Rattle.cep_plan.specs.Skipping.{kept, kept_after}
use Rattle.cep_plan.proofs.HistoryLaws.{history-push, kept_after-append}
use Rattle.cep_plan.proofs.LocalLaws.{event_at-append}
use Rattle.live_laws.specs.Starts.{is_start_alive, open_starts, open_lasts, open_scope}
use Rattle.live_laws.proofs.LastLaws.{last_or-push}
use Rattle.live_laws.proofs.MemberLaws.{filter-filter, filter-map, filter-same, Each-filter}
use Rattle.shared_buffer.specs.Content.{Content as BufferContent}
use Rattle.run_step.specs.Content.{Content}
use Rattle.time_limit.specs.declared.queue.Place.{Place}
use Rattle.time_limit.specs.Limits.{limited}
use Rattle.due_laws.specs.Due.{place_at, places_among, saved_for}
use Rattle.cep_engine.specs.Running.{RunsStand}
use Rattle.cep_engine.specs.State.{HasRoom}
use Rattle.cep_engine.proofs.LoopLaws.{map-joined}
use Rattle.cep_engine.proofs.RunningLaws.{RunsStand-agree}

-- ---- ticks

last_some : {X : Type 0} (x : X) (xs : List X) → last_or (Some x) xs ≡ None → ⊥
last_some x [] h = let no : Some x ≡ None = h in cc
last_some x (y ∷ xs) h = last_some y xs h

no_time : (o : Option Tick) → option_map time_of o ≡ None → o ≡ None
no_time None h = refl
no_time (Some t) h = let no : Some (time_of t) ≡ None = h in absurd cc

-- before the first tick there is no event
pub no_events : (ticks : List Tick) → last_time ticks ≡ None → events_of ticks ≡ []
no_events [] h = refl
no_events (t ∷ ticks) h = absurd (last_some t ticks (no_time (last_or (Some t) ticks) h))

pub events_of-event : (ticks : List Tick) (event : Event) → events_of (ticks ++ event_tick event ∷ []) ≡ events_of ticks ++ event ∷ []
events_of-event [] event = refl
events_of-event (event_tick e ∷ ticks) event = λ i. e ∷ events_of-event ticks event i
events_of-event (mark_tick m ∷ ticks) event = events_of-event ticks event

pub events_of-mark : (ticks : List Tick) (moment : Moment) → events_of (ticks ++ mark_tick moment ∷ []) ≡ events_of ticks
events_of-mark [] moment = refl
events_of-mark (event_tick e ∷ ticks) moment = λ i. e ∷ events_of-mark ticks moment i
events_of-mark (mark_tick m ∷ ticks) moment = events_of-mark ticks moment

pub last_time-push : (ticks : List Tick) (tick : Tick) → last_time (ticks ++ tick ∷ []) ≡ Some (time_of tick)
last_time-push ticks tick = ap (option_map time_of) (last_or-push None ticks tick)

-- the kept items after one more tick
pub kept_of-push : (plan : Plan) (ticks : List Tick) (tick : Tick) → kept_of plan (ticks ++ tick ∷ []) ≡ kept_of plan ticks ++ kept_at plan ticks tick
unfolding kept
kept_of-push plan ticks tick = ap (kept_after plan.skip []) (history-push plan ticks tick)
    ∙ kept_after-append plan.skip [] (history plan ticks) (items_at plan ticks tick)

-- ---- lists of positions

pub filter-passes : {X : Type 0} (test : X → Bool) (xs : List X) → Each (λ x. test x ≡ true) (filter test xs)
filter-passes test [] = tt
filter-passes test (x ∷ xs) = chosen (test x) refl (filter-passes test xs) where
  chosen : (b : Bool) → test x ≡ b → Each (λ y. test y ≡ true) (filter test xs) → Each (λ y. test y ≡ true) (cond b (x ∷ filter test xs) (filter test xs))
  chosen true is rest = (is, rest)
  chosen false is rest = rest

pub limited-each : (P : Place → Type 0) (limit : Option ℕ) (places : List Place) → Each P places → Each P (limited limit places)
limited-each P None places h = tt
limited-each P (Some l) places h = h

range_below : (low n : ℕ) → Each (λ p. p < low + n) (range_with_len low n)
range_below low zero = tt
range_below low (suc n) = (omega arith, moved (range_with_len (low + 1) n) (range_below (low + 1) n)) where
  moved : (xs : List ℕ) → Each (λ p. p < low + 1 + n) xs → Each (λ p. p < low + suc n) xs
  moved [] h = tt
  moved (x ∷ xs) h = (omega (arith, h.0), moved xs h.1)

pub positions_below : (n : ℕ) → Each (λ p. p < n) (range_with_len 0 n)
positions_below n = moved (range_with_len 0 n) (range_below 0 n) where
  moved : (xs : List ℕ) → Each (λ p. p < 0 + n) xs → Each (λ p. p < n) xs
  moved [] h = tt
  moved (x ∷ xs) h = (omega (arith, h.0), moved xs h.1)

range_push : (low n : ℕ) → range_with_len low (n + 1) ≡ range_with_len low n ++ (low + n) ∷ []
range_push low zero = let same : low ≡ low + 0 = omega arith in λ i. same i ∷ []
range_push low (suc n) =
    let same : low + 1 + n ≡ low + suc n = omega arith in
    let longer : suc n + 1 ≡ suc (n + 1) = omega arith in
    ap (range_with_len low) longer ∙ (λ i. low ∷ (range_push (low + 1) n ∙ ap (λ p. range_with_len (low + 1) n ++ p ∷ []) same) i)

positions_push : (n : ℕ) → range_with_len 0 (n + 1) ≡ range_with_len 0 n ++ n ∷ []
positions_push n = let same : 0 + n ≡ n = omega arith in range_push 0 n ∙ ap (λ p. range_with_len 0 n ++ p ∷ []) same

map-same : {X Y : Type 0} (f g : X → Y) (xs : List X) → Each (λ x. f x ≡ g x) xs → map f xs ≡ map g xs
map-same f g [] h = refl
map-same f g (x ∷ xs) h = λ i. h.0 i ∷ map-same f g xs h.1 i

Each-into : {X : Type 0} (P Q : X → Type 0) (xs : List X) → ((x : X) → P x → Q x) → Each P xs → Each Q xs
Each-into P Q [] f h = tt
Each-into P Q (x ∷ xs) f h = (f x h.0, Each-into P Q xs f h.1)

-- ---- one more event

not_yet : (a : ℤ) (w : ℕ) → 0 < w → int_le (a +ℤ pos w) a ≡ false
not_yet a w h = grind (arith, ints)

new_open : (limit : Option ℕ) (ts : ℤ) → IfSome limit (λ l. 0 < l) → is_time_left (option_map (λ l. ts +ℤ pos l) limit) (Some (At ts)) ≡ true
new_open None ts h = refl
new_open (Some l) ts h = ap not (not_yet ts l h)

at_new : (events : List Event) (event : Event) → event_at (events ++ event ∷ []) (length events) ≡ event
at_new events event = get_or_push events event no_event (length events) refl

-- the positions that are open, with the new one
pub places_among-event : (limit : Option ℕ) (events : List Event) (event : Event) (old new : ℕ → Bool) → ((p : ℕ) → p < length events → old p ≡ new p)
    → new (length events) ≡ true
    → places_among limit events old ++ limited limit (record { position = length events; ts = event.ts } ∷ [])
    ≡ places_among limit (events ++ event ∷ []) new
places_among-event None events event old new agree is_new = refl
places_among-event (Some l) events event old new agree is_new =
    (λ i. (ap (map (place_at events)) same_places ∙ same_at) i ++ new_place i ∷ [])
    ∙ sym (ap (map (place_at (events ++ event ∷ []))) one_more
    ∙ map-joined (place_at (events ++ event ∷ [])) (filter new (range_with_len 0 (length events))) (length events ∷ [])) where
      same_places : filter old (range_with_len 0 (length events)) ≡ filter new (range_with_len 0 (length events))
      same_places =
          filter-same old new (range_with_len 0 (length events))
          (Each-into (λ p. p < length events) (λ p. old p ≡ new p) (range_with_len 0 (length events)) agree (positions_below (length events)))

      same_at :
          map (place_at events) (filter new (range_with_len 0 (length events)))
          ≡ map (place_at (events ++ event ∷ [])) (filter new (range_with_len 0 (length events)))
      same_at =
          map-same (place_at events) (place_at (events ++ event ∷ [])) (filter new (range_with_len 0 (length events)))
          (Each-into (λ p. p < length events) (λ p. place_at events p ≡ place_at (events ++ event ∷ []) p) (filter new (range_with_len 0 (length events)))
          (λ p lt. λ i. record { position = p; ts = (sym (event_at-append events (event ∷ []) p lt) i).ts })
          (Each-filter (λ (p : ℕ). p < length events) new (range_with_len 0 (length events)) (positions_below (length events))))

      new_place : record { position = length events; ts = event.ts } ≡ place_at (events ++ event ∷ []) (length events)
      new_place = λ i. record { position = length events; ts = (sym (at_new events event) i).ts }

      one_more : filter new (range_with_len 0 (length (events ++ event ∷ []))) ≡ filter new (range_with_len 0 (length events)) ++ length events ∷ []
      one_more =
          ap (λ n. filter new (range_with_len 0 n)) (length-append events (event ∷ [])) ∙ ap (filter new) (positions_push (length events))
          ∙ filter-append new (range_with_len 0 (length events)) (length events ∷ [])
          ∙ ap (λ b. filter new (range_with_len 0 (length events)) ++ cond b (length events ∷ []) []) is_new

module _ (plan : Plan) (events : List Event) (items : List Item) (event : Event) where
  abbrev now : Moment
  now = At event.ts

  -- the start at the new event is open, and so is the last position
  pub open_new : is_start_alive plan.skip items (length events) ≡ true → HasRoom plan
      → open_starts plan (events ++ event ∷ []) items (Some (At event.ts)) (length events) ≡ true
  open_new lives room = λ i. lives i
      && (ap (λ e. is_time_left (limit_from plan e) (Some now)) (at_new events event) ∙ new_open plan.within event.ts room.0) i

  pub open_new_last : HasRoom plan → open_lasts plan (events ++ event ∷ []) (Some (At event.ts)) (length events) ≡ true
  open_new_last room = ap (λ e. is_time_left (limit_behind plan e) (Some now)) (at_new events event) ∙ new_open plan.within_gap event.ts room.1

  -- the others are as before
  pub open_old : (p : ℕ) → p < length events
      → open_starts plan events items (Some (At event.ts)) p ≡ open_starts plan (events ++ event ∷ []) items (Some (At event.ts)) p
  open_old p lt =
      ap (λ e. is_start_alive plan.skip items p && is_time_left (limit_from plan e) (Some now)) (sym (event_at-append events (event ∷ []) p lt))

  pub open_old_last : (p : ℕ) → p < length events
      → open_lasts plan events (Some (At event.ts)) p ≡ open_lasts plan (events ++ event ∷ []) (Some (At event.ts)) p
  open_old_last p lt = ap (λ e. is_time_left (limit_behind plan e) (Some now)) (sym (event_at-append events (event ∷ []) p lt))

  pub RunsStand-event : (content : Content) (buffer : BufferContent)
      → RunsStand plan events (open_scope plan events items (Some (At event.ts))) content buffer
      → RunsStand plan events (open_scope plan (events ++ event ∷ []) items (Some (At event.ts))) content buffer
  RunsStand-event content buffer stands =
      RunsStand-agree plan events (open_scope plan events items (Some now)) (open_scope plan (events ++ event ∷ []) items (Some now)) content buffer
      open_old open_old_last stands

  -- what is kept of them
  pub saved_for-event : is_start_alive plan.skip items (length events) ≡ true → HasRoom plan
      → record {
        within = plan.within;
        gap = plan.within_gap;
        starts = places_among plan.within events (open_scope plan events items (Some (At event.ts))).starts
            ++ limited plan.within (record { position = length events; ts = event.ts } ∷ []);
        lasts = places_among plan.within_gap events (open_scope plan events items (Some (At event.ts))).lasts
            ++ limited plan.within_gap (record { position = length events; ts = event.ts } ∷ []);
      } ≡ saved_for plan (events ++ event ∷ []) (open_scope plan (events ++ event ∷ []) items (Some (At event.ts)))
  saved_for-event lives room = λ i. record {
    within = plan.within;
    gap = plan.within_gap;
    starts = places_among-event plan.within events event (open_starts plan events items (Some now))
        (open_starts plan (events ++ event ∷ []) items (Some now)) open_old (open_new lives room) i;
    lasts = places_among-event plan.within_gap events event (open_lasts plan events (Some now))
        (open_lasts plan (events ++ event ∷ []) (Some now)) open_old_last (open_new_last room) i;
  }

-- ---- starts that are killed

kill_bits : (k a l : Bool) → (not k && (a && l)) ≡ ((a && not k) && l)
kill_bits true true l = refl
kill_bits true false l = refl
kill_bits false true l = refl
kill_bits false false l = refl

pub kill_order : (a l k : Bool) → ((a && l) && not k) ≡ ((a && not k) && l)
kill_order false l k = refl
kill_order true true true = refl
kill_order true true false = refl
kill_order true false true = refl
kill_order true false false = refl

pub places_among-killed : (limit : Option ℕ) (events : List Event) (alive left killed : ℕ → Bool)
    → filter (λ s. not (killed s.position)) (places_among limit events (λ p. alive p && left p))
    ≡ places_among limit events (λ p. (alive p && not (killed p)) && left p)
places_among-killed None events alive left killed = refl
places_among-killed (Some l) events alive left killed =
    filter-map (λ (s : Place). not (killed s.position)) (place_at events) (filter (λ p. alive p && left p) (range_with_len 0 (length events)))
    ∙ ap (map (place_at events)) (filter-filter (λ p. not (killed p)) (λ p. alive p && left p) (range_with_len 0 (length events))
    ∙ ap (λ t. filter t (range_with_len 0 (length events))) (λ i p. kill_bits (killed p) (alive p) (left p) i))
