-- Pass 3. Two lists of ticks that are alike, but for events that only the one has at its front, stay alike with one more tick.
use Rattle.std.proofs.Common.{◌≡◌, sym, ◌∙◌, ap, subst, append_assoc, ℕ, List, [], ◌∷◌, ◌++◌, map, length, ◌⊎◌, inl}
use Rattle.std.specs.Prelude.{filter}
use Rattle.std.specs.List.{AllByRecursion as Each}
use Rattle.std.proofs.lemmas.List.{append-nil, map-append}
use Rattle.cep_event.specs.declared.event.Event.{Event}
use Rattle.cep_plan.specs.declared.plan.Plan.{Plan}
use Rattle.cep_plan.specs.declared.item.Item.{Item}
use Rattle.cep_plan.specs.Tick.{Tick, event_tick, mark_tick, events_of, last_time}
use Rattle.cep_plan.specs.History.{items_at, items_from}
use Rattle.cep_plan.specs.Skipping.{kept_after}
use Rattle.cep_plan.specs.Keys.{kept_of, kept_at}
use Rattle.recent_laws.specs.Moved.{moved_item}
use Rattle.recent_laws.proofs.BehindLaws.{filter-append}
use Rattle.recent_laws.proofs.FarLaws.{is_far, items_from-far}
use Rattle.recent_laws.proofs.KeptLaws.{IsHarmless, kept_after-far, kept_after-moved}
use Rattle.recent_laws.proofs.NextLaws.{events_of-event, events_of-mark, last_time-push, kept_of-push}

-- The old ticks have some early events, and then those of the young ones. Both have the same time, where there is an event behind the early ones. The
-- kept items that start behind the early events are the young ones', moved.
pub record IsAlike (plan : Plan) (old young : List Tick) (by : ℕ) : Type 0 where
  pub early : List Event
  pub later : List Event
  pub old_events : events_of old ≡ early ++ later
  pub young_events : events_of young ≡ later
  pub count : length early ≡ by
  pub agree : (last_time old ≡ last_time young) ⊎ (later ≡ [])
  pub items : filter (is_far by) (kept_of plan old) ≡ map (moved_item by) (kept_of plan young)

module _ (plan : Plan) (old young : List Tick) (by : ℕ) (a : IsAlike plan old young by) where
  items_at-far : (tick : Tick) → filter (is_far by) (items_at plan old tick) ≡ map (moved_item by) (items_at plan young tick)
  unfolding items_at
  items_at-far tick =
      (λ i. filter (is_far (sym a.count i)) (items_from plan (a.old_events i) (last_time old) tick))
      ∙ items_from-far plan a.early a.later (last_time old) (last_time young) a.agree tick
      ∙ (λ i. map (moved_item (a.count i)) (items_from plan (sym a.young_events i) (last_time young) tick))

  pub kept_at-far : (tick : Tick) → Each (IsHarmless by plan.skip) (kept_of plan old) → Each (IsHarmless by plan.skip) (kept_at plan old tick)
      → filter (is_far by) (kept_at plan old tick) ≡ map (moved_item by) (kept_at plan young tick)
  kept_at-far tick h k =
      kept_after-far by plan.skip (kept_of plan old) (items_at plan old tick) h k
      ∙ (λ i. kept_after plan.skip (a.items i) (items_at-far tick i))
      ∙ kept_after-moved by plan.skip (kept_of plan young) (items_at plan young tick)

  items-push : (tick : Tick) → Each (IsHarmless by plan.skip) (kept_of plan old) → Each (IsHarmless by plan.skip) (kept_at plan old tick)
      → filter (is_far by) (kept_of plan (old ++ tick ∷ [])) ≡ map (moved_item by) (kept_of plan (young ++ tick ∷ []))
  items-push tick h k =
      ap (filter (is_far by)) (kept_of-push plan old tick)
      ∙ filter-append (is_far by) (kept_of plan old) (kept_at plan old tick)
      ∙ (λ i. a.items i ++ kept_at-far tick h k i)
      ∙ sym (ap (map (moved_item by)) (kept_of-push plan young tick) ∙ map-append (moved_item by) (kept_of plan young) (kept_at plan young tick))

  -- one more tick
  pub IsAlike-push : (tick : Tick) → Each (IsHarmless by plan.skip) (kept_of plan old) → Each (IsHarmless by plan.skip) (kept_at plan old tick)
      → IsAlike plan (old ++ tick ∷ []) (young ++ tick ∷ []) by
  IsAlike-push (event_tick event) h k = record {
    early = a.early;
    later = a.later ++ event ∷ [];
    old_events = events_of-event old event ∙ ap (λ l. l ++ event ∷ []) a.old_events ∙ append_assoc a.early a.later (event ∷ []);
    young_events = events_of-event young event ∙ ap (λ l. l ++ event ∷ []) a.young_events;
    count = a.count;
    agree = inl (last_time-push old (event_tick event) ∙ sym (last_time-push young (event_tick event)));
    items = items-push (event_tick event) h k;
  }
  IsAlike-push (mark_tick moment) h k = record {
    early = a.early;
    later = a.later;
    old_events = events_of-mark old moment ∙ a.old_events;
    young_events = events_of-mark young moment ∙ a.young_events;
    count = a.count;
    agree = inl (last_time-push old (mark_tick moment) ∙ sym (last_time-push young (mark_tick moment)));
    items = items-push (mark_tick moment) h k;
  }

-- ---- several more ticks

Each-left : {X : Type 0} (P : X → Type 0) (xs ys : List X) → Each P (xs ++ ys) → Each P xs
Each-left P [] ys h = tt
Each-left P (x ∷ xs) ys h = (h.0, Each-left P xs ys h.1)

Each-right : {X : Type 0} (P : X → Type 0) (xs ys : List X) → Each P (xs ++ ys) → Each P ys
Each-right P [] ys h = h
Each-right P (x ∷ xs) ys h = Each-right P xs ys h.1

-- what is kept of ticks is a front of what is kept of more of them
kept_of-front : (P : Item → Type 0) (plan : Plan) (ticks rest : List Tick) → Each P (kept_of plan (ticks ++ rest)) → Each P (kept_of plan ticks)
kept_of-front P plan ticks [] h = subst (λ l. Each P (kept_of plan l)) (append-nil ticks) h
kept_of-front P plan ticks (tick ∷ rest) h =
    let next = kept_of-front P plan (ticks ++ tick ∷ []) rest (subst (λ l. Each P (kept_of plan l)) (sym (append_assoc ticks (tick ∷ []) rest)) h) in
    Each-left P (kept_of plan ticks) (kept_at plan ticks tick) (subst (Each P) (kept_of-push plan ticks tick) next)

pub IsAlike-along : (plan : Plan) (old young rest : List Tick) (by : ℕ) → IsAlike plan old young by
    → Each (IsHarmless by plan.skip) (kept_of plan (old ++ rest)) → IsAlike plan (old ++ rest) (young ++ rest) by
IsAlike-along plan old young [] by a h = subst (λ l. IsAlike plan l (young ++ []) by) (sym (append-nil old))
    (subst (λ l. IsAlike plan old l by) (sym (append-nil young)) a)
IsAlike-along plan old young (tick ∷ rest) by a h =
    let whole = subst (λ l. Each (IsHarmless by plan.skip) (kept_of plan l)) (sym (append_assoc old (tick ∷ []) rest)) h in
    let front = subst (Each (IsHarmless by plan.skip)) (kept_of-push plan old tick)
    (kept_of-front (IsHarmless by plan.skip) plan (old ++ tick ∷ []) rest whole) in
    let next = IsAlike-push plan old young by a tick (Each-left (IsHarmless by plan.skip) (kept_of plan old) (kept_at plan old tick) front)
    (Each-right (IsHarmless by plan.skip) (kept_of plan old) (kept_at plan old tick) front) in
    subst (λ l. IsAlike plan l (young ++ tick ∷ rest) by) (append_assoc old (tick ∷ []) rest)
    (subst (λ l. IsAlike plan ((old ++ tick ∷ []) ++ rest) l by) (append_assoc young (tick ∷ []) rest)
    (IsAlike-along plan (old ++ tick ∷ []) (young ++ tick ∷ []) rest by next whole))
