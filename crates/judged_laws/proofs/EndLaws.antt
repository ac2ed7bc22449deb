-- Some tick gives each match, where a list that has just ended isn't over its limit: the end reaches each limit.
use Rattle.std.proofs.Common.{◌≡◌, refl, sym, ◌∙◌, ap, ℕ, ℤ, pos, ◌+ℤ◌, ◌<◌, ◌≤◌, arith, int_le, Bool, cond, true, false, not, ◌&&◌, ◌⊎◌, inl, inr, List, [], ◌∷◌, ◌++◌, length, length-append, append_assoc, nat_lt, nat_eq, zero, suc}
use Rattle.std.specs.Prelude.{◌||◌, Option, Some, None, option_map}
use Rattle.std.specs.List.{last_or, list_all}
use Rattle.std.specs.Option.{option_map_or}
use Rattle.std.proofs.Math.Nat.{eq-or-lt_of_le}
use Rattle.std.proofs.lemmas.Bool.{and_parts, and_from, not-true, eq-eqb, lt-ltb, ltb-true}
use Rattle.std.proofs.lemmas.Int.{ints}
use Rattle.std.proofs.lemmas.List.{append-nil}
use Rattle.std.proofs.lemmas.List.Elements.{filter_map-append}
use Rattle.cep_event.specs.declared.event.Event.{Event}
use Rattle.cep_event.specs.declared.record.Moment.{Moment}
use Rattle.cep_event.specs.declared.record.Moment.TheVariants.{At, End}
use Rattle.cep_event.specs.Moment.{has_reached}
use Rattle.cep_plan.specs.declared.plan.Plan.{Plan}
use Rattle.cep_plan.specs.declared.item.Taken.{Taken}
use Rattle.cep_plan.specs.Entry.{Entry, event_at, taken_at, taken_of, last_entry, stages_of}
use Rattle.cep_plan.specs.Follow.{end_stage, is_full, may_follow}
use Rattle.cep_plan.specs.Gap.{gap_holds}
use Rattle.cep_plan.specs.Limit.{limit_from, limit_behind, last_behind, limit_of, is_below_limit, are_within, are_in_time, is_due}
use Rattle.cep_plan.specs.Partial.{extends_all, may_grow, is_partial, is_match, closes, count_before}
use Rattle.cep_plan.specs.Tick.{Tick, event_tick, mark_tick, event_in, time_of, events_of, last_time}
use Rattle.live_laws.proofs.LesserLaws.{below_lesser}
use Rattle.live_laws.proofs.ScopeLaws.{last_behind-event}
use Rattle.live_laws.proofs.PartialLaws.{is_partial-rising, is_partial-may_grow}
use Rattle.recent_laws.proofs.GivenLaws.{among_of}
use Rattle.recent_laws.proofs.NextLaws.{events_of-event, events_of-mark, last_time-push}
use Rattle.judged_laws.specs.Found.{is_end_of, ends_below, is_given, IsGivenIn, GivenByEnd}
use Rattle.judged_laws.proofs.ListLaws.{below_all}

-- ---- the last event is below the limit

last_too : (test : Taken → Bool) (first : Taken) (later : List Taken) → list_all test (first ∷ later) ≡ true → test (last_behind first later) ≡ true
last_too test first [] h = (and_parts (test first) true h).0
last_too test first (next ∷ later) h = last_too test next later (and_parts (test first) (list_all test (next ∷ later)) h).1

above_itself : (t : ℤ) (gap : ℕ) → (gap ≡ 0 → ⊥) → not (int_le (t +ℤ pos gap) t) ≡ true
above_itself t zero h = absurd (h refl)
above_itself t (suc gap) h = grind (arith, ints)

below_itself : (t : ℤ) (gap : Option ℕ) → (gap ≡ Some 0 → ⊥) → is_below_limit (option_map (λ long. t +ℤ pos long) gap) t ≡ true
below_itself t None h = refl
below_itself t (Some gap) h = above_itself t gap (λ is. h (ap Some is))

last_place : (events : List Event) (first last : Entry) (later : List Entry) → last_or (Some first) later ≡ Some last
    → (last_behind (taken_at events first) (taken_of events later)).position ≡ last.position
last_place events first last [] h = let same : first ≡ last = cc in ap (λ (e : Entry). e.position) same
last_place events first last (next ∷ later) h = last_place events next last later h

module _ (plan : Plan) (events : List Event) (gap : plan.within_gap ≡ Some 0 → ⊥) where
  last_in_time : (list : List Entry) (last : Entry) → last_entry list ≡ Some last → is_partial plan events list ≡ true
      → is_below_limit (limit_of plan (taken_of events list)) (event_at events last.position).ts ≡ true
  unfolding may_grow
  last_in_time [] last is partial = let no : None ≡ Some last = is in absurd cc
  last_in_time (first ∷ later) last is partial =
      let taken = taken_of events (first ∷ later) in
      let end = last_behind (taken_at events first) (taken_of events later) in
      let in_time = (and_parts (extends_all plan events [] (first ∷ later)) (are_in_time plan taken)
      (is_partial-may_grow plan events (first ∷ later) partial)).1 in
      let within = last_too (λ t. is_below_limit (limit_from plan (event_at events first.position)) t.event.ts) (taken_at events first) (taken_of events later)
      (and_parts (are_within plan taken) _ in_time).0 in
      let event : end.event ≡ event_at events last.position =
      last_behind-event events first later ∙ ap (event_at events) (last_place events first last later is) in
      ap (λ e. is_below_limit (limit_of plan taken) e.ts) (sym event)
      ∙ below_lesser (limit_from plan (event_at events first.position)) (limit_behind plan end.event) end.event.ts
      ∙ and_from _ _ within (below_itself end.event.ts plan.within_gap gap)

-- ---- one tick after another

more_below : (low high : ℕ) (list : List Entry) → low ≤ high → ends_below low list ≡ true → ends_below high list ≡ true
more_below low high list le h = after (last_entry list) h where
  after : (last : Option Entry) → option_map_or (λ l. nat_lt l.position low) last false ≡ true → option_map_or (λ l. nat_lt l.position high) last false ≡ true
  after None h = h
  after (Some last) h = let lt : last.position < low = ltb-true last.position low h in lt-ltb last.position high (omega (arith, lt, le))

longer : (before : List Tick) (tick : Tick) → length (events_of before) ≤ length (events_of (before ++ tick ∷ []))
longer before (event_tick event) =
    let whole = ap length (events_of-event before event) in let one = length-append (events_of before) (event ∷ []) in omega (arith, whole, one)
longer before (mark_tick moment) = let whole = ap length (events_of-mark before moment) in omega (arith, whole)

module _ (plan : Plan) (events : List Event) (list : List Entry) where
  -- from a tick on at which the limit isn't reached, and before which the list has ended
  to_limit : (limit : ℤ) → limit_of plan (taken_of events list) ≡ Some limit → is_full plan (stages_of list) ≡ false → (before rest : List Tick) (now : Moment)
      → last_time before ≡ Some now → has_reached now limit ≡ false → ends_below (length (events_of before)) list ≡ true
      → IsGivenIn plan events list before (rest ++ mark_tick End ∷ [])
  to_limit limit is full before [] now last unreached below = inl
      (ap (λ b. cond b (is_end_of list (length (events_of before)) (mark_tick End))
      (ends_below (length (events_of before)) list && is_due (limit_of plan (taken_of events list)) (last_time before) End)) full
      ∙ and_from _ _ below ((λ i. is_due (is i) (last i) End) ∙ (λ i. not (unreached i) && true)))
  to_limit limit is full before (tick ∷ rest) now last unreached below =
      reached (has_reached (time_of tick) limit) refl
      (λ shut. to_limit limit is full (before ++ tick ∷ []) rest (time_of tick) (last_time-push before tick) shut
      (more_below (length (events_of before)) (length (events_of (before ++ tick ∷ []))) list (longer before tick) below)) where
        reached : (b : Bool) → has_reached (time_of tick) limit ≡ b
            → (has_reached (time_of tick) limit ≡ false → IsGivenIn plan events list (before ++ tick ∷ []) (rest ++ mark_tick End ∷ []))
            → IsGivenIn plan events list before ((tick ∷ rest) ++ mark_tick End ∷ [])
        reached false k later = inr (later k)
        reached true k later = inl
            (ap (λ b. cond b (is_end_of list (length (events_of before)) tick)
            (ends_below (length (events_of before)) list && is_due (limit_of plan (taken_of events list)) (last_time before) (time_of tick))) full
            ∙ and_from _ _ below ((λ i. is_due (is i) (last i) (time_of tick)) ∙ (λ i. not (unreached i) && k i)))

  module _ (ticks : List Tick) (all : events ≡ events_of ticks) (last : Entry) (is_last : last_entry list ≡ Some last) where
    -- the list ends at the tick
    at_last : (before rest : List Tick) (event : Event) → before ++ event_tick event ∷ rest ≡ ticks → length (events_of before) ≡ last.position
        → event_at events last.position ≡ event
    at_last before rest event parts is =
        ap (event_at events) (sym is)
        ∙ ap (λ l. event_at l (length (events_of before))) (all ∙ ap events_of (sym parts) ∙ filter_map-append event_in before (event_tick event ∷ rest))
        ∙ placed (events_of before) (events_of rest) where
          placed : (xs ys : List Event) → event_at (xs ++ event ∷ ys) (length xs) ≡ event
          placed [] ys = refl
          placed (x ∷ xs) ys = placed xs ys

    -- a full list is given by the tick of its last event
    full_there : (before : List Tick) (event : Event) → length (events_of before) ≡ last.position → is_full plan (stages_of list) ≡ true
        → is_given plan events list before (event_tick event) ≡ true
    full_there before event is full =
        ap (λ b. cond b (is_end_of list (length (events_of before)) (event_tick event))
        (ends_below (length (events_of before)) list && is_due (limit_of plan (taken_of events list)) (last_time before) (At event.ts))) full
        ∙ ap (λ o. option_map_or (λ (l : Entry). nat_eq l.position (length (events_of before))) o false) is_last
        ∙ eq-eqb last.position (length (events_of before)) (sym is)

    to_last : (from_last : (before rest : List Tick) (event : Event) → before ++ event_tick event ∷ rest ≡ ticks → length (events_of before) ≡ last.position
        → IsGivenIn plan events list before ((event_tick event ∷ rest) ++ mark_tick End ∷ []))
        → last.position < length (events_of ticks) → (before rest : List Tick) → before ++ rest ≡ ticks → length (events_of before) ≤ last.position
        → IsGivenIn plan events list before (rest ++ mark_tick End ∷ [])
    to_last from_last inside before [] parts le =
        let whole = ap (λ l. length (events_of l)) (sym (append-nil before) ∙ parts) in absurd (omega (arith, whole, le, inside))
    to_last from_last inside before (mark_tick moment ∷ rest) parts le =
        let same = ap length (events_of-mark before moment) in
        inr (to_last from_last inside (before ++ mark_tick moment ∷ []) rest
        (append_assoc before (mark_tick moment ∷ []) rest ∙ parts) (omega (arith, same, le)))
    to_last from_last inside before (event_tick event ∷ rest) parts le =
        placed (eq-or-lt_of_le le) (to_last from_last inside (before ++ event_tick event ∷ []) rest
        (append_assoc before (event_tick event ∷ []) rest ∙ parts)) where
          placed : (length (events_of before) ≡ last.position) ⊎ (length (events_of before) < last.position)
              → (length (events_of (before ++ event_tick event ∷ [])) ≤ last.position
              → IsGivenIn plan events list (before ++ event_tick event ∷ []) (rest ++ mark_tick End ∷ []))
              → IsGivenIn plan events list before ((event_tick event ∷ rest) ++ mark_tick End ∷ [])
          placed (inl is) later = from_last before rest event parts is
          placed (inr lt) later =
              let one = ap length (events_of-event before event) in
              let more = length-append (events_of before) (event ∷ []) in inr (later (omega (arith, one, more, lt)))

-- ---- a match

module _ (plan : Plan) (ticks : List Tick) (gap : plan.within_gap ≡ Some 0 → ⊥) (list : List Entry) where
  parts_of : is_match plan (events_of ticks) list ≡ true → (is_partial plan (events_of ticks) list ≡ true)
      × ((is_full plan (stages_of list) || closes plan (events_of ticks) list) ≡ true)
  unfolding is_match
  parts_of h = and_parts (is_partial plan (events_of ticks) list) _ h

  limit_there : (limit : Option ℤ)
      → option_map_or (λ l. gap_holds plan (events_of ticks) list (end_stage plan) (count_before (events_of ticks) l)) limit false ≡ true
      → (l : ℤ) × (limit ≡ Some l)
  limit_there None h = let no : false ≡ true = h in absurd cc
  limit_there (Some l) h = (l, refl)

  given_somewhere : (last : Entry) → last_entry list ≡ Some last → is_partial plan (events_of ticks) list ≡ true
      → (is_full plan (stages_of list) || closes plan (events_of ticks) list) ≡ true → last.position < length (events_of ticks)
      → IsGivenIn plan (events_of ticks) list [] (ticks ++ mark_tick End ∷ [])
  given_somewhere last is partial done inside =
      to_last plan (events_of ticks) list ticks refl last is from_last inside [] ticks refl (omega arith) where
        from_last : (before rest : List Tick) (event : Event) → before ++ event_tick event ∷ rest ≡ ticks → length (events_of before) ≡ last.position
            → IsGivenIn plan (events_of ticks) list before ((event_tick event ∷ rest) ++ mark_tick End ∷ [])
        from_last before rest event parts place = by_full (is_full plan (stages_of list)) refl where
          by_full : (b : Bool) → is_full plan (stages_of list) ≡ b
              → IsGivenIn plan (events_of ticks) list before ((event_tick event ∷ rest) ++ mark_tick End ∷ [])
          by_full true full = inl (full_there plan (events_of ticks) list ticks refl last is before event place full)
          by_full false full =
              let shut : closes plan (events_of ticks) list ≡ true = sym (ap (λ b. b || closes plan (events_of ticks) list) full) ∙ done in
              let limit = limit_there (limit_of plan (taken_of (events_of ticks) list))
              (and_parts (may_follow plan (stages_of list) (end_stage plan)) _ shut).1 in
              let here = at_last plan (events_of ticks) list ticks refl last is before rest event parts place in
              let below : is_below_limit (Some limit.0) event.ts ≡ true =
              sym (λ i. is_below_limit (limit.1 i) (here i).ts) ∙ last_in_time plan (events_of ticks) gap list last is partial in
              let one = ap length (events_of-event before event) in
              let more = length-append (events_of before) (event ∷ []) in
              inr (to_limit plan (events_of ticks) list limit.0 limit.1 full (before ++ event_tick event ∷ []) rest (At event.ts)
              (last_time-push before (event_tick event)) (not-true _ below)
              (ap (λ o. option_map_or (λ (l : Entry). nat_lt l.position (length (events_of (before ++ event_tick event ∷ [])))) o false) is
              ∙ lt-ltb last.position (length (events_of (before ++ event_tick event ∷ []))) (omega (arith, one, more, place))))

ended : (count : ℕ) (list : List Entry) → ends_below count list ≡ true → (last : Entry) × (last_entry list ≡ Some last) × (last.position < count)
ended count list h = after (last_entry list) refl h where
  after : (o : Option Entry) → last_entry list ≡ o → option_map_or (λ (l : Entry). nat_lt l.position count) o false ≡ true
      → (last : Entry) × (last_entry list ≡ Some last) × (last.position < count)
  after None is h = let no : false ≡ true = h in absurd cc
  after (Some last) is h = (last, is, ltb-true last.position count h)

pub given_by_end : GivenByEnd
given_by_end plan ticks gap list matched =
    let events = events_of ticks in
    let parts = parts_of plan ticks gap list matched in
    let below = below_all (length plan.stages) (length events) (length events) list (is_partial-rising plan events list parts.0)
    (among_of plan events list parts.0) in
    let last = ended (length events) list below in
    given_somewhere plan ticks gap list last.0 last.1 parts.0 parts.1 last.2
