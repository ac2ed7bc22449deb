-- The law of one key's ticks: the young ticks go on as the old ones.
use Rattle.std.proofs.Common.{◌≡◌, refl, sym, ◌∙◌, ap, subst, append_assoc, ℕ, ◌+◌, ◌<◌, ◌≤◌, Bool, true, false, not, ◌&&◌, ◌||◌, List, [], ◌∷◌, ◌++◌, cond, map, length, length-append, arith, ◌⊎◌, inl, inr}
use Rattle.std.specs.Prelude.{filter, nat_le, nat_lt, Option, Some, None}
use Rattle.std.specs.List.{list_any, AllByRecursion as Each}
use Rattle.std.proofs.lemmas.Bool.{leb-false, leb-true, lt-leb, le-leb, le-ltb, ltb-false, ne_eqb, not-true, and_parts}
use Rattle.std.proofs.lemmas.List.{append-nil}
use Rattle.cep_event.specs.declared.event.Event.{Event}
use Rattle.cep_event.specs.declared.record.Moment.{Moment}
use Rattle.cep_plan.specs.declared.plan.Plan.{Plan}
use Rattle.cep_plan.specs.declared.plan.Skip.{Skip}
use Rattle.cep_plan.specs.declared.plan.Skip.TheVariants.{No, ToNext, PastLast, ToFirst, ToLast}
use Rattle.cep_plan.specs.declared.item.Taken.{Taken}
use Rattle.cep_plan.specs.declared.item.Item.{Item}
use Rattle.cep_plan.specs.declared.item.Item.TheVariants.{Match, Timeout}
use Rattle.cep_plan.specs.Entry.{Entry, taken_of}
use Rattle.cep_plan.specs.Limit.{is_time_left}
use Rattle.cep_plan.specs.Rising.{rising_lists}
use Rattle.cep_plan.specs.Tick.{Tick, event_tick, mark_tick, time_of, events_of, last_time}
use Rattle.cep_plan.specs.History.{history, history_after, items_at, due_items, lists_within, timeouts_at, closed_at, matches_at}
use Rattle.cep_plan.specs.Skipping.{start_of, end_of, entries_for, is_from_to, is_from_below, kills_start, kills, list_in, is_killed, kept, kept_after}
use Rattle.cep_plan.specs.Living.{is_living, living}
use Rattle.cep_plan.specs.Keys.{kept_of, kept_at}
use Rattle.cep_plan.proofs.RisingLaws.{IsRisingList, Each-append, Each-map, Each-weaker, rising_lists-rising}
use Rattle.live_laws.specs.Starts.{item_kills_start, is_start_alive}
use Rattle.live_laws.proofs.MemberLaws.{Each-filter}
use Rattle.recent_laws.specs.Moved.{moved, moved_taken, moved_item}
use Rattle.recent_laws.specs.Law.{ComesLater, NeverFall, StartsFrom, IsCut, CutLaw}
use Rattle.recent_laws.proofs.MovedLaws.{taken_of-moved, is_live-moved, limit_of-list}
use Rattle.recent_laws.proofs.BehindLaws.{filter-none, filter-behind}
use Rattle.recent_laws.proofs.FarLaws.{is_from, is_far, due_nothing}
use Rattle.recent_laws.proofs.KeptLaws.{IsHarmless, is_killed-far, is_killed-moved}
use Rattle.recent_laws.proofs.OldLaws.{or_false, kept_after-each, living_starts}
use Rattle.recent_laws.proofs.NextLaws.{events_of-event, events_of-mark, kept_of-push, kept_at-starts, living-starts}
use Rattle.recent_laws.proofs.AlikeLaws.{IsAlike, kept_at-far, IsAlike-push, IsAlike-along}

-- ---- marks alone tell nothing

nothing_told : (plan : Plan) (before marks : List Tick) → events_of before ≡ [] → events_of marks ≡ [] → history_after plan before marks ≡ []
unfolding items_at
nothing_told plan before [] h k = refl
nothing_told plan before (event_tick event ∷ marks) h k = let one : length (events_of (event_tick event ∷ marks))
    ≡ 0 = ap length k in absurd (omega (arith, one))
nothing_told plan before (mark_tick moment ∷ marks) h k =
    λ i. (ap (λ l. due_items plan l (last_time before) moment) h ∙ due_nothing plan (last_time before) moment) i
    ++ nothing_told plan (before ++ mark_tick moment ∷ []) marks (events_of-mark before moment ∙ h) k i

pub nothing_kept : (plan : Plan) (marks : List Tick) → events_of marks ≡ [] → kept_of plan marks ≡ []
unfolding kept history
nothing_kept plan marks h = ap (kept_after plan.skip []) (nothing_told plan [] marks refl h)

-- ---- what ticks tell starts at one of their events

module _ (P : List Taken → Type 0) (most : ℕ) (holds : (stages n : ℕ) → n ≤ most → (all : List Event) (l : List Entry) → IsRisingList stages 0 n l
    → P (taken_of all l)) where
  near_lists : (plan : Plan) (n : ℕ) → n ≤ most → (all : List Event) → Each (λ l. P (taken_of all l)) (lists_within plan n)
  near_lists plan n le all = Each-weaker (IsRisingList (length plan.stages) 0 n) (λ l. P (taken_of all l)) (holds (length plan.stages) n le all)
      (lists_within plan n) (rising_lists-rising (length plan.stages) 0 n n (omega arith))

  near_due : (plan : Plan) (events : List Event) (before : Option Moment) (now : Moment) → length events ≤ most
      → Each (λ z. P (list_in z)) (due_items plan events before now)
  near_due plan events before now le =
      Each-append (λ z. P (list_in z)) (map (λ l. Timeout (taken_of events l)) (timeouts_at plan events before now))
      (map (λ l. Match (taken_of events l)) (closed_at plan events before now))
      (Each-map (λ z. P (list_in z)) (λ l. Timeout (taken_of events l)) (timeouts_at plan events before now)
      (Each-filter (λ l. P (taken_of events l)) _ (lists_within plan (length events)) (near_lists plan (length events) le events)))
      (Each-map (λ z. P (list_in z)) (λ l. Match (taken_of events l)) (closed_at plan events before now)
      (Each-filter (λ l. P (taken_of events l)) _ (lists_within plan (length events)) (near_lists plan (length events) le events)))

  near_history : (plan : Plan) (before ticks : List Tick) → length (events_of before) + length (events_of ticks) ≤ most
      → Each (λ z. P (list_in z)) (history_after plan before ticks)
  unfolding items_at
  near_history plan before [] le = tt
  near_history plan before (event_tick event ∷ ticks) le =
      let events = events_of before in
      let whole = events ++ event ∷ [] in
      Each-append (λ z. P (list_in z)) (items_at plan before (event_tick event)) (history_after plan (before ++ event_tick event ∷ []) ticks)
      (Each-append (λ z. P (list_in z)) (due_items plan events (last_time before) (time_of (event_tick event)))
      (map (λ l. Match (taken_of whole l)) (matches_at plan events event))
      (near_due plan events (last_time before) (time_of (event_tick event)) (omega (arith, le)))
      (Each-map (λ z. P (list_in z)) (λ l. Match (taken_of whole l)) (matches_at plan events event)
      (Each-filter (λ l. P (taken_of whole l)) _ (lists_within plan (length events + 1)) (near_lists plan (length events + 1) (omega (arith, le)) whole))))
      (near_history plan (before ++ event_tick event ∷ []) ticks (omega (
        arith,
        le,
        ap length (events_of-event before event),
        length-append events
            (event ∷ []),
      )))
  near_history plan before (mark_tick moment ∷ ticks) le =
      Each-append (λ z. P (list_in z)) (items_at plan before (mark_tick moment)) (history_after plan (before ++ mark_tick moment ∷ []) ticks)
      (near_due plan (events_of before) (last_time before) moment (omega (arith, le)))
      (near_history plan (before ++ mark_tick moment ∷ []) ticks (omega (arith, le, ap length (events_of-mark before moment))))

  -- each kept item of ticks with so many events has it
  pub kept-each : (plan : Plan) (ticks : List Tick) → length (events_of ticks) ≤ most → Each (λ z. P (list_in z)) (kept_of plan ticks)
  unfolding kept history
  kept-each plan ticks le =
      kept_after-each (λ z. P (list_in z)) plan.skip [] [] (history_after plan [] ticks)
      (Each-weaker (λ z. P (list_in z)) (λ z. is_killed plan.skip [] (list_in z) ≡ false → P (list_in z)) (λ z h k. h) (history_after plan [] ticks)
      (near_history plan [] ticks (omega (arith, le))))

near_kept : (plan : Plan) (ticks : List Tick) → Each (λ z. is_far (length (events_of ticks)) z ≡ false) (kept_of plan ticks)
near_kept plan ticks = kept-each (λ taken. is_from (length (events_of ticks)) taken ≡ false) (length (events_of ticks)) near plan ticks (omega arith) where
  near : (stages n : ℕ) → n ≤ length (events_of ticks) → (all : List Event) (l : List Entry) → IsRisingList stages 0 n l
      → is_from (length (events_of ticks)) (taken_of all l) ≡ false
  near stages n le all [] h = absurd h
  near stages n le all (first ∷ l) h = lt-leb (length (events_of ticks)) first.position (omega (arith, h.2, le))

-- ---- no kept match kills what starts from the position on

pub none_of : {X : Type 0} (p : X → Bool) (xs : List X) → list_any p xs ≡ false → Each (λ x. p x ≡ false) xs
none_of p [] h = tt
none_of p (x ∷ xs) h = (or_false (p x) (list_any p xs) h, none_of p xs (later (p x) h)) where
  later : (b : Bool) → (b || list_any p xs) ≡ false → list_any p xs ≡ false
  later true h = let wrong : true ≡ false = h in absurd cc
  later false h = h

pub and_right : (a b : Bool) → b ≡ false → (a && b) ≡ false
and_right true b h = h
and_right false b h = refl

and_other : (a b : Bool) → (a && b) ≡ false → a ≡ true → b ≡ false
and_other a b h k = sym (ap (λ x. x && b) k) ∙ h

-- a range that begins before the position and doesn't have it ends before it
module _ (first from start : ℕ) (lt : first < from) (le : from ≤ start) where
  to_end : (end : Option ℕ) → is_from_to (Some first) end from ≡ false → is_from_to (Some first) end start ≡ false
  to_end None h = refl
  to_end (Some end) h =
      let over = leb-false from end (and_other (nat_le first from) (nat_le from end) h (le-leb first from (omega (arith, lt)))) in
      and_right (nat_le first start) (nat_le start end) (lt-leb start end (omega (arith, over, le)))

  below_end : (end : Option ℕ) → is_from_below (Some first) end from ≡ false → is_from_below (Some first) end start ≡ false
  below_end None h = refl
  below_end (Some end) h =
      let over = ltb-false from end (and_other (nat_le first from) (nat_lt from end) h (le-leb first from (omega (arith, lt)))) in
      and_right (nat_le first start) (nat_lt start end) (le-ltb start end (omega (arith, over, le)))

  one_stretch : (skip : Skip) (t : Taken) (rest : List Taken) → t.position ≡ first → kills_start skip (t ∷ rest) from ≡ false
      → kills_start skip (t ∷ rest) start ≡ false
  one_stretch No t rest is h = refl
  one_stretch ToNext t rest is h = ne_eqb t.position start (λ same. omega (arith, same, is, lt, le))
  one_stretch PastLast t rest is h =
      ap (λ p. is_from_to (Some p) (end_of (t ∷ rest)) start) is ∙ to_end (end_of (t ∷ rest))
      (sym (ap (λ p. is_from_to (Some p) (end_of (t ∷ rest)) from) is) ∙ h)
  one_stretch (ToFirst stage) t rest is h =
      ap (λ p. is_from_below (Some p) (start_of (entries_for stage (t ∷ rest))) start) is
      ∙ below_end (start_of (entries_for stage (t ∷ rest))) (sym (ap (λ p. is_from_below (Some p) (start_of (entries_for stage (t ∷ rest))) from) is) ∙ h)
  one_stretch (ToLast stage) t rest is h =
      ap (λ p. is_from_below (Some p) (end_of (entries_for stage (t ∷ rest))) start) is
      ∙ below_end (end_of (entries_for stage (t ∷ rest))) (sym (ap (λ p. is_from_below (Some p) (end_of (entries_for stage (t ∷ rest))) from) is) ∙ h)

harmless_of : (from : ℕ) (skip : Skip) (z : Item) → item_kills_start skip from z ≡ false → IsHarmless from skip z
unfolding kills
harmless_of from skip (Timeout other) h far list starts = refl
harmless_of from skip (Match []) h far list starts = let wrong : true ≡ false = far in absurd cc
harmless_of from skip (Match (t ∷ rest)) h far [] starts = refl
harmless_of from skip (Match (t ∷ rest)) h far (first ∷ list) starts =
    one_stretch t.position from first.position (leb-false from t.position far) (leb-true from first.position starts) skip t rest refl h

pub all_harmless : (from : ℕ) (skip : Skip) (items : List Item) → is_start_alive skip items from ≡ true → Each (IsHarmless from skip) items
all_harmless from skip items h = Each-weaker (λ z. item_kills_start skip from z ≡ false) (IsHarmless from skip) (harmless_of from skip) items
    (none_of (item_kills_start skip from) items (not-true (list_any (item_kills_start skip from) items) h))

-- ---- where the cut is made

filter_none : (from : ℕ) (items : List Item) → Each (λ z. is_far from z ≡ false) items → filter (is_far from) items ≡ []
filter_none from items h = filter-none (is_far from) items h

begun : (plan : Plan) (early marks : List Tick) (by : ℕ) → length (events_of early) ≡ by → events_of marks ≡ [] → IsAlike plan early marks by
begun plan early marks by count no_events = record {
  early = events_of early;
  later = [];
  old_events = sym (append-nil (events_of early));
  young_events = no_events;
  count = count;
  agree = inr refl;
  items = (λ i. filter (is_far (sym count i)) (kept_of plan early)) ∙ filter_none (length (events_of early)) (kept_of plan early) (near_kept plan early)
      ∙ sym (ap (map (moved_item by)) (nothing_kept plan marks no_events));
}

pub cut_alike : (plan : Plan) (old young : List Tick) (by : ℕ) → IsCut plan old young by → IsAlike plan old young by
cut_alike plan old young by cut =
    let harmless = subst (λ l. Each (IsHarmless by plan.skip) (kept_of plan l)) cut.old_is (all_harmless by plan.skip (kept_of plan old) cut.is_open) in
    subst (λ l. IsAlike plan l young by) (sym cut.old_is) (subst (λ l. IsAlike plan (cut.early ++ cut.later) l by) (sym cut.young_is)
    (IsAlike-along plan cut.early cut.marks cut.later by (begun plan cut.early cut.marks by cut.dropped_is cut.no_events) harmless))

-- ---- the further ticks

-- what stays as it is with each further tick
record Goes (plan : Plan) (old young : List Tick) (by : ℕ) : Type 0 where
  alike : IsAlike plan old young by
  harmless : Each (IsHarmless by plan.skip) (kept_of plan old)
  starts : Each (StartsFrom by) (living plan old)
  most : by ≤ length (events_of old)

harmless_far : (from : ℕ) (skip : Skip) (z : Item) → is_far from z ≡ true → IsHarmless from skip z
harmless_far from skip z h near list starts = let wrong : true ≡ false = sym h ∙ near in absurd cc

grown_most : (ticks : List Tick) (tick : Tick) (by : ℕ) → by ≤ length (events_of ticks) → by ≤ length (events_of (ticks ++ tick ∷ []))
grown_most ticks (event_tick event) by le = omega (arith, le, ap length (events_of-event ticks event), length-append (events_of ticks) (event ∷ []))
grown_most ticks (mark_tick moment) by le = omega (arith, le, ap length (events_of-mark ticks moment))

goes_next : (plan : Plan) (old young : List Tick) (by : ℕ) (tick : Tick) → Goes plan old young by → ComesLater old (time_of tick)
    → Goes plan (old ++ tick ∷ []) (young ++ tick ∷ []) by
goes_next plan old young by tick g later =
    let fresh = Each-weaker (λ z. is_far by z ≡ true) (IsHarmless by plan.skip) (harmless_far by plan.skip) (kept_at plan old tick)
    (kept_at-starts plan old by g.starts g.most tick later) in record {
      alike = IsAlike-push plan old young by g.alike tick g.harmless fresh;
      harmless = subst (Each (IsHarmless by plan.skip)) (sym (kept_of-push plan old tick))
          (Each-append (IsHarmless by plan.skip) (kept_of plan old) (kept_at plan old tick) g.harmless fresh);
      starts = living-starts plan old by g.starts g.most tick later;
      most = grown_most old tick by g.most;
    }

goes_on : (plan : Plan) (old young between : List Tick) (by : ℕ) → Goes plan old young by → NeverFall old between
    → Goes plan (old ++ between) (young ++ between) by
goes_on plan old young [] by g never = subst (λ l. Goes plan l (young ++ []) by) (sym (append-nil old))
    (subst (λ l. Goes plan old l by) (sym (append-nil young)) g)
goes_on plan old young (tick ∷ between) by g never =
    subst (λ l. Goes plan l (young ++ tick ∷ between) by) (append_assoc old (tick ∷ []) between)
    (subst (λ l. Goes plan ((old ++ tick ∷ []) ++ between) l by) (append_assoc young (tick ∷ []) between)
    (goes_on plan (old ++ tick ∷ []) (young ++ tick ∷ []) between by (goes_next plan old young by tick g never.0) never.1))

pub never_behind : (before xs ys : List Tick) → NeverFall before (xs ++ ys) → NeverFall (before ++ xs) ys
never_behind before [] ys h = subst (λ l. NeverFall l ys) (sym (append-nil before)) h
never_behind before (x ∷ xs) ys h = subst (λ l. NeverFall l ys) (append_assoc before (x ∷ []) xs) (never_behind (before ++ x ∷ []) xs ys h.1)

pub never_front : (before xs ys : List Tick) → NeverFall before (xs ++ ys) → NeverFall before xs
never_front before [] ys h = tt
never_front before (x ∷ xs) ys h = (h.0, never_front (before ++ x ∷ []) xs ys h.1)

-- ---- what a further tick tells, and what is living

filter_all : (from : ℕ) (items : List Item) → Each (λ z. is_far from z ≡ true) items → filter (is_far from) items ≡ items
filter_all from [] h = refl
filter_all from (z ∷ items) h = ap (λ b. cond b (z ∷ filter (is_far from) items) (filter (is_far from) items)) h.0 ∙ ap (λ l. z ∷ l) (filter_all from items h.1)

items_alike : (plan : Plan) (old young : List Tick) (by : ℕ) (tick : Tick) → Goes plan old young by → ComesLater old (time_of tick)
    → map (moved_item by) (kept_at plan young tick) ≡ kept_at plan old tick
items_alike plan old young by tick g later =
    let far = kept_at-starts plan old by g.starts g.most tick later in
    let fresh = Each-weaker (λ z. is_far by z ≡ true) (IsHarmless by plan.skip) (harmless_far by plan.skip) (kept_at plan old tick) far in
    sym (kept_at-far plan old young by g.alike tick g.harmless fresh) ∙ filter_all by (kept_at plan old tick) far

nothing_within : (plan : Plan) (later : List Event) → later ≡ [] → (test : List Entry → Bool) → filter test (lists_within plan (length later)) ≡ []
unfolding rising_lists
nothing_within plan later empty test = ap (λ l. filter test (lists_within plan (length l))) empty

-- no list is living that starts before the position
none_before : (plan : Plan) (ticks : List Tick) (from : ℕ) → Each (StartsFrom from) (living plan ticks) → (first : Entry) (rest : List Entry)
    → first.position < from
    → is_living plan (events_of ticks) (kept_of plan ticks) (last_time ticks) (first ∷ rest) ≡ false
unfolding living
none_before plan ticks from starts first rest lt = decided (is_living plan events items last list) refl where
  events : List Event
  events = events_of ticks

  items : List Item
  items = kept_of plan ticks

  last : Option Moment
  last = last_time ticks

  list : List Entry
  list = first ∷ rest

  decided : (b : Bool) → is_living plan events items last list ≡ b → b ≡ false
  decided true is =
      let outer = and_parts _ _ is in
      let inner = and_parts _ _ outer.0 in
      let from_there = living_starts plan events items last from starts list inner.0
      (not-true (is_killed plan.skip items (taken_of events list)) inner.1) outer.1 in
      absurd (omega (arith, from_there, lt))
  decided false is = refl

-- one list, among all events and among the later ones
module _ (plan : Plan) (early later : List Event) (old young : List Item) (harmless : Each (IsHarmless (length early) plan.skip) old)
    (same : filter (is_far (length early)) old ≡ map (moved_item (length early)) young) where
  killed-moved : (list : List Entry) → is_killed plan.skip old (taken_of (early ++ later) (moved (length early) list))
      ≡ is_killed plan.skip young (taken_of later list)
  killed-moved list =
      ap (is_killed plan.skip old) (taken_of-moved early later list)
      ∙ sym (is_killed-far (length early) plan.skip old harmless (moved_taken (length early) (taken_of later list)) (from_there (taken_of later list)))
      ∙ ap (λ l. is_killed plan.skip l (moved_taken (length early) (taken_of later list))) same
      ∙ is_killed-moved (length early) plan.skip young (taken_of later list) where
        from_there : (taken : List Taken) → is_from (length early) (moved_taken (length early) taken) ≡ true
        from_there [] = refl
        from_there (t ∷ taken) = le-leb (length early) (length early + t.position) (omega arith)

  is_living-moved : (last other : Option Moment) → last ≡ other → (list : List Entry)
      → is_living plan (early ++ later) old last (moved (length early) list) ≡ is_living plan later young other list
  is_living-moved last other agree list =
      λ i. is_live-moved plan early later list i && not (killed-moved list i) && is_time_left (limit_of-list plan early later list i) (agree i)

  living-agree : (last other : Option Moment) → (last ≡ other) ⊎ (later ≡ [])
      → ((first : Entry) (rest : List Entry) → first.position < length early → is_living plan (early ++ later) old last (first ∷ rest) ≡ false)
      → filter (is_living plan (early ++ later) old last) (lists_within plan (length (early ++ later)))
      ≡ map (moved (length early)) (filter (is_living plan later young other) (lists_within plan (length later)))
  living-agree last other (inl agree) none =
      filter-behind (is_living plan (early ++ later) old last) plan early later none
      ∙ ap (λ p. map (moved (length early)) (filter p (lists_within plan (length later)))) (λ i list. is_living-moved last other agree list i)
  living-agree last other (inr empty) none =
      filter-behind (is_living plan (early ++ later) old last) plan early later none
      ∙ ap (map (moved (length early))) (nothing_within plan later empty (λ l. is_living plan (early ++ later) old last (moved (length early) l))
      ∙ sym (nothing_within plan later empty (is_living plan later young other)))

lists_alike : (plan : Plan) (old young : List Tick) (by : ℕ) → Goes plan old young by → map (moved by) (living plan young) ≡ living plan old
unfolding living
lists_alike plan old young by g =
    let a = g.alike in
    let none = none_before plan old by g.starts in
    sym (
    (λ i. filter (is_living plan (a.old_events i) (kept_of plan old) (last_time old)) (lists_within plan (length (a.old_events i))))
    ∙ living-agree plan a.early a.later (kept_of plan old) (kept_of plan young)
    (subst (λ n. Each (IsHarmless n plan.skip) (kept_of plan old)) (sym a.count) g.harmless)
    (subst (λ n. filter (is_far n) (kept_of plan old) ≡ map (moved_item n) (kept_of plan young)) (sym a.count) a.items) (last_time old)
    (last_time young) a.agree
    (λ first rest lt. sym (λ i. is_living plan (a.old_events i) (kept_of plan old) (last_time old) (first ∷ rest))
    ∙ none first rest (omega (arith, lt, a.count)))
    ∙ (λ i. map (moved (a.count i)) (filter (is_living plan (sym a.young_events i) (kept_of plan young) (last_time young))
    (lists_within plan (length (sym a.young_events i))))))

-- The law of one key's ticks.
pub cut_law : CutLaw
cut_law plan old young by never cut =
    let a = cut_alike plan old young by cut in
    let start : Goes plan old young by = record {
      alike = a;
      harmless = all_harmless by plan.skip
          (kept_of plan old) cut.is_open;
      starts = cut.living_from;
      most = omega
          (arith, ap length a.old_events, length-append a.early a.later, a.count);
    } in record {
      items = λ between tick times.
          items_alike plan (old ++ between) (young ++ between) by tick (goes_on plan old young between by start
          (never_behind [] old between (never_front [] (old ++ between) (tick ∷ []) times)))
          (never_behind [] (old ++ between) (tick ∷ []) times).0;
      lists = λ between times. lists_alike plan (old ++ between) (young ++ between) by
          (goes_on plan old young between by start (never_behind [] old between times));
    }
