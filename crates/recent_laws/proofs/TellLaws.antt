-- What is told of the events of one key is what the ticks of that key alone give.
use Rattle.std.proofs.Common.{◌≡◌, refl, sym, ◌∙◌, ap, subst, append_assoc, ℕ, zero, suc, ◌+◌, ◌<◌, ◌≤◌, arith, Bool, true, false, cond, List, [], ◌∷◌, ◌++◌, map, fold, length, length-append}
use Rattle.std.specs.Prelude.{⊤, ◌||◌, filter, flat_map, if◌then◌else◌, Option, Some}
use Rattle.std.specs.List.{list_any, AllByRecursion as Each}
use Rattle.std.specs.Option.{option_map_or}
use Rattle.std.proofs.lemmas.List.{append-nil}
use Rattle.cep_event.specs.declared.event.Event.{Event}
use Rattle.cep_event.specs.declared.record.Moment.{Moment}
use Rattle.cep_event.specs.declared.value.Value.{Value}
use Rattle.cep_plan.specs.declared.plan.Plan.{Plan}
use Rattle.cep_plan.specs.declared.item.Item.{Item}
use Rattle.cep_plan.specs.declared.item.Item.TheVariants.{Match, Timeout}
use Rattle.cep_plan.specs.Entry.{Entry, event_at, taken_of}
use Rattle.cep_plan.specs.Tick.{Tick, event_tick, mark_tick, time_of, events_of, last_time}
use Rattle.cep_plan.specs.History.{items_at, items_from, due_items, lists_within, timeouts_at, closed_at, matches_at}
use Rattle.cep_plan.specs.Skipping.{list_in, is_killed, kept_after}
use Rattle.cep_plan.specs.Keys.{key_of, same_key, is_of_key, ticks_of_key, with_key, keys_after, kept_of, kept_at, kept_for, keyed_at, told_at, told_after, told_of}
use Rattle.cep_plan.proofs.RisingLaws.{IsRisingList, Each-append, Each-map, Each-weaker, rising_lists-rising}
use Rattle.live_laws.proofs.MemberLaws.{Each-filter}
use Rattle.recent_laws.specs.Tell.{has_key, TellsAlone}
use Rattle.recent_laws.proofs.BehindLaws.{filter-append, filter-none}
use Rattle.recent_laws.proofs.FarLaws.{due_nothing}
use Rattle.recent_laws.proofs.OldLaws.{kept_after-each}
use Rattle.recent_laws.proofs.NextLaws.{kept_of-push}
use Rattle.recent_laws.proofs.CutLaws.{nothing_kept, none_of}
use Rattle.recent_laws.proofs.KeyLaws.{same_key-equal, same_key-itself, ticks_of_key-append}
use Rattle.recent_laws.proofs.KeyedLaws.{fold_knows, Each-unmap}

-- ---- items of a key

Each-at : (Q : Event → Type 0) (events : List Event) (position : ℕ) → Each Q events → position < length events → Q (event_at events position)
Each-at Q [] position h lt = absurd (omega (arith, lt))
Each-at Q (e ∷ events) zero h lt = h.0
Each-at Q (e ∷ events) (suc position) h lt = Each-at Q events position h.1 (omega (arith, lt))

module _ (plan : Plan) (key own : Option Value) where
  abbrev Own : Event → Type 0
  Own event = same_key (key_of plan event) own ≡ true

  abbrev Says : Item → Type 0
  Says z = has_key plan key (list_in z) ≡ same_key own key

  says_of : (events : List Event) → Each Own events → (stages n : ℕ) → n ≤ length events → (l : List Entry) → IsRisingList stages 0 n l
      → has_key plan key (taken_of events l) ≡ same_key own key
  says_of events h stages n le [] r = absurd r
  says_of events h stages n le (first ∷ l) r = ap (λ k. same_key k key) (same_key-equal (key_of plan (event_at events first.position)) own
      (Each-at Own events first.position h (omega (arith, r.2, le))))

  says_lists : (events : List Event) → Each Own events → (n : ℕ) → n ≤ length events
      → Each (λ l. has_key plan key (taken_of events l) ≡ same_key own key) (lists_within plan n)
  says_lists events h n le = Each-weaker (IsRisingList (length plan.stages) 0 n) (λ l. has_key plan key (taken_of events l) ≡ same_key own key)
      (says_of events h (length plan.stages) n le) (lists_within plan n) (rising_lists-rising (length plan.stages) 0 n n (omega arith))

  says_due : (events : List Event) → Each Own events → (before : Option Moment) (now : Moment) → Each Says (due_items plan events before now)
  says_due events h before now =
      Each-append Says (map (λ l. Timeout (taken_of events l)) (timeouts_at plan events before now))
      (map (λ l. Match (taken_of events l)) (closed_at plan events before now))
      (Each-map Says (λ l. Timeout (taken_of events l)) (timeouts_at plan events before now)
      (Each-filter (λ l. has_key plan key (taken_of events l) ≡ same_key own key) _ (lists_within plan (length events))
      (says_lists events h (length events) (omega arith))))
      (Each-map Says (λ l. Match (taken_of events l)) (closed_at plan events before now)
      (Each-filter (λ l. has_key plan key (taken_of events l) ≡ same_key own key) _ (lists_within plan (length events))
      (says_lists events h (length events) (omega arith))))

  says_from : (events : List Event) → Each Own events → (before : Option Moment) (tick : Tick) → is_of_key plan own tick ≡ true
      → Each Says (items_from plan events before tick)
  says_from events h before (event_tick event) is =
      let whole = events ++ event ∷ [] in
      Each-append Says (due_items plan events before (time_of (event_tick event))) (map (λ l. Match (taken_of whole l)) (matches_at plan events event))
      (says_due events h before (time_of (event_tick event)))
      (Each-map Says (λ l. Match (taken_of whole l)) (matches_at plan events event)
      (Each-filter (λ l. has_key plan key (taken_of whole l) ≡ same_key own key) _ (lists_within plan (length events + 1))
      (says_lists whole (Each-append Own events (event ∷ []) h (is, tt)) (length events + 1) (omega (arith, length-append events (event ∷ []))))))
  says_from events h before (mark_tick moment) is = says_due events h before moment

  own_events : (ticks : List Tick) → Each Own (events_of (ticks_of_key plan own ticks))
  own_events [] = tt
  own_events (mark_tick moment ∷ ticks) = own_events ticks
  own_events (event_tick event ∷ ticks) = decided (same_key (key_of plan event) own) refl (own_events ticks) where
    decided : (b : Bool) → same_key (key_of plan event) own ≡ b → Each Own (events_of (ticks_of_key plan own ticks))
        → Each Own (events_of (cond b (event_tick event ∷ ticks_of_key plan own ticks) (ticks_of_key plan own ticks)))
    decided true is h = (is, h)
    decided false is h = h

  says_kept : (before : List Tick) (tick : Tick) → is_of_key plan own tick ≡ true → Each Says (kept_for plan before tick own)
  unfolding items_at
  says_kept before tick is =
      let ticks = ticks_of_key plan own before in
      let items = items_from plan (events_of ticks) (last_time ticks) tick in
      kept_after-each Says plan.skip [] (kept_of plan ticks) items
      (Each-weaker Says (λ z. is_killed plan.skip [] (list_in z) ≡ false → Says z) (λ z h k. h) items
      (says_from (events_of ticks) (own_events before) (last_time ticks) tick is))

  abbrev told_key : Item → Bool
  told_key z = has_key plan key (list_in z)

  all_or_none : (items : List Item) → Each Says items → filter told_key items ≡ cond (same_key own key) items []
  all_or_none items h = decided (same_key own key) refl items h where
    every : (items : List Item) → Each (λ z. told_key z ≡ true) items → filter told_key items ≡ items
    every [] h = refl
    every (z ∷ items) h = ap (λ b. cond b (z ∷ filter told_key items) (filter told_key items)) h.0 ∙ ap (λ l. z ∷ l) (every items h.1)

    decided : (b : Bool) → same_key own key ≡ b → (items : List Item) → Each Says items → filter told_key items ≡ cond b items []
    decided true is items h = every items (Each-weaker Says (λ z. told_key z ≡ true) (λ z s. s ∙ is) items h)
    decided false is items h = filter-none told_key items (Each-weaker Says (λ z. told_key z ≡ false) (λ z s. s ∙ is) items h)

  -- of what a tick gives for one key, what is of another: all or nothing
  pub kept_for-key : (before : List Tick) (tick : Tick) → is_of_key plan own tick ≡ true
      → filter told_key (kept_for plan before tick own) ≡ cond (same_key own key) (kept_for plan before tick own) []
  kept_for-key before tick is = all_or_none (kept_for plan before tick own) (says_kept before tick is)

-- ---- keys that differ

abbrev Distinct : List (Option Value) → Type 0
Distinct [] = ⊤
Distinct (key ∷ keys) = Each (λ other. same_key key other ≡ false) keys × Distinct keys

turned : (a b : Option Value) → same_key a b ≡ false → same_key b a ≡ false
turned a b h = decided (same_key b a) refl where
  decided : (t : Bool) → same_key b a ≡ t → t ≡ false
  decided true is = let wrong : true ≡ false = sym (same_key-itself a) ∙ sym (ap (same_key a) (same_key-equal b a is)) ∙ h in absurd cc
  decided false is = refl

distinct_push : (key : Option Value) (keys : List (Option Value)) → Distinct keys → Each (λ other. same_key key other ≡ false) keys
    → Distinct (keys ++ key ∷ [])
distinct_push key [] d h = (tt, tt)
distinct_push key (k ∷ keys) d h = (Each-append (λ other. same_key k other ≡ false) keys (key ∷ []) d.0 (turned key k h.0, tt), distinct_push key keys d.1 h.1)

with_key-distinct : (keys : List (Option Value)) (key : Option Value) → Distinct keys → Distinct (with_key keys key)
with_key-distinct keys key d = decided (list_any (same_key key) keys) refl where
  decided : (b : Bool) → list_any (same_key key) keys ≡ b → Distinct (if b then keys else keys ++ key ∷ [])
  decided true is = d
  decided false is = distinct_push key keys d (none_of (same_key key) keys is)

fold-distinct : (keys more : List (Option Value)) → Distinct keys → Distinct (fold with_key keys more)
fold-distinct keys [] d = d
fold-distinct keys (key ∷ more) d = fold-distinct (with_key keys key) more (with_key-distinct keys key d)

-- ---- what a tick tells of one key

module _ (plan : Plan) (key : Option Value) where
  abbrev tells : Item → Bool
  tells z = has_key plan key (list_in z)

  abbrev Picks : (Option Value → List Item) → Type 0
  Picks f = (own : Option Value) → filter tells (f own) ≡ cond (same_key own key) (f own) []

  none_among : (f : Option Value → List Item) → Picks f → (keys : List (Option Value)) → Each (λ other. same_key key other ≡ false) keys
      → filter tells (flat_map f keys) ≡ []
  none_among f picks [] h = refl
  none_among f picks (k ∷ keys) h =
      filter-append tells (f k) (flat_map f keys)
      ∙ (λ i. (picks k ∙ ap (λ b. cond b (f k) []) (turned key k h.0)) i ++ none_among f picks keys h.1 i)

  one_among : (f : Option Value → List Item) → Picks f → (keys : List (Option Value)) → Distinct keys
      → filter tells (flat_map f keys) ≡ cond (list_any (same_key key) keys) (f key) []
  one_among f picks [] d = refl
  one_among f picks (k ∷ keys) d =
      filter-append tells (f k) (flat_map f keys)
      ∙ ap (λ l. l ++ filter tells (flat_map f keys)) (picks k)
      ∙ decided (same_key k key) refl (one_among f picks keys d.1) where
        decided : (b : Bool) → same_key k key ≡ b → filter tells (flat_map f keys) ≡ cond (list_any (same_key key) keys) (f key) []
            → cond b (f k) [] ++ filter tells (flat_map f keys) ≡ cond (same_key key k || list_any (same_key key) keys) (f key) []
        decided true is later =
            let same = same_key-equal k key is in
            let others = subst (λ x. Each (λ other. same_key x other ≡ false) keys) same d.0 in
            ap (λ l. f k ++ l) (none_among f picks keys others) ∙ append-nil (f k) ∙ ap f same
            ∙ sym (ap (λ b. cond (b || list_any (same_key key) keys) (f key) []) (ap (same_key key) same ∙ same_key-itself key))
        decided false is later = later ∙ sym (ap (λ b. cond (b || list_any (same_key key) keys) (f key) []) (turned k key is))

  -- a key that isn't known has no events
  no_events_of : (keys : List (Option Value)) → list_any (same_key key) keys ≡ false → (ticks : List Tick)
      → Each (λ e. list_any (same_key (key_of plan e)) keys ≡ true) (events_of ticks) → events_of (ticks_of_key plan key ticks) ≡ []
  no_events_of keys new [] h = refl
  no_events_of keys new (mark_tick moment ∷ ticks) h = no_events_of keys new ticks h
  no_events_of keys new (event_tick event ∷ ticks) h = decided (same_key (key_of plan event) key) refl (no_events_of keys new ticks h.1) where
    decided : (b : Bool) → same_key (key_of plan event) key ≡ b → events_of (ticks_of_key plan key ticks) ≡ []
        → events_of (cond b (event_tick event ∷ ticks_of_key plan key ticks) (ticks_of_key plan key ticks)) ≡ []
    decided true is k = let wrong : true ≡ false = sym h.0 ∙ ap (λ x. list_any (same_key x) keys) (same_key-equal (key_of plan event) key is) ∙ new in absurd cc
    decided false is k = k

  nothing_for : (before : List Tick) (moment : Moment) → events_of (ticks_of_key plan key before) ≡ [] → kept_for plan before (mark_tick moment) key ≡ []
  unfolding items_at
  nothing_for before moment h =
      let ticks = ticks_of_key plan key before in
      ap (λ l. kept_after plan.skip (kept_of plan ticks) l) (ap (λ l. due_items plan l (last_time ticks) moment) h ∙ due_nothing plan (last_time ticks) moment)

  told_tick : (field : ℕ) → plan.by ≡ Some field → (before : List Tick) (tick : Tick)
      → filter tells (told_at plan [] before tick) ≡ cond (is_of_key plan key tick) (kept_for plan before tick key) []
  unfolding told_at
  told_tick field is before (event_tick event) =
      let own = key_of plan event in
      ap (λ o. filter tells (option_map_or (λ f. keyed_at plan [] before (event_tick event)) o (kept_at plan before (event_tick event)))) is
      ∙ kept_for-key plan key own before (event_tick event) (same_key-itself own)
      ∙ decided own (same_key own key) refl where
        decided : (own : Option Value) (b : Bool) → same_key own key ≡ b → cond (same_key own key) (kept_for plan before (event_tick event) own) []
            ≡ cond (same_key own key) (kept_for plan before (event_tick event) key) []
        decided own true same = ap (λ k. cond (same_key own key) (kept_for plan before (event_tick event) k) []) (same_key-equal own key same)
        decided own false same = ap (λ b. cond b (kept_for plan before (event_tick event) own) []) same
            ∙ sym (ap (λ b. cond b (kept_for plan before (event_tick event) key) []) same)
  told_tick field is before (mark_tick moment) =
      let keys = keys_after plan [] before in
      let known = Each-unmap (λ k. list_any (same_key k) keys ≡ true) (key_of plan) (events_of before) (fold_knows [] (map (key_of plan) (events_of before))) in
      ap (λ o. filter tells (option_map_or (λ f. keyed_at plan [] before (mark_tick moment)) o (kept_at plan before (mark_tick moment)))) is
      ∙ one_among (kept_for plan before (mark_tick moment)) (λ own. kept_for-key plan key own before (mark_tick moment) refl) keys
      (fold-distinct [] (map (key_of plan) (events_of before)) tt)
      ∙ decided keys known (list_any (same_key key) keys) refl where
        decided : (keys : List (Option Value)) → Each (λ e. list_any (same_key (key_of plan e)) keys ≡ true) (events_of before) → (b : Bool)
            → list_any (same_key key) keys ≡ b
            → cond (list_any (same_key key) keys) (kept_for plan before (mark_tick moment) key) [] ≡ kept_for plan before (mark_tick moment) key
        decided keys known true there = ap (λ b. cond b (kept_for plan before (mark_tick moment) key) []) there
        decided keys known false there = ap (λ b. cond b (kept_for plan before (mark_tick moment) key) []) there
            ∙ sym (nothing_for before moment (no_events_of keys there before known))

  kept_tick : (before : List Tick) (tick : Tick) → kept_of plan (ticks_of_key plan key (before ++ tick ∷ []))
      ≡ kept_of plan (ticks_of_key plan key before) ++ cond (is_of_key plan key tick) (kept_for plan before tick key) []
  kept_tick before tick = ap (kept_of plan) (ticks_of_key-append plan key before (tick ∷ [])) ∙ decided (is_of_key plan key tick) where
    decided : (b : Bool) → kept_of plan (ticks_of_key plan key before ++ cond b (tick ∷ []) [])
        ≡ kept_of plan (ticks_of_key plan key before) ++ cond b (kept_for plan before tick key) []
    decided true = kept_of-push plan (ticks_of_key plan key before) tick
    decided false = ap (kept_of plan) (append-nil (ticks_of_key plan key before)) ∙ sym (append-nil (kept_of plan (ticks_of_key plan key before)))

  told_alone : (field : ℕ) → plan.by ≡ Some field → (before later : List Tick)
      → kept_of plan (ticks_of_key plan key before) ++ filter tells (told_after plan [] before later) ≡ kept_of plan (ticks_of_key plan key (before ++ later))
  told_alone field is before [] = append-nil (kept_of plan (ticks_of_key plan key before))
      ∙ ap (λ l. kept_of plan (ticks_of_key plan key l)) (sym (append-nil before))
  told_alone field is before (tick ∷ later) =
      let front = kept_of plan (ticks_of_key plan key before) in
      ap (λ l. front ++ l) (filter-append tells (told_at plan [] before tick) (told_after plan [] (before ++ tick ∷ []) later))
      ∙ sym (append_assoc front (filter tells (told_at plan [] before tick)) (filter tells (told_after plan [] (before ++ tick ∷ []) later)))
      ∙ ap (λ l. l ++ filter tells (told_after plan [] (before ++ tick ∷ []) later))
      (ap (λ l. front ++ l) (told_tick field is before tick) ∙ sym (kept_tick before tick))
      ∙ told_alone field is (before ++ tick ∷ []) later
      ∙ ap (λ l. kept_of plan (ticks_of_key plan key l)) (append_assoc before (tick ∷ []) later)

pub tells_alone : TellsAlone
unfolding told_of
tells_alone plan field key ticks is = nothing_first ∙ told_alone plan key field is [] ticks where
  nothing_first : filter (λ item. has_key plan key (list_in item)) (told_after plan [] [] ticks)
      ≡ kept_of plan [] ++ filter (λ item. has_key plan key (list_in item)) (told_after plan [] [] ticks)
  nothing_first = ap (λ l. l ++ filter (λ item. has_key plan key (list_in item)) (told_after plan [] [] ticks)) (sym (nothing_kept plan [] refl))
