-- Pass 2. Where no living list starts before a position, no list that starts there gives a kept item at the next tick, and none is living after it.
use Rattle.std.proofs.Common.{◌≡◌, refl, sym, ◌∙◌, ap, subst, append_assoc, ℕ, ℤ, ◌+◌, ◌≤◌, Bool, true, false, not, ◌&&◌, ◌||◌, List, [], ◌∷◌, ◌++◌, map, length, length-append, arith, ◌⊎◌, inl, inr}
use Rattle.std.specs.Prelude.{filter, if◌then◌else◌, IfSome, Option, Some, None}
use Rattle.std.specs.List.{AllByRecursion as Each}
use Rattle.std.proofs.lemmas.Bool.{and_parts, and_from, le-leb, not-true}
use Rattle.cep_event.specs.declared.event.Event.{Event}
use Rattle.cep_event.specs.declared.record.Moment.{Moment}
use Rattle.cep_event.specs.declared.record.Moment.TheVariants.{At}
use Rattle.cep_event.specs.Moment.{has_reached}
use Rattle.cep_plan.specs.declared.plan.Plan.{Plan}
use Rattle.cep_plan.specs.declared.plan.Skip.{Skip}
use Rattle.cep_plan.specs.declared.item.Taken.{Taken}
use Rattle.cep_plan.specs.declared.item.Item.{Item}
use Rattle.cep_plan.specs.declared.item.Item.TheVariants.{Match, Timeout}
use Rattle.cep_plan.specs.Entry.{Entry, taken_at, taken_of, stages_of}
use Rattle.cep_plan.specs.Follow.{is_full, end_stage}
use Rattle.cep_plan.specs.Limit.{limit_of, is_limit_reached, is_due, is_time_left}
use Rattle.cep_plan.specs.Partial.{may_grow, is_partial, is_complete, is_open_for, waits, is_live}
use Rattle.cep_plan.specs.History.{lists_within, timeouts_at, closed_at, due_items, ends_at, matches_at}
use Rattle.cep_plan.specs.Skipping.{list_in, is_killed, kept_after}
use Rattle.cep_plan.specs.Living.{is_living}
use Rattle.cep_plan.proofs.RisingLaws.{IsRising, IsRisingList, Each-append, Each-map, Contains-rising_lists}
use Rattle.cep_plan.proofs.SortedLaws.{Each-contains}
use Rattle.cep_plan.proofs.FilteredLaws.{Contains-filter, Contains-from_filter}
use Rattle.cep_plan.proofs.LocalLaws.{AreAmong, taken_of-append, is_partial-append}
use Rattle.live_laws.specs.Survival.{takes}
use Rattle.live_laws.proofs.MemberLaws.{Each-from_contains}
use Rattle.live_laws.proofs.PartialLaws.{IsGrown, rising_split, is_partial-may_grow, is_partial-rising}
use Rattle.live_laws.proofs.LiveLaws.{is_live-waits, waits-is_live}
use Rattle.live_laws.proofs.GrowthLaws.{is_partial-grow}
use Rattle.live_laws.proofs.WaitLaws.{waits-may_grow, waits-old}
use Rattle.live_laws.proofs.AnswerLaws.{grown_from_end}
use Rattle.live_laws.proofs.KeepLaws.{is_killed-append, is_killed-start}
use Rattle.recent_laws.specs.Law.{StartsFrom}
use Rattle.recent_laws.proofs.FarLaws.{is_from, is_far}

-- ---- what is kept of items

pub or_false : (a b : Bool) → (a || b) ≡ false → a ≡ false
or_false true b h = h
or_false false b h = refl

module _ (P : Item → Type 0) (skip : Skip) (first : List Item) where
  -- Each kept item has what each item has that the first ones don't kill.
  pub kept_after-each : (more items : List Item) → Each (λ z. is_killed skip first (list_in z) ≡ false → P z) items
      → Each P (kept_after skip (first ++ more) items)
  kept_after-each more [] h = tt
  kept_after-each more (item ∷ items) h = decided (is_killed skip (first ++ more) (list_in item)) refl (kept_after-each more items h.1)
      (subst (λ l. Each P (kept_after skip l items)) (sym (append_assoc first more (item ∷ []))) (kept_after-each (more ++ item ∷ []) items h.1)) where
        decided : (b : Bool) → is_killed skip (first ++ more) (list_in item) ≡ b → Each P (kept_after skip (first ++ more) items)
            → Each P (kept_after skip ((first ++ more) ++ item ∷ []) items)
            → Each P (if b then kept_after skip (first ++ more) items else item ∷ kept_after skip ((first ++ more) ++ item ∷ []) items)
        decided true is gone stays = gone
        decided false is gone stays = (
          h.0 (or_false (is_killed skip first (list_in item)) (is_killed skip more (list_in item))
              (sym (is_killed-append skip first more (list_in item)) ∙ is)),
          stays,
        )

-- ---- limits and times

due_left : (limit : Option ℤ) (before : Option Moment) (now : Moment) → is_due limit before now ≡ true → is_time_left limit before ≡ true
due_left limit None now h = let wrong : false ≡ true = h in absurd cc
due_left limit (Some moment) now h = (and_parts (not (is_limit_reached limit moment)) (is_limit_reached limit now) h).0

-- where the time doesn't fall, a limit that isn't reached wasn't
left_before : (limit : Option ℤ) (last : Option Moment) (now : Moment) → IfSome last
    (λ earlier. (t : ℤ) → has_reached earlier t ≡ true → has_reached now t ≡ true) → not (is_limit_reached limit now) ≡ true → is_time_left limit last ≡ true
left_before limit None now later h = refl
left_before None (Some earlier) now later h = refl
left_before (Some time) (Some earlier) now later h = decided (has_reached earlier time) refl where
  decided : (b : Bool) → has_reached earlier time ≡ b → not b ≡ true
  decided true is = let wrong : true ≡ false = sym (later time is) ∙ not-true (has_reached now time) h in absurd cc
  decided false is = refl

-- ---- what the definitions say of one list

partial_of : (plan : Plan) (events : List Event) (first : Entry) (rest : List Entry) → may_grow plan events (first ∷ rest) ≡ true
    → is_partial plan events (first ∷ rest) ≡ true
unfolding is_partial
partial_of plan events first rest h = h

in_time : (plan : Plan) (events : List Event) (first : Entry) (rest : List Entry) (stage : ℕ) (event : Event)
    → takes plan (taken_of events (first ∷ rest)) stage event (length events) ≡ true
    → not (is_limit_reached (limit_of plan (taken_of events (first ∷ rest))) (At event.ts)) ≡ true
unfolding takes
in_time plan events first rest stage event h = (and_parts _ _ h).1

waits_open : (plan : Plan) (events : List Event) (list : List Entry) (stage : ℕ) → is_partial plan events list ≡ true
    → is_open_for plan events list stage ≡ true → waits plan events list stage ≡ true
unfolding waits
waits_open plan events list stage partial is = and_from _ _ (is_partial-may_grow plan events list partial) is

complete_partial : (plan : Plan) (events : List Event) (list : List Entry) → is_complete plan events list ≡ true → is_partial plan events list ≡ true
unfolding is_complete
complete_partial plan events list h = (and_parts _ _ h).0

-- ---- lists that are living start from the position on

module _ (plan : Plan) (events : List Event) (items : List Item) (last : Option Moment) (from : ℕ)
    (starts : Each (StartsFrom from) (filter (is_living plan events items last) (lists_within plan (length events)))) where
  pub living_starts : (list : List Entry) → is_live plan events list ≡ true → is_killed plan.skip items (taken_of events list) ≡ false
      → is_time_left (limit_of plan (taken_of events list)) last ≡ true → StartsFrom from list
  living_starts list live alive left =
      let partial = (waits-is_live plan events list live).0 in
      let is : is_living plan events items last list ≡ true = and_from _ _ (and_from _ _ live (ap not alive)) left in
      Each-contains (StartsFrom from) (filter (is_living plan events items last) (lists_within plan (length events))) list starts
      (Contains-filter (is_living plan events items last) (lists_within plan (length events)) list
      (Contains-rising_lists (length plan.stages) 0 (length events) (length events) (omega arith) list (is_partial-rising plan events list partial)) is)

  far_of : (list : List Entry) (all : _) → StartsFrom from list → is_from from (taken_of all list) ≡ true
  far_of [] all h = refl
  far_of (first ∷ later) all h = le-leb from first.position h

  -- a list that ends at a new event, and that isn't killed
  grown_starts : (event : Event) → from ≤ length events → IfSome last (λ earlier. (t : ℤ) → has_reached earlier t ≡ true → has_reached (At event.ts) t ≡ true)
      → (list : List Entry) → is_partial plan (events ++ event ∷ []) list ≡ true → IsGrown events list
      → is_killed plan.skip items (taken_of (events ++ event ∷ []) list) ≡ false → StartsFrom from list
  grown_starts event most later list partial ([], stage, is, among) alive = subst (StartsFrom from) (sym is) most
  grown_starts event most later list partial (first ∷ rest, stage, is, among) alive =
      let whole = events ++ event ∷ [] in
      let before = first ∷ rest in
      let grown = sym (is_partial-grow plan events event before among stage) ∙ sym (ap (is_partial plan whole) is) ∙ partial in
      let parts = and_parts (waits plan events before stage) (takes plan (taken_of events before) stage event (length events)) grown in
      let was : is_partial plan events before ≡ true = partial_of plan events first rest (waits-may_grow plan events before stage parts.0) in
      let spared : is_killed plan.skip items (taken_of events before) ≡ false =
      is_killed-start plan.skip items (taken_at events first) (taken_of events rest)
      ∙ sym (is_killed-start plan.skip items (taken_at whole first) (taken_of whole (rest ++ record { stage = stage; position = length events } ∷ [])))
      ∙ sym (ap (λ l. is_killed plan.skip items (taken_of whole l)) is) ∙ alive in
      let left = left_before (limit_of plan (taken_of events before)) last (At event.ts) later (in_time plan events first rest stage event parts.1) in
      subst (StartsFrom from) (sym is) (living_starts before (is_live-waits plan events before stage was parts.0) spared left)

  -- the items of lists that are due
  pub due_starts : (now : Moment) → Each (λ z. is_killed plan.skip items (list_in z) ≡ false → is_far from z ≡ true) (due_items plan events last now)
  due_starts now =
      Each-append (λ z. is_killed plan.skip items (list_in z) ≡ false → is_far from z ≡ true)
      (map (λ l. Timeout (taken_of events l)) (timeouts_at plan events last now)) (map (λ l. Match (taken_of events l)) (closed_at plan events last now))
      (Each-map (λ z. is_killed plan.skip items (list_in z) ≡ false → is_far from z ≡ true) (λ l. Timeout (taken_of events l))
      (timeouts_at plan events last now)
      (Each-from_contains (λ l. is_killed plan.skip items (taken_of events l) ≡ false → is_from from (taken_of events l) ≡ true)
      (timeouts_at plan events last now) (λ l q. timed_out l (Contains-from_filter _ (lists_within plan (length events)) l q).1)))
      (Each-map (λ z. is_killed plan.skip items (list_in z) ≡ false → is_far from z ≡ true) (λ l. Match (taken_of events l)) (closed_at plan events last now)
      (Each-from_contains (λ l. is_killed plan.skip items (taken_of events l) ≡ false → is_from from (taken_of events l) ≡ true)
      (closed_at plan events last now) (λ l q. closed l (Contains-from_filter _ (lists_within plan (length events)) l q).1))) where
        timed_out : (l : List Entry) → (is_due (limit_of plan (taken_of events l)) last now && is_live plan events l && not (is_full plan (stages_of l))
            && not (is_open_for plan events l (end_stage plan))) ≡ true
            → is_killed plan.skip items (taken_of events l) ≡ false → is_from from (taken_of events l) ≡ true
        timed_out l h alive =
            let three = (and_parts _ _ h).0 in
            let two = and_parts _ _ (and_parts _ _ three).0 in
            far_of l events (living_starts l two.1 alive (due_left (limit_of plan (taken_of events l)) last now two.0))

        closed : (l : List Entry) → (is_due (limit_of plan (taken_of events l)) last now && is_partial plan events l
            && is_open_for plan events l (end_stage plan)) ≡ true
            → is_killed plan.skip items (taken_of events l) ≡ false → is_from from (taken_of events l) ≡ true
        closed l h alive =
            let three = and_parts _ _ h in
            let two = and_parts _ _ three.0 in
            far_of l events (living_starts l (is_live-waits plan events l (end_stage plan) two.1
            (waits_open plan events l (end_stage plan) two.1 three.1)) alive (due_left (limit_of plan (taken_of events l)) last now two.0))

  -- the matches that the event completes
  pub complete_starts : (event : Event) → from ≤ length events → IfSome last
      (λ earlier. (t : ℤ) → has_reached earlier t ≡ true → has_reached (At event.ts) t ≡ true)
      → Each (λ z. is_killed plan.skip items (list_in z) ≡ false → is_far from z ≡ true)
      (map (λ l. Match (taken_of (events ++ event ∷ []) l)) (matches_at plan events event))
  complete_starts event most later =
      Each-map (λ z. is_killed plan.skip items (list_in z) ≡ false → is_far from z ≡ true) (λ l. Match (taken_of (events ++ event ∷ []) l))
      (matches_at plan events event)
      (Each-from_contains (λ l. is_killed plan.skip items (taken_of (events ++ event ∷ []) l) ≡ false
      → is_from from (taken_of (events ++ event ∷ []) l) ≡ true) (matches_at plan events event)
      (λ l q. complete l (Contains-from_filter _ (lists_within plan (length events + 1)) l q).1)) where
        complete : (l : List Entry) → (ends_at (length events) l && is_complete plan (events ++ event ∷ []) l) ≡ true
            → is_killed plan.skip items (taken_of (events ++ event ∷ []) l) ≡ false → is_from from (taken_of (events ++ event ∷ []) l) ≡ true
        complete l h alive =
            let two = and_parts _ _ h in
            let partial = complete_partial plan (events ++ event ∷ []) l two.1 in
            far_of l (events ++ event ∷ []) (grown_starts event most later l partial (grown_from_end plan events event l partial two.0) alive)

  pub spared : (more : List Item) (taken : List Taken) → not (is_killed plan.skip (items ++ more) taken) ≡ true → is_killed plan.skip items taken ≡ false
  spared more taken h = or_false (is_killed plan.skip items taken) (is_killed plan.skip more taken)
      (sym (is_killed-append plan.skip items more taken) ∙ not-true (is_killed plan.skip (items ++ more) taken) h)

  -- a list that is living after a mark
  pub mark_starts : (now : Moment) → IfSome last (λ earlier. (t : ℤ) → has_reached earlier t ≡ true → has_reached now t ≡ true)
      → (more : List Item) (list : List Entry) → is_living plan events (items ++ more) (Some now) list ≡ true → StartsFrom from list
  mark_starts now later more list h =
      let outer = and_parts _ _ h in
      let inner = and_parts _ _ outer.0 in
      living_starts list inner.0 (spared more (taken_of events list) inner.1) (left_before (limit_of plan (taken_of events list)) last now later outer.1)

  -- a list that is living after an event
  pub event_starts : (event : Event) → from ≤ length events → IfSome last
      (λ earlier. (t : ℤ) → has_reached earlier t ≡ true → has_reached (At event.ts) t ≡ true) → (more : List Item) (list : List Entry)
      → is_living plan (events ++ event ∷ []) (items ++ more) (Some (At event.ts)) list ≡ true → StartsFrom from list
  event_starts event most later more list h =
      let whole = events ++ event ∷ [] in
      let outer = and_parts _ _ h in
      let inner = and_parts _ _ outer.0 in
      let live = waits-is_live plan whole list inner.0 in
      split live.1.0 (rising_split (length plan.stages) 0 events list (rising list (is_partial-rising plan whole list live.0))) live.0 live.1.1
      (spared more (taken_of whole list) inner.1) outer.1 where
        rising : (l : List Entry) → IsRisingList (length plan.stages) 0 (length (events ++ event ∷ [])) l
            → IsRising (length plan.stages) 0 (length events + 1) l
        rising [] h = tt
        rising (e ∷ l) h = subst (λ n. IsRising (length plan.stages) 0 n (e ∷ l)) (length-append events (event ∷ [])) h

        split : (stage : ℕ) → AreAmong events list ⊎ IsGrown events list → is_partial plan (events ++ event ∷ []) list ≡ true
            → waits plan (events ++ event ∷ []) list stage ≡ true
            → is_killed plan.skip items (taken_of (events ++ event ∷ []) list) ≡ false
            → is_time_left (limit_of plan (taken_of (events ++ event ∷ []) list)) (Some (At event.ts)) ≡ true → StartsFrom from list
        split stage (inl among) partial waiting alive left =
            let same = taken_of-append events (event ∷ []) list among in
            let was = sym (is_partial-append plan events (event ∷ []) list among) ∙ partial in
            let waited = (and_parts _ _ (sym (waits-old plan events event list among stage) ∙ waiting)).0 in
            living_starts list (is_live-waits plan events list stage was waited) (sym (ap (is_killed plan.skip items) same) ∙ alive)
            (left_before (limit_of plan (taken_of events list)) last (At event.ts) later
            (sym (ap (λ t. not (is_limit_reached (limit_of plan t) (At event.ts))) same) ∙ left))
        split stage (inr grown) partial waiting alive left = grown_starts event most later list partial grown alive
