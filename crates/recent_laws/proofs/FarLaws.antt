-- The items of a tick whose lists start behind the first events are those that the later events alone give, moved.
use Rattle.std.proofs.Common.{◌≡◌, refl, sym, ◌∙◌, ap, ℕ, ◌+◌, Bool, true, false, not, ◌&&◌, cond, List, [], ◌∷◌, ◌++◌, map, length, length-append, append_assoc, arith, ◌⊎◌, inl, inr}
use Rattle.std.specs.Prelude.{filter, nat_le, ◌==◌, Option, Some, None, option_map}
use Rattle.std.specs.Option.{option_map_or}
use Rattle.std.proofs.lemmas.Bool.{le-leb, lt-leb}
use Rattle.std.proofs.lemmas.List.{map-append}
use Rattle.std.proofs.lemmas.Simd.{map-map}
use Rattle.cep_event.specs.declared.event.Event.{Event}
use Rattle.cep_event.specs.declared.record.Moment.{Moment}
use Rattle.cep_plan.specs.declared.plan.Plan.{Plan}
use Rattle.cep_plan.specs.declared.item.Taken.{Taken}
use Rattle.cep_plan.specs.declared.item.Item.{Item}
use Rattle.cep_plan.specs.declared.item.Item.TheVariants.{Match, Timeout}
use Rattle.cep_plan.specs.Entry.{Entry, taken_of, last_entry, stages_of}
use Rattle.cep_plan.specs.Follow.{is_full, end_stage}
use Rattle.cep_plan.specs.Limit.{limit_of, is_due}
use Rattle.cep_plan.specs.Partial.{is_partial, is_complete, is_open_for, is_live}
use Rattle.cep_plan.specs.Tick.{Tick, event_tick, mark_tick, time_of}
use Rattle.cep_plan.specs.Rising.{rising_lists}
use Rattle.cep_plan.specs.History.{lists_within, timeouts_at, closed_at, due_items, ends_at, matches_at, items_from}
use Rattle.cep_plan.specs.Skipping.{list_in}
use Rattle.recent_laws.specs.Moved.{moved_entry, moved, moved_taken, moved_item}
use Rattle.recent_laws.proofs.NumberLaws.{eqb-moved}
use Rattle.recent_laws.proofs.MovedLaws.{taken_of-moved, stages_of-moved, last_entry-moved, is_partial-moved, is_complete-moved, is_open_for-moved, is_live-moved, limit_of-list}
use Rattle.recent_laws.proofs.ListLaws.{filter-map}
use Rattle.recent_laws.proofs.BehindLaws.{filter-behind, filter-append}

-- a list starts at the position or behind it
abbrev pub starts_from : ℕ → List Entry → Bool
starts_from from [] = true
starts_from from (first ∷ _) = nat_le from first.position

abbrev pub is_from : ℕ → List Taken → Bool
is_from from [] = true
is_from from (first ∷ _) = nat_le from first.position

-- the item's list does
abbrev pub is_far : ℕ → Item → Bool
is_far from item = is_from from (list_in item)

pub starts_from-moved : (by : ℕ) (list : List Entry) → starts_from by (moved by list) ≡ true
starts_from-moved by [] = refl
starts_from-moved by (first ∷ list) = le-leb by (by + first.position) (omega arith)

pub is_from-of : (from : ℕ) (events : _) (list : List Entry) → is_from from (taken_of events list) ≡ starts_from from list
is_from-of from events [] = refl
is_from-of from events (first ∷ list) = refl

-- two tests, one after the other
filter_twice : {X : Type 0} (p q : X → Bool) (xs : List X) → filter p (filter q xs) ≡ filter (λ x. q x && p x) xs
filter_twice p q [] = refl
filter_twice p q (x ∷ xs) = here (q x) (filter_twice p q xs) where
  here : (b : Bool) → filter p (filter q xs) ≡ filter (λ x. q x && p x) xs
      → filter p (cond b (x ∷ filter q xs) (filter q xs)) ≡ cond (b && p x) (x ∷ filter (λ x. q x && p x) xs) (filter (λ x. q x && p x) xs)
  here true h = ap (λ l. cond (p x) (x ∷ l) l) h
  here false h = h

and_false : (b : Bool) → (b && false) ≡ false
and_false true = refl
and_false false = refl

and_true : (b : Bool) → (b && true) ≡ b
and_true true = refl
and_true false = refl

module _ (plan : Plan) (early later : List Event) (item : List Taken → Item) (holds : (t : List Taken) → list_in (item t) ≡ t)
    (moves : (t : List Taken) → moved_item (length early) (item t) ≡ item (moved_taken (length early) t)) where
  -- items of the lists that pass a test
  pub items_far : (test other : List Entry → Bool) → ((list : List Entry) → test (moved (length early) list) ≡ other list)
      → filter (is_far (length early)) (map (λ l. item (taken_of (early ++ later) l)) (filter test (lists_within plan (length (early ++ later)))))
      ≡ map (moved_item (length early)) (map (λ l. item (taken_of later l)) (filter other (lists_within plan (length later))))
  items_far test other same =
      let d = length early in
      let whole = early ++ later in
      let all = lists_within plan (length whole) in
      let few = lists_within plan (length later) in
      filter-map (λ l. item (taken_of whole l)) (is_far d) (filter test all)
      ∙ ap (λ p. map (λ l. item (taken_of whole l)) (filter p (filter test all))) (λ i l. (ap (is_from d) (holds (taken_of whole l)) ∙ is_from-of d whole l) i)
      ∙ ap (map (λ l. item (taken_of whole l))) (
      filter_twice (starts_from d) test all
      ∙ filter-behind (λ l. test l && starts_from d l) plan early later (λ first rest lt. ap (λ b. test (first ∷ rest) && b) (lt-leb d first.position lt)
      ∙ and_false (test (first ∷ rest)))
      ∙ ap (λ p. map (moved d) (filter p few)) (λ i l. (ap (λ b. test (moved d l) && b) (starts_from-moved d l) ∙ and_true (test (moved d l)) ∙ same l) i)
      )
      ∙ map-map (λ l. item (taken_of whole l)) (moved d) (filter other few)
      ∙ ap (λ f. map f (filter other few)) (λ i l. (ap item (taken_of-moved early later l) ∙ sym (moves (taken_of later l))) i)
      ∙ sym (map-map (moved_item d) (λ l. item (taken_of later l)) (filter other few))

-- ---- the lists whose limit is reached

module _ (plan : Plan) (early later : List Event) (before other : Option Moment) (now : Moment) (agree : before ≡ other) where
  timeouts_far : filter (is_far (length early)) (map (λ l. Timeout (taken_of (early ++ later) l)) (timeouts_at plan (early ++ later) before now))
      ≡ map (moved_item (length early)) (map (λ l. Timeout (taken_of later l)) (timeouts_at plan later other now))
  timeouts_far =
      items_far plan early later Timeout (λ t. refl) (λ t. refl)
      (λ list. is_due (limit_of plan (taken_of (early ++ later) list)) before now && is_live plan (early ++ later) list
      && not (is_full plan (stages_of list)) && not (is_open_for plan (early ++ later) list (end_stage plan)))
      (λ list. is_due (limit_of plan (taken_of later list)) other now && is_live plan later list && not (is_full plan (stages_of list))
      && not (is_open_for plan later list (end_stage plan)))
      (λ list i. is_due (limit_of-list plan early later list i) (agree i) now && is_live-moved plan early later list i
      && not (is_full plan (stages_of-moved (length early) list i)) && not (is_open_for-moved plan early later list (end_stage plan) i))

  closed_far : filter (is_far (length early)) (map (λ l. Match (taken_of (early ++ later) l)) (closed_at plan (early ++ later) before now))
      ≡ map (moved_item (length early)) (map (λ l. Match (taken_of later l)) (closed_at plan later other now))
  closed_far =
      items_far plan early later Match (λ t. refl) (λ t. refl)
      (λ list. is_due (limit_of plan (taken_of (early ++ later) list)) before now && is_partial plan (early ++ later) list
      && is_open_for plan (early ++ later) list (end_stage plan))
      (λ list. is_due (limit_of plan (taken_of later list)) other now && is_partial plan later list && is_open_for plan later list (end_stage plan))
      (λ list i. is_due (limit_of-list plan early later list i) (agree i) now && is_partial-moved plan early later list i
      && is_open_for-moved plan early later list (end_stage plan) i)

  due_agree : filter (is_far (length early)) (due_items plan (early ++ later) before now) ≡ map (moved_item (length early)) (due_items plan later other now)
  due_agree =
      filter-append (is_far (length early)) (map (λ l. Timeout (taken_of (early ++ later) l)) (timeouts_at plan (early ++ later) before now))
      (map (λ l. Match (taken_of (early ++ later) l)) (closed_at plan (early ++ later) before now))
      ∙ (λ i. timeouts_far i ++ closed_far i)
      ∙ sym (map-append (moved_item (length early)) (map (λ l. Timeout (taken_of later l)) (timeouts_at plan later other now))
      (map (λ l. Match (taken_of later l)) (closed_at plan later other now)))

-- where there is no later event nothing is due, whatever the tick before
pub due_nothing : (plan : Plan) (before now : _) → due_items plan [] before now ≡ []
unfolding rising_lists
due_nothing plan before now = refl

pub due_far : (plan : Plan) (early later : List Event) (before other : Option Moment) (now : Moment) → (before ≡ other) ⊎ (later ≡ [])
    → filter (is_far (length early)) (due_items plan (early ++ later) before now) ≡ map (moved_item (length early)) (due_items plan later other now)
due_far plan early later before other now (inl agree) = due_agree plan early later before other now agree
due_far plan early later before other now (inr none) =
    due_agree plan early later before before now refl
    ∙ ap (map (moved_item (length early))) (ap (λ l. due_items plan l before now) none ∙ due_nothing plan before now ∙ sym (due_nothing plan other now)
    ∙ sym (ap (λ l. due_items plan l other now) none))

-- ---- the lists that the event completes

module _ (plan : Plan) (early later : List Event) (event : Event) where
  pub matches_far : filter (is_far (length early)) (map (λ l. Match (taken_of (early ++ later ++ event ∷ []) l)) (matches_at plan (early ++ later) event))
      ≡ map (moved_item (length early)) (map (λ l. Match (taken_of (later ++ event ∷ []) l)) (matches_at plan later event))
  matches_far =
      let d = length early in
      let whole = early ++ later in
      let young = later ++ event ∷ [] in
      let same : (early ++ later) ++ event ∷ [] ≡ early ++ young = append_assoc early later (event ∷ []) in
      let more : length whole + 1 ≡ length (early ++ young) = omega (
        arith,
        length-append early later,
        length-append early young,
        length-append later
            (event ∷ []),
      ) in
      let one : length young ≡ length later + 1 = length-append later (event ∷ []) in
      (λ i. filter (is_far d) (map (λ l. Match (taken_of (same i) l)) (filter (λ l. ends_at (length whole) l && is_complete plan (same i) l)
      (lists_within plan (more i)))))
      ∙ items_far plan early young Match (λ t. refl) (λ t. refl)
      (λ l. ends_at (length whole) l && is_complete plan (early ++ young) l)
      (λ l. ends_at (length later) l && is_complete plan young l)
      (λ l i. ends l i && is_complete-moved plan early young l i)
      ∙ (λ i. map (moved_item d) (map (λ l. Match (taken_of young l)) (filter (λ l. ends_at (length later) l && is_complete plan young l)
      (lists_within plan (one i))))) where
        ends : (list : List Entry) → ends_at (length (early ++ later)) (moved (length early) list) ≡ ends_at (length later) list
        ends list =
            ap (λ n. ends_at n (moved (length early) list)) (length-append early later)
            ∙ ap (λ o. option_map_or (λ (last : Entry). last.position == length early + length later) o false) (last_entry-moved early later list)
            ∙ after (last_entry list) where
              after : (o : Option Entry) → option_map_or (λ (last : Entry). last.position == length early + length later)
                  (option_map (moved_entry (length early)) o) false ≡ option_map_or (λ last. last.position == length later) o false
              after None = refl
              after (Some last) = eqb-moved (length early) last.position (length later)

-- Pass 1 for a tick: of what it gives over all events, what starts behind the first ones is what it gives over the later ones.
pub items_from-far : (plan : Plan) (early later : List Event) (before other : Option Moment) → (before ≡ other) ⊎ (later ≡ []) → (tick : Tick)
    → filter (is_far (length early)) (items_from plan (early ++ later) before tick) ≡ map (moved_item (length early)) (items_from plan later other tick)
items_from-far plan early later before other agree (event_tick event) =
    filter-append (is_far (length early)) (due_items plan (early ++ later) before (time_of (event_tick event)))
    (map (λ l. Match (taken_of (early ++ later ++ event ∷ []) l)) (matches_at plan (early ++ later) event))
    ∙ (λ i. due_far plan early later before other (time_of (event_tick event)) agree i ++ matches_far plan early later event i)
    ∙ sym (map-append (moved_item (length early)) (due_items plan later other (time_of (event_tick event)))
    (map (λ l. Match (taken_of (later ++ event ∷ []) l)) (matches_at plan later event)))
items_from-far plan early later before other agree (mark_tick moment) = due_far plan early later before other moment agree
