-- A match ends below its time limit: lists whose limit is reached can be left out before the event.
use Rattle.std.proofs.Common.{◌≡◌, refl, sym, ◌∙◌, ap, ℕ, ◌+◌, Bool, true, false, not, ◌&&◌, List, [], ◌∷◌, ◌++◌, length}
use Rattle.std.specs.Prelude.{Contains, filter, ℤ, Option, Some, None}
use Rattle.std.proofs.lemmas.Bool.{and_parts}
use Rattle.std.proofs.lemmas.List.{get_or_push}
use Rattle.cep_event.specs.declared.event.Event.{Event}
use Rattle.cep_event.specs.Moment.{has_reached}
use Rattle.cep_event.specs.declared.record.Moment.{Moment}
use Rattle.cep_plan.specs.declared.plan.Plan.{Plan}
use Rattle.cep_plan.specs.Entry.{Entry, event_at, taken_at, taken_of, stages_of, no_event}
use Rattle.cep_plan.specs.Limit.{limit_from, limit_behind, last_behind, is_below_limit, is_limit_reached, is_due, is_time_left}
use Rattle.cep_plan.specs.Follow.{is_full}
use Rattle.cep_plan.specs.Partial.{extends, may_grow, is_partial, is_complete}
use Rattle.cep_plan.specs.Rising.{rising_lists}
use Rattle.cep_plan.specs.History.{ends_at, matches_at}
use Rattle.cep_plan.proofs.FilteredLaws.{Contains-from_filter}
use Rattle.live_laws.specs.Survival.{comes_in_time}
use Rattle.live_laws.specs.Starts.{begins_in, first_limit}
use Rattle.live_laws.proofs.LesserLaws.{below_lesser}
use Rattle.live_laws.proofs.GrowthLaws.{may_grow-push}
use Rattle.live_laws.proofs.PartialLaws.{IsGrown, is_partial-may_grow}
use Rattle.live_laws.proofs.BoolLaws.{and-true}
use Rattle.live_laws.proofs.MemberLaws.{Each-from_contains, filter-same}
use Rattle.live_laws.proofs.AnswerLaws.{grown_from_end}

within_limit : (plan : Plan) (events : List Event) (list : List Entry) (next : Entry)
    → comes_in_time plan (taken_of events list) (event_at events next.position) ≡ true
    → is_below_limit (first_limit plan (taken_of events (list ++ next ∷ []))) (event_at events next.position).ts ≡ true
within_limit plan events [] next h = h
within_limit plan events (first ∷ later) next h =
    let whole = limit_from plan (event_at events first.position) in
    let near = limit_behind plan (last_behind (taken_at events first) (taken_of events later)).event in
    (and_parts (is_below_limit whole (event_at events next.position).ts) (is_below_limit near (event_at events next.position).ts)
    (sym (below_lesser whole near (event_at events next.position).ts) ∙ h)).0

-- a partial list that ends at the event
is_partial-in_time : (plan : Plan) (events : List Event) (event : Event) (list : List Entry) → is_partial plan (events ++ event ∷ []) list ≡ true
    → IsGrown events list
    → is_below_limit (first_limit plan (taken_of (events ++ event ∷ []) list)) event.ts ≡ true
is_partial-in_time plan events event list partial (before, stage, is, among) =
    let next : Entry = record { stage = stage; position = length events } in
    let whole = events ++ event ∷ [] in
    let grown : (may_grow plan whole before && (extends plan whole before next
    && comes_in_time plan (taken_of whole before) (event_at whole next.position))) ≡ true =
    sym (may_grow-push plan whole before next) ∙ sym (ap (may_grow plan whole) is) ∙ is_partial-may_grow plan whole list partial in
    let within = (and_parts (extends plan whole before next) (comes_in_time plan (taken_of whole before) (event_at whole next.position))
    (and_parts (may_grow plan whole before) _ grown).1).1 in
    (λ i. is_below_limit (first_limit plan (taken_of whole (is i))) (sym (get_or_push events event no_event (length events) refl) i).ts)
    ∙ within_limit plan whole before next within

pub matches_at-in_time : (plan : Plan) (events : List Event) (event : Event) (list : List Entry) → Contains (matches_at plan events event) list
    → is_below_limit (first_limit plan (taken_of (events ++ event ∷ []) list)) event.ts ≡ true
unfolding is_complete
matches_at-in_time plan events event list q =
    let test : List Entry → Bool = λ l. ends_at (length events) l && (is_partial plan (events ++ event ∷ []) l && is_full plan (stages_of l)) in
    let both = and_parts (ends_at (length events) list) (is_partial plan (events ++ event ∷ []) list && is_full plan (stages_of list))
    (Contains-from_filter test (rising_lists (length plan.stages) 0 (length events + 1)) list q).1 in
    let partial = (and_parts (is_partial plan (events ++ event ∷ []) list) (is_full plan (stages_of list)) both.1).0 in
    is_partial-in_time plan events event list partial (grown_from_end plan events event list partial both.0)

-- Leaving out starts whose limit the event has reached leaves out no match.
pub matches_at-late : (plan : Plan) (events : List Event) (event : Event) (starts late : ℕ → Bool)
    → ((first : Entry) → late first.position ≡ true → is_below_limit (limit_from plan (event_at (events ++ event ∷ []) first.position)) event.ts ≡ false)
    → filter (begins_in (λ p. starts p && not (late p))) (matches_at plan events event) ≡ filter (begins_in starts) (matches_at plan events event)
matches_at-late plan events event starts late over =
    filter-same (begins_in (λ p. starts p && not (late p))) (begins_in starts) (matches_at plan events event)
    (Each-from_contains (λ list. begins_in (λ p. starts p && not (late p)) list ≡ begins_in starts list) (matches_at plan events event)
    (λ list q. early list (matches_at-in_time plan events event list q))) where
      decided : (first : Entry) (b : Bool) → late first.position ≡ b
          → is_below_limit (limit_from plan (event_at (events ++ event ∷ []) first.position)) event.ts ≡ true
          → (starts first.position && not b) ≡ starts first.position
      decided first true is below = let no : true ≡ false = sym below ∙ over first is in absurd cc
      decided first false is below = and-true (starts first.position)

      early : (list : List Entry) → is_below_limit (first_limit plan (taken_of (events ++ event ∷ []) list)) event.ts ≡ true
          → begins_in (λ p. starts p && not (late p)) list ≡ begins_in starts list
      early [] below = refl
      early (first ∷ later) below = decided first (late first.position) refl below

-- Where the time doesn't fall, those that had time left and aren't due have time left now.
pub is_time_left-due : (limit : Option ℤ) (last now : Moment) → ((time : ℤ) → has_reached last time ≡ true → has_reached now time ≡ true)
    → (is_time_left limit (Some last) && not (is_due limit (Some last) now)) ≡ is_time_left limit (Some now)
is_time_left-due limit last now later = by_tests (is_limit_reached limit last) (is_limit_reached limit now) (stays limit) where
  stays : (l : Option ℤ) → is_limit_reached l last ≡ true → is_limit_reached l now ≡ true
  stays None h = h
  stays (Some time) h = later time h

  by_tests : (a b : Bool) → (a ≡ true → b ≡ true) → (not a && not (not a && b)) ≡ not b
  by_tests true b h = sym (ap not (h refl))
  by_tests false b h = refl
