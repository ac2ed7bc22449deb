-- A list with one more entry, and what an event that is taken has to meet.
use Rattle.std.proofs.Common.{◌≡◌, refl, sym, ◌∙◌, ap, ℕ, ◌<◌, arith, Bool, true, false, ◌&&◌, List, [], ◌∷◌, ◌++◌, length, length-append, nat_lt}
use Rattle.std.specs.Prelude.{Option, Some, None, IfSome}
use Rattle.std.specs.Option.{option_map_or}
use Rattle.std.proofs.lemmas.Bool.{lt-ltb}
use Rattle.std.proofs.lemmas.List.{get_or_push}
use Rattle.cep_event.specs.declared.event.Event.{Event}
use Rattle.cep_plan.specs.declared.plan.Plan.{Plan}
use Rattle.cep_plan.specs.declared.item.Taken.{Taken}
use Rattle.cep_plan.specs.Entry.{Entry, event_at, taken_at, taken_of, last_entry, stages_of, no_event}
use Rattle.cep_plan.specs.Follow.{may_follow}
use Rattle.cep_plan.specs.Candidate.{fits}
use Rattle.cep_plan.specs.Gap.{gap_holds}
use Rattle.cep_plan.specs.Limit.{limit_from, limit_behind, last_behind, is_below_limit, are_within, are_near, are_near_behind, are_in_time}
use Rattle.cep_plan.specs.Partial.{comes_later, extends, extends_all, has_entries, may_grow, is_partial, waits}
use Rattle.cep_plan.proofs.HistoryLaws.{extends_all-append}
use Rattle.cep_plan.proofs.LocalLaws.{AreAmong, taken_of-append, may_grow-append, gap_holds-append}
use Rattle.live_laws.specs.Survival.{comes_in_time, takes}
use Rattle.live_laws.proofs.BoolLaws.{and-true, and-assoc, and-crossed}
use Rattle.live_laws.proofs.LesserLaws.{below_lesser}
use Rattle.live_laws.proofs.GapLaws.{list_all-push}
use Rattle.live_laws.proofs.LastLaws.{last_or-each, taken_of-end}

-- each event but the first comes before the limit that its neighbour sets
are_near-push : (plan : Plan) (before : Taken) (taken : List Taken) (next : Taken)
    → are_near_behind plan before (taken ++ next ∷ []) ≡ (are_near_behind plan before taken
    && is_below_limit (limit_behind plan (last_behind before taken).event) next.event.ts)
are_near-push plan before [] next = and-true (is_below_limit (limit_behind plan before.event) next.event.ts)
are_near-push plan before (t ∷ taken) next =
    ap (λ b. is_below_limit (limit_behind plan before.event) t.event.ts && b) (are_near-push plan t taken next)
    ∙ sym (and-assoc (is_below_limit (limit_behind plan before.event) t.event.ts) (are_near_behind plan t taken)
    (is_below_limit (limit_behind plan (last_behind t taken).event) next.event.ts))

first_in_time : (b : Bool) → ((b && true) && true) ≡ ((true && true) && b)
first_in_time true = refl
first_in_time false = refl

-- one more taken event
are_in_time-push : (plan : Plan) (taken : List Taken) (next : Taken) → are_in_time plan (taken ++ next ∷ [])
    ≡ (are_in_time plan taken && comes_in_time plan taken next.event)
are_in_time-push plan [] next = first_in_time (comes_in_time plan [] next.event)
are_in_time-push plan (first ∷ later) next =
    let whole = limit_from plan first.event in
    let near = limit_behind plan (last_behind first later).event in
    (λ i. list_all-push (λ t. is_below_limit whole t.event.ts) (first ∷ later) next i && are_near-push plan first later next i)
    ∙ and-crossed (are_within plan (first ∷ later)) (is_below_limit whole next.event.ts) (are_near plan (first ∷ later)) (is_below_limit near next.event.ts)
    ∙ ap (λ b. are_in_time plan (first ∷ later) && b) (sym (below_lesser whole near next.event.ts))

crossed : (a x b w : Bool) → ((a && (x && true)) && (b && w)) ≡ ((a && b) && (x && w))
crossed a x b w = (λ i. (a && and-true x i) && (b && w)) ∙ and-crossed a x b w

-- a list grows by an entry that may come next
pub may_grow-push : (plan : Plan) (events : List Event) (list : List Entry) (next : Entry)
    → may_grow plan events (list ++ next ∷ [])
    ≡ (may_grow plan events list && (extends plan events list next && comes_in_time plan (taken_of events list) (event_at events next.position)))
unfolding may_grow
may_grow-push plan events list next =
    (λ i. extends_all-append plan events [] list (next ∷ []) i
    && (ap (are_in_time plan) (taken_of-end events list next) ∙ are_in_time-push plan (taken_of events list) (taken_at events next)) i)
    ∙ crossed (extends_all plan events [] list) (extends plan events list next) (are_in_time plan (taken_of events list))
    (comes_in_time plan (taken_of events list) (event_at events next.position))

pub has_entries-push : (list : List Entry) (next : Entry) → has_entries (list ++ next ∷ []) ≡ true
has_entries-push [] next = refl
has_entries-push (e ∷ list) next = refl

regrouped : (m f t g w : Bool) → (m && ((((f && true) && t) && g) && w)) ≡ ((m && (f && g)) && (t && w))
regrouped false f t g w = refl
regrouped true false t g w = refl
regrouped true true false true w = refl
regrouped true true false false w = refl
regrouped true true true true w = refl
regrouped true true true false w = refl

module _ (plan : Plan) (events : List Event) (event : Event) (list : List Entry) (among : AreAmong events list) where
  comes_after : (last : Option Entry) → IfSome last (λ e. e.position < length events) → option_map_or (λ e. nat_lt e.position (length events)) last true ≡ true
  comes_after None h = refl
  comes_after (Some last) h = lt-ltb last.position (length events) h

  at_new : event_at (events ++ event ∷ []) (length events) ≡ event
  at_new = get_or_push events event no_event (length events) refl

  inside : nat_lt (length events) (length (events ++ event ∷ [])) ≡ true
  inside = lt-ltb (length events) (length (events ++ event ∷ [])) (omega (arith, length-append events (event ∷ [])))

  comes_new : comes_later (events ++ event ∷ []) list (length events) ≡ true
  comes_new = λ i. inside i && comes_after (last_entry list) (last_or-each (λ e. e.position < length events) None list tt among) i

  -- The partial lists that end at the new event are those lists with one more entry that waited for its stage and take it.
  pub is_partial-grow : (stage : ℕ)
      → is_partial plan (events ++ event ∷ []) (list ++ record { stage = stage; position = length events } ∷ [])
      ≡ (waits plan events list stage && takes plan (taken_of events list) stage event (length events))
  unfolding takes waits is_partial
  is_partial-grow stage =
      let next : Entry = record { stage = stage; position = length events } in
      let taken = taken_of events list in
      (λ i. has_entries-push list next i && may_grow-push plan (events ++ event ∷ []) list next i)
      ∙ (λ i. may_grow-append plan events (event ∷ []) list among i
      && ((((may_follow plan (stages_of list) stage && comes_new i)
      && fits plan (taken_of-append events (event ∷ []) list among i) stage (at_new i) (length events))
      && gap_holds-append plan events (event ∷ []) list among stage (length events) (omega arith) i)
      && comes_in_time plan (taken_of-append events (event ∷ []) list among i) (at_new i)))
      ∙ regrouped (may_grow plan events list) (may_follow plan (stages_of list) stage) (fits plan taken stage event (length events))
      (gap_holds plan events list stage (length events)) (comes_in_time plan taken event)
