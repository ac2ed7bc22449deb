-- Pass 2, over ticks: what the next tick tells starts from the position on, and so does what is living after it.
use Rattle.std.proofs.Common.{◌≡◌, sym, ◌∙◌, ap, subst, ℕ, ◌≤◌, true, false, List, [], ◌∷◌, ◌++◌, map, length}
use Rattle.std.specs.Prelude.{Some, None, option_map}
use Rattle.std.specs.List.{AllByRecursion as Each}
use Rattle.std.proofs.lemmas.List.{append-nil}
use Rattle.std.proofs.lemmas.List.Elements.{filter_map-append}
use Rattle.cep_event.specs.declared.event.Event.{Event}
use Rattle.cep_event.specs.declared.record.Moment.{Moment}
use Rattle.cep_event.specs.declared.record.Moment.TheVariants.{At}
use Rattle.cep_plan.specs.declared.plan.Plan.{Plan}
use Rattle.cep_plan.specs.declared.item.Item.TheVariants.{Match}
use Rattle.cep_plan.specs.Entry.{taken_of}
use Rattle.cep_plan.specs.Tick.{Tick, event_tick, mark_tick, event_in, time_of, events_of, last_time}
use Rattle.cep_plan.specs.History.{history, items_at, due_items, matches_at, lists_within}
use Rattle.cep_plan.specs.Skipping.{list_in, is_killed, kept, kept_after}
use Rattle.cep_plan.specs.Living.{is_living, living}
use Rattle.cep_plan.specs.Keys.{kept_of, kept_at}
use Rattle.cep_plan.proofs.RisingLaws.{Each-append}
use Rattle.cep_plan.proofs.FilteredLaws.{Contains-from_filter}
use Rattle.cep_plan.proofs.HistoryLaws.{history-push, kept_after-append}
use Rattle.live_laws.proofs.LastLaws.{last_or-push}
use Rattle.live_laws.proofs.MemberLaws.{Each-from_contains}
use Rattle.recent_laws.specs.Law.{StartsFrom, ComesLater}
use Rattle.recent_laws.proofs.FarLaws.{is_far}
use Rattle.recent_laws.proofs.OldLaws.{kept_after-each, due_starts, complete_starts, mark_starts, event_starts}

-- ---- one more tick

pub events_of-event : (ticks : List Tick) (event : Event) → events_of (ticks ++ event_tick event ∷ []) ≡ events_of ticks ++ event ∷ []
events_of-event ticks event = filter_map-append event_in ticks (event_tick event ∷ [])

pub events_of-mark : (ticks : List Tick) (moment : Moment) → events_of (ticks ++ mark_tick moment ∷ []) ≡ events_of ticks
events_of-mark ticks moment = filter_map-append event_in ticks (mark_tick moment ∷ []) ∙ append-nil (events_of ticks)

pub last_time-push : (ticks : List Tick) (tick : Tick) → last_time (ticks ++ tick ∷ []) ≡ Some (time_of tick)
last_time-push ticks tick = ap (option_map time_of) (last_or-push None ticks tick)

pub kept_of-push : (plan : Plan) (ticks : List Tick) (tick : Tick) → kept_of plan (ticks ++ tick ∷ []) ≡ kept_of plan ticks ++ kept_at plan ticks tick
unfolding kept
kept_of-push plan ticks tick = ap (kept_after plan.skip []) (history-push plan ticks tick)
    ∙ kept_after-append plan.skip [] (history plan ticks) (items_at plan ticks tick)

-- ---- from the position on

module _ (plan : Plan) (ticks : List Tick) (from : ℕ) (starts : Each (StartsFrom from) (living plan ticks)) (most : from ≤ length (events_of ticks)) where
  pub kept_at-starts : (tick : Tick) → ComesLater ticks (time_of tick) → Each (λ z. is_far from z ≡ true) (kept_at plan ticks tick)
  unfolding items_at living
  kept_at-starts (event_tick event) later =
      let events = events_of ticks in
      let items = kept_of plan ticks in
      let due = due_items plan events (last_time ticks) (At event.ts) in
      let matches = map (λ l. Match (taken_of (events ++ event ∷ []) l)) (matches_at plan events event) in
      subst (λ l. Each (λ z. is_far from z ≡ true) (kept_after plan.skip l (due ++ matches))) (append-nil items)
      (kept_after-each (λ z. is_far from z ≡ true) plan.skip items [] (due ++ matches)
      (Each-append (λ z. is_killed plan.skip items (list_in z) ≡ false → is_far from z ≡ true) due matches
      (due_starts plan events items (last_time ticks) from starts (At event.ts))
      (complete_starts plan events items (last_time ticks) from starts event most later)))
  kept_at-starts (mark_tick moment) later =
      let events = events_of ticks in
      let items = kept_of plan ticks in
      let due = due_items plan events (last_time ticks) moment in
      subst (λ l. Each (λ z. is_far from z ≡ true) (kept_after plan.skip l due)) (append-nil items)
      (kept_after-each (λ z. is_far from z ≡ true) plan.skip items [] due (due_starts plan events items (last_time ticks) from starts moment))

  pub living-starts : (tick : Tick) → ComesLater ticks (time_of tick) → Each (StartsFrom from) (living plan (ticks ++ tick ∷ []))
  unfolding living
  living-starts (event_tick event) later =
      let items = kept_of plan ticks in
      let more = kept_at plan ticks (event_tick event) in
      Each-from_contains (StartsFrom from) (living plan (ticks ++ event_tick event ∷ []))
      (λ list q. event_starts plan (events_of ticks) items (last_time ticks) from starts event most later more list
      ((λ i. is_living plan (sym (events_of-event ticks event) i) (sym (kept_of-push plan ticks (event_tick event)) i)
      (sym (last_time-push ticks (event_tick event)) i) list)
      ∙ (Contains-from_filter _ (lists_within plan (length (events_of (ticks ++ event_tick event ∷ [])))) list q).1))
  living-starts (mark_tick moment) later =
      let items = kept_of plan ticks in
      let more = kept_at plan ticks (mark_tick moment) in
      Each-from_contains (StartsFrom from) (living plan (ticks ++ mark_tick moment ∷ []))
      (λ list q. mark_starts plan (events_of ticks) items (last_time ticks) from starts moment later more list
      ((λ i. is_living plan (sym (events_of-mark ticks moment) i) (sym (kept_of-push plan ticks (mark_tick moment)) i)
      (sym (last_time-push ticks (mark_tick moment)) i) list)
      ∙ (Contains-from_filter _ (lists_within plan (length (events_of (ticks ++ mark_tick moment ∷ [])))) list q).1))
