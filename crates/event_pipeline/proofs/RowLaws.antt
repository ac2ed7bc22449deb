-- Events wait with rows that came before.
use Rattle.std.proofs.Common.{◌≡◌, refl, sym, ◌∙◌, ap, subst, ℕ, ◌<◌, Bool, true, false, cond, not, List, [], ◌∷◌, ◌++◌, Option, Some, None}
use Rattle.std.specs.Prelude.{ℤ, filter, ◌-ℤ◌, pos, negsuc, int_le, ◌^◌, ◌-◌}
use Rattle.std.specs.List.{AllByRecursion as Each}
use Rattle.cep_event.specs.declared.event.Event.{Event}
use Rattle.cep_event.specs.declared.record.LineRecord.{LineRecord}
use Rattle.cep_event.specs.declared.record.LineRecord.TheVariants.{Blank, Mark, Row}
use Rattle.cep_plan.specs.EventTime.{Arrival, arrived, marked, events_among, arrivals_after, arrivals_of, marks_behind, greatest_from, is_passed}
use Rattle.live_laws.proofs.MemberLaws.{Each-filter}
use Rattle.watermark_order.specs.Order.{order_of}
use Rattle.watermark_order.proofs.TimeLaws.{each-order}
use Rattle.event_pipeline.specs.Running.{HasRowBelow, ComesBehind, ComesBehindWaiting}

events-append : (xs ys : List Arrival) → events_among (xs ++ ys) ≡ events_among xs ++ events_among ys
events-append [] ys = refl
events-append (arrived e ∷ xs) ys = ap (λ l. e ∷ l) (events-append xs ys)
events-append (marked t ∷ xs) ys = events-append xs ys

no_event : (b : Bool) (t : ℤ) → events_among (cond b (marked t ∷ []) []) ≡ []
no_event true t = refl
no_event false t = refl

no_events : (lag : Option ℕ) (earlier : List ℤ) (time : ℤ) → events_among (marks_behind lag earlier time) ≡ []
no_events None earlier time = refl
no_events (Some lag) earlier time =
    let t = greatest_from time earlier -ℤ pos lag -ℤ pos 1 in no_event (int_le (negsuc (2 ^ 63 - 1)) t) t

abbrev Below : ℕ → List Event → Type 0
Below row events = Each (λ (e : Event). e.row < row) events

rows_below : (row : ℕ) (lag : Option ℕ) (earlier : List ℤ) (records : List LineRecord) → Each (HasRowBelow row) records
    → Below row (events_among (arrivals_after lag earlier records))
rows_below row lag earlier [] h = tt
rows_below row lag earlier (Blank ∷ records) h = rows_below row lag earlier records h.1
rows_below row lag earlier (Mark time ∷ records) h = rows_below row lag earlier records h.1
rows_below row lag earlier (Row event ∷ records) h =
    let behind = marks_behind lag earlier event.ts in
    let rest = arrivals_after lag (event.ts ∷ earlier) records in
    let all : events_among (behind ++ rest) ≡ events_among rest = events-append behind rest
    ∙ ap (λ l. l ++ events_among rest) (no_events lag earlier event.ts) in
    (h.0, subst (Below row) (sym all) (rows_below row lag (event.ts ∷ earlier) records h.1))

waiting_below : (row : ℕ) (lag : Option ℕ) (records : List LineRecord) → Each (HasRowBelow row) records
    → Below row (order_of lag (arrivals_of lag records)).waiting
unfolding order_of
waiting_below row lag records h =
    let arrivals = arrivals_of lag records in
    each-order (λ (e : Event). e.row < row) (filter (λ event. not (is_passed arrivals event)) (events_among arrivals))
    (Each-filter (λ (e : Event). e.row < row) (λ event. not (is_passed arrivals event)) (events_among arrivals) (rows_below row lag [] records h))

-- a record whose event has a row above those before comes behind the events that wait
pub behind_waiting : (lag : Option ℕ) (records : List LineRecord) (next : LineRecord) (waiting : List Event)
    → waiting ≡ (order_of lag (arrivals_of lag records)).waiting → ComesBehind records next → ComesBehindWaiting waiting next
behind_waiting lag records Blank waiting same h = tt
behind_waiting lag records (Mark time) waiting same h = tt
behind_waiting lag records (Row event) waiting same h = subst (Below event.row) (sym same) (waiting_below event.row lag records h)
