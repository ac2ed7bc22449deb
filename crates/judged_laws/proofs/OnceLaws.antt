-- No two ticks give a list: its last event comes at one tick alone, and its limit is first reached at one.
use Rattle.std.proofs.Common.{◌≡◌, refl, sym, ◌∙◌, ap, subst, ℕ, ℤ, ◌<◌, arith, Bool, cond, true, false, not, ◌&&◌, List, [], ◌∷◌, ◌++◌, length, length-append, append_assoc}
use Rattle.std.specs.Prelude.{IfSome, Option, Some, None, ◌==◌}
use Rattle.std.specs.Option.{option_map_or}
use Rattle.std.proofs.lemmas.Bool.{and_parts, and_right, eqb-true, ne_eqb}
use Rattle.std.proofs.lemmas.List.{append-nil}
use Rattle.std.proofs.lemmas.List.Elements.{filter_map-append}
use Rattle.cep_event.specs.declared.record.Moment.{Moment}
use Rattle.cep_event.specs.Moment.{has_reached}
use Rattle.cep_plan.specs.Entry.{Entry, taken_of, last_entry, stages_of}
use Rattle.cep_plan.specs.Follow.{is_full}
use Rattle.cep_plan.specs.Limit.{limit_of, is_due}
use Rattle.cep_plan.specs.Tick.{Tick, event_tick, mark_tick, event_in, time_of, events_of, last_time}
use Rattle.cep_plan.specs.History.{ends_at}
use Rattle.recent_laws.specs.Law.{NeverFall}
use Rattle.recent_laws.proofs.CutLaws.{never_front, never_behind}
use Rattle.recent_laws.proofs.NextLaws.{last_time-push}
use Rattle.judged_laws.specs.Found.{is_end_of, ends_below, GivenOnce}

-- a limit that is reached at the last tick is reached at the last of more
stays_reached : (limit : ℤ) (before rest : List Tick) (last : Moment) → last_time before ≡ Some last → has_reached last limit ≡ true
    → NeverFall before rest → (now : Moment) × (last_time (before ++ rest) ≡ Some now) × (has_reached now limit ≡ true)
stays_reached limit before [] last is r h = (last, ap last_time (append-nil before) ∙ is, r)
stays_reached limit before (tick ∷ rest) last is r h =
    let now = subst (λ o. IfSome o (λ earlier. (t : ℤ) → has_reached earlier t ≡ true → has_reached (time_of tick) t ≡ true)) is h.0 limit r in
    let found = stays_reached limit (before ++ tick ∷ []) rest (time_of tick) (last_time-push before tick) now h.1 in
    (found.0, sym (ap last_time (append_assoc before (tick ∷ []) rest)) ∙ found.1, found.2)

-- a limit is due once
due_once : (before : List Tick) (tick : Tick) (between : List Tick) (again : Moment) → NeverFall (before ++ tick ∷ []) between → (limit : Option ℤ)
    → (last : Option Moment) → is_due limit last (time_of tick) ≡ true → is_due limit (last_time (before ++ tick ∷ between)) again ≡ false
due_once before tick between again never limit None h = let wrong : false ≡ true = h in absurd cc
due_once before tick between again never None (Some last) h = let wrong : false ≡ true = h in absurd cc
due_once before tick between again never (Some limit) (Some last) h =
    let reached = (and_parts (not (has_reached last limit)) (has_reached (time_of tick) limit) h).1 in
    let found = stays_reached limit (before ++ tick ∷ []) between (time_of tick) (last_time-push before tick) reached never in
    ap (λ o. is_due (Some limit) o again) (sym (ap last_time (append_assoc before (tick ∷ []) between)) ∙ found.1)
    ∙ ap (λ b. not b && has_reached again limit) found.2

-- a list ends at one event
ends_once : (low high : ℕ) (list : List Entry) → low < high → ends_at low list ≡ true → ends_at high list ≡ false
ends_once low high list lt h = after (last_entry list) h where
  after : (last : Option Entry) → option_map_or (λ l. l.position == low) last false ≡ true → option_map_or (λ l. l.position == high) last false ≡ false
  after None h = refl
  after (Some last) h = let same : last.position ≡ low = eqb-true last.position low h in ne_eqb last.position high (λ other. omega (arith, same, other, lt))

end_once : (list : List Entry) (before : List Tick) (tick : Tick) (between : List Tick) (again : Tick)
    → is_end_of list (length (events_of before)) tick ≡ true → is_end_of list (length (events_of (before ++ tick ∷ between))) again ≡ false
end_once list before (mark_tick moment) between again h = let wrong : false ≡ true = h in absurd cc
end_once list before (event_tick event) between (mark_tick moment) h = refl
end_once list before (event_tick event) between (event_tick other) h =
    let all : events_of (before ++ event_tick event ∷ between) ≡ events_of before ++ event ∷ events_of between =
    filter_map-append event_in before (event_tick event ∷ between) in
    let count = length-append (events_of before) (event ∷ events_of between) in
    ends_once (length (events_of before)) (length (events_of (before ++ event_tick event ∷ between))) list
    (omega (arith, ap length all, count)) h

pub given_once : GivenOnce
given_once plan before tick between again never events list h = decided (is_full plan (stages_of list)) h where
  decided : (full : Bool) → cond full (is_end_of list (length (events_of before)) tick)
      (ends_below (length (events_of before)) list && is_due (limit_of plan (taken_of events list)) (last_time before) (time_of tick)) ≡ true
      → cond full (is_end_of list (length (events_of (before ++ tick ∷ between))) again)
      (ends_below (length (events_of (before ++ tick ∷ between))) list
      && is_due (limit_of plan (taken_of events list)) (last_time (before ++ tick ∷ between)) (time_of again)) ≡ false
  decided true h = end_once list before tick between again h
  decided false h =
      let behind = (never_behind [] before (tick ∷ between) (never_front [] (before ++ tick ∷ between) (again ∷ []) never)).1 in
      and_right _ _ (due_once before tick between (time_of again) behind (limit_of plan (taken_of events list)) (last_time before)
      (and_parts (ends_below (length (events_of before)) list) _ h).1)
