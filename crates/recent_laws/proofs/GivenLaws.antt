-- Each match that a tick gives is a match among all events: later events are at its limit or behind it.
use Rattle.std.proofs.Common.{◌≡◌, refl, sym, ◌∙◌, ap, subst, append_assoc, ℤ, arith, int_le, true, false, not, ◌&&◌, List, [], ◌∷◌, ◌++◌, map, length, ◌+◌}
use Rattle.std.specs.Prelude.{⊤, IfSome, Option, Some, None}
use Rattle.std.specs.List.{AllByRecursion as Each}
use Rattle.std.proofs.lemmas.Bool.{and_parts, and_from, or_left, not-true}
use Rattle.std.proofs.lemmas.Int.{ints}
use Rattle.std.proofs.lemmas.List.{append-nil}
use Rattle.std.proofs.lemmas.List.Elements.{filter_map-append}
use Rattle.cep_event.specs.declared.event.Event.{Event}
use Rattle.cep_event.specs.declared.record.Moment.{Moment}
use Rattle.cep_event.specs.declared.record.Moment.TheVariants.{At, End}
use Rattle.cep_event.specs.Moment.{has_reached}
use Rattle.cep_plan.specs.declared.plan.Plan.{Plan}
use Rattle.cep_plan.specs.declared.item.Item.TheVariants.{Match, Timeout}
use Rattle.cep_plan.specs.Entry.{Entry, taken_of, stages_of}
use Rattle.cep_plan.specs.Follow.{end_stage, is_full}
use Rattle.cep_plan.specs.Limit.{limit_of, is_below_limit, is_due}
use Rattle.cep_plan.specs.Partial.{is_partial, is_complete, is_match, is_open_for, closes}
use Rattle.cep_plan.specs.Tick.{Tick, event_tick, mark_tick, event_in, time_of, events_of, last_time}
use Rattle.cep_plan.specs.History.{lists_within, timeouts_at, closed_at, due_items, ends_at, matches_at, items_at, items_from}
use Rattle.cep_plan.proofs.RisingLaws.{Each-append, Each-map}
use Rattle.cep_plan.proofs.FilteredLaws.{Contains-from_filter}
use Rattle.cep_plan.proofs.LocalLaws.{AreAmong, taken_of-append, is_partial-append}
use Rattle.cep_plan.proofs.ClosingLaws.{closed-is_match}
use Rattle.live_laws.proofs.MemberLaws.{Each-from_contains}
use Rattle.live_laws.proofs.PartialLaws.{is_partial-may_grow, may_grow-among}
use Rattle.recent_laws.specs.Law.{ComesLater, NeverFall}
use Rattle.recent_laws.specs.Given.{IsMatchAmong, GivesMatches}
use Rattle.recent_laws.proofs.CutLaws.{never_front, never_behind}
use Rattle.recent_laws.proofs.NextLaws.{events_of-event, events_of-mark, last_time-push}

-- ---- the times of events

at_itself : (t : ℤ) → int_le t t ≡ true
at_itself t = grind (arith, ints)

pub Each-also : (P Q : Event → Type 0) → ((e : Event) → P e → Q e) → (events : List Event) → Each P events → Each Q events
Each-also P Q f [] h = tt
Each-also P Q f (e ∷ events) h = (f e h.0, Each-also P Q f events h.1)

abbrev pub AllReached : List Tick → Type 0
AllReached ticks = (now : Moment) → ComesLater ticks now → Each (λ e. has_reached now e.ts ≡ true) (events_of ticks)

reached_push : (ticks : List Tick) (tick : Tick) → AllReached ticks → ComesLater ticks (time_of tick) → AllReached (ticks ++ tick ∷ [])
reached_push ticks (event_tick event) all later now c =
    let after : (t : ℤ) → has_reached (At event.ts) t ≡ true → has_reached now t
    ≡ true = subst (λ o. IfSome o (λ earlier. (t : ℤ) → has_reached earlier t ≡ true → has_reached now t ≡ true))
    (last_time-push ticks (event_tick event)) c in
    subst (Each (λ e. has_reached now e.ts ≡ true)) (sym (events_of-event ticks event))
    (Each-append (λ e. has_reached now e.ts ≡ true) (events_of ticks) (event ∷ [])
    (Each-also (λ e. has_reached (At event.ts) e.ts ≡ true) (λ e. has_reached now e.ts ≡ true) (λ e r. after e.ts r) (events_of ticks)
    (all (At event.ts) later)) (after event.ts (at_itself event.ts), tt))
reached_push ticks (mark_tick moment) all later now c =
    let after : (t : ℤ) → has_reached moment t ≡ true → has_reached now t
    ≡ true = subst (λ o. IfSome o (λ earlier. (t : ℤ) → has_reached earlier t ≡ true → has_reached now t ≡ true))
    (last_time-push ticks (mark_tick moment)) c in
    subst (Each (λ e. has_reached now e.ts ≡ true)) (sym (events_of-mark ticks moment))
    (Each-also (λ e. has_reached moment e.ts ≡ true) (λ e. has_reached now e.ts ≡ true) (λ e r. after e.ts r) (events_of ticks) (all moment later))

pub all_reached : (before rest : List Tick) → AllReached before → NeverFall before rest → AllReached (before ++ rest)
all_reached before [] all h = subst AllReached (sym (append-nil before)) all
all_reached before (tick ∷ rest) all h = subst AllReached (append_assoc before (tick ∷ []) rest)
    (all_reached (before ++ tick ∷ []) rest (reached_push before tick all h.0) h.1)

-- a limit that is reached stays so
pub later_reached : (limit : ℤ) (before rest : List Tick) (last : Moment) → last_time before ≡ Some last → has_reached last limit ≡ true → NeverFall before rest
    → Each (λ e. is_below_limit (Some limit) e.ts ≡ false) (events_of rest)
later_reached limit before [] last is r h = tt
later_reached limit before (event_tick event ∷ rest) last is r h =
    let now = subst (λ o. IfSome o (λ earlier. (t : ℤ) → has_reached earlier t ≡ true → has_reached (At event.ts) t ≡ true)) is h.0 limit r in
    (ap not now, later_reached limit (before ++ event_tick event ∷ []) rest (At event.ts) (last_time-push before (event_tick event)) now h.1)
later_reached limit before (mark_tick moment ∷ rest) last is r h =
    let now = subst (λ o. IfSome o (λ earlier. (t : ℤ) → has_reached earlier t ≡ true → has_reached moment t ≡ true)) is h.0 limit r in
    later_reached limit (before ++ mark_tick moment ∷ []) rest moment (last_time-push before (mark_tick moment)) now h.1

over_first : (t limit last : ℤ) → int_le t last ≡ true → int_le limit last ≡ false → int_le limit t ≡ false
over_first t limit last h k = grind (arith, ints)

pub below_last : (limit : ℤ) (last : Moment) (t : ℤ) → has_reached last limit ≡ false → has_reached last t ≡ true → is_below_limit (Some limit) t ≡ true
below_last limit (At last) t h k = ap not (over_first t limit last k h)
below_last limit End t h k = let wrong : true ≡ false = h in absurd cc

-- ---- the matches of a tick

pub among_of : (plan : Plan) (events : List Event) (list : List Entry) → is_partial plan events list ≡ true → AreAmong events list
among_of plan events list h = may_grow-among plan events list (is_partial-may_grow plan events list h)

complete_match : (plan : Plan) (events more : List Event) (list : List Entry) → is_complete plan events list ≡ true
    → AreAmong events list × (is_match plan (events ++ more) list ≡ true)
unfolding is_complete is_match
complete_match plan events more list h =
    let both = and_parts (is_partial plan events list) (is_full plan (stages_of list)) h in
    let among = among_of plan events list both.0 in (
      among,
      and_from _ _ (is_partial-append plan events more list among ∙ both.0)
          (or_left (is_full plan (stages_of list)) (closes plan (events ++ more) list) both.1),
    )

module _ (plan : Plan) (before : List Tick) (more : List Event) (now : Moment) (reached : AllReached before)
    (above : (limit : ℤ) → has_reached now limit ≡ true → Each (λ e. is_below_limit (Some limit) e.ts ≡ false) more) where
  closed_match : (list : List Entry) (limit : Option ℤ) (last : Option Moment) → limit_of plan (taken_of (events_of before) list) ≡ limit
      → last_time before ≡ last → is_due limit last now ≡ true
      → is_partial plan (events_of before) list ≡ true → is_open_for plan (events_of before) list (end_stage plan) ≡ true
      → AreAmong (events_of before) list × (is_match plan (events_of before ++ more) list ≡ true)
  closed_match list limit None l t due partial waiting = let wrong : false ≡ true = due in absurd cc
  closed_match list None (Some last) l t due partial waiting = let wrong : false ≡ true = due in absurd cc
  closed_match list (Some limit) (Some last) l t due partial waiting =
      let parts = and_parts (not (has_reached last limit)) (has_reached now limit) due in
      let among = among_of plan (events_of before) list partial in
      let shut = not-true (has_reached last limit) parts.0 in
      let all = reached last (subst (λ o. IfSome o (λ earlier. (t : ℤ) → has_reached earlier t ≡ true → has_reached last t ≡ true)) (sym t) (λ t r. r)) in (
        among,
        closed-is_match plan (events_of before) more list limit among partial waiting l
            (Each-also (λ e. has_reached last e.ts ≡ true) (λ e. is_below_limit (Some limit) e.ts ≡ true) (λ e r. below_last limit last e.ts shut r)
            (events_of before) all) (above limit parts.1),
      )

  due_matches : Each (IsMatchAmong plan (events_of before ++ more)) (due_items plan (events_of before) (last_time before) now)
  due_matches =
      let events = events_of before in
      Each-append (IsMatchAmong plan (events ++ more)) (map (λ l. Timeout (taken_of events l)) (timeouts_at plan events (last_time before) now))
      (map (λ l. Match (taken_of events l)) (closed_at plan events (last_time before) now))
      (Each-map (IsMatchAmong plan (events ++ more)) (λ l. Timeout (taken_of events l)) (timeouts_at plan events (last_time before) now)
      (Each-from_contains (λ l. ⊤) (timeouts_at plan events (last_time before) now) (λ l q. tt)))
      (Each-map (IsMatchAmong plan (events ++ more)) (λ l. Match (taken_of events l)) (closed_at plan events (last_time before) now)
      (Each-from_contains (λ l. IsMatchAmong plan (events ++ more) (Match (taken_of events l))) (closed_at plan events (last_time before) now)
      (λ l q. closed l (Contains-from_filter _ (lists_within plan (length events)) l q).1))) where
        closed : (l : List Entry) → (is_due (limit_of plan (taken_of (events_of before) l)) (last_time before) now && is_partial plan (events_of before) l
            && is_open_for plan (events_of before) l (end_stage plan)) ≡ true
            → IsMatchAmong plan (events_of before ++ more) (Match (taken_of (events_of before) l))
        closed l h =
            let three = and_parts _ _ h in
            let two = and_parts _ _ three.0 in
            let found = closed_match l (limit_of plan (taken_of (events_of before) l)) (last_time before) refl refl two.0 two.1 three.1 in
            (l, sym (taken_of-append (events_of before) more l found.0), found.1)

complete_matches : (plan : Plan) (events : List Event) (event : Event) (more : List Event)
    → Each (IsMatchAmong plan ((events ++ event ∷ []) ++ more)) (map (λ l. Match (taken_of (events ++ event ∷ []) l)) (matches_at plan events event))
complete_matches plan events event more =
    let whole = events ++ event ∷ [] in
    Each-map (IsMatchAmong plan (whole ++ more)) (λ l. Match (taken_of whole l)) (matches_at plan events event)
    (Each-from_contains (λ l. IsMatchAmong plan (whole ++ more) (Match (taken_of whole l))) (matches_at plan events event)
    (λ l q. complete l (Contains-from_filter _ (lists_within plan (length events + 1)) l q).1)) where
      complete : (l : List Entry) → (ends_at (length events) l && is_complete plan (events ++ event ∷ []) l) ≡ true
          → IsMatchAmong plan ((events ++ event ∷ []) ++ more) (Match (taken_of (events ++ event ∷ []) l))
      complete l h = let found = complete_match plan (events ++ event ∷ []) more l
          (and_parts (ends_at (length events) l) (is_complete plan (events ++ event ∷ []) l) h).1 in
          (l, sym (taken_of-append (events ++ event ∷ []) more l found.0), found.1)

pub gives_matches : GivesMatches
unfolding items_at
gives_matches plan before (event_tick event) later never =
    let events = events_of before in
    let rest = events_of later in
    let behind = never_behind [] before (event_tick event ∷ later) never in
    let all : events_of (before ++ event_tick event ∷ later) ≡ events ++ event ∷ rest = filter_map-append event_in before (event_tick event ∷ later) in
    let reached = all_reached [] before (λ now c. tt) (never_front [] before (event_tick event ∷ later) never) in
    subst (λ l. Each (IsMatchAmong plan l) (items_from plan events (last_time before) (event_tick event))) (sym all)
    (Each-append (IsMatchAmong plan (events ++ event ∷ rest)) (due_items plan events (last_time before) (At event.ts))
    (map (λ l. Match (taken_of (events ++ event ∷ []) l)) (matches_at plan events event))
    (due_matches plan before (event ∷ rest) (At event.ts) reached (λ limit r.
    (ap not r, later_reached limit (before ++ event_tick event ∷ []) later (At event.ts) (last_time-push before (event_tick event)) r behind.1)))
    (subst (λ l. Each (IsMatchAmong plan l) (map (λ l. Match (taken_of (events ++ event ∷ []) l)) (matches_at plan events event)))
    (append_assoc events (event ∷ []) rest) (complete_matches plan events event rest)))
gives_matches plan before (mark_tick moment) later never =
    let events = events_of before in
    let rest = events_of later in
    let behind = never_behind [] before (mark_tick moment ∷ later) never in
    let all : events_of (before ++ mark_tick moment ∷ later) ≡ events ++ rest = filter_map-append event_in before (mark_tick moment ∷ later) in
    let reached = all_reached [] before (λ now c. tt) (never_front [] before (mark_tick moment ∷ later) never) in
    subst (λ l. Each (IsMatchAmong plan l) (items_from plan events (last_time before) (mark_tick moment))) (sym all)
    (due_matches plan before rest moment reached (λ limit r. later_reached limit (before ++ mark_tick moment ∷ []) later moment
    (last_time-push before (mark_tick moment)) r behind.1))
