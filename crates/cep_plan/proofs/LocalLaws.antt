-- A list is judged by the events up to its last one alone: later events change nothing. (But matches that close: these are judged by the events below
-- their limit.)
use Rattle.std.proofs.Common.{◌≡◌, refl, sym, ◌∙◌, ap, ℕ, ◌+◌, ◌-◌, ◌<◌, ◌≤◌, arith, true, ◌&&◌, ◌⊎◌, inl, inr, List, [], ◌∷◌, ◌++◌, length, take, drop, length-append, length-drop, ltb, nat_lt}
use Rattle.std.specs.Prelude.{Option, Some, None, slice_range}
use Rattle.std.specs.List.{AllByRecursion as Each}
use Rattle.std.specs.Option.{option_map_or}
use Rattle.std.proofs.lemmas.Bool.{lt-ltb, cases_order}
use Rattle.std.proofs.lemmas.List.{take-append-le, drop-append-le}
use Rattle.std.proofs.Math.ListN.{get_or-append}
use Rattle.cep_event.specs.declared.event.Event.{Event}
use Rattle.cep_plan.specs.declared.plan.Plan.{Plan}
use Rattle.cep_plan.specs.Entry.{Entry, event_at, taken_of, last_entry, stages_of, no_event}
use Rattle.cep_plan.specs.Follow.{may_follow, is_full}
use Rattle.cep_plan.specs.Candidate.{fits}
use Rattle.cep_plan.specs.Gap.{gap_holds, gap_spares, gap_between}
use Rattle.cep_plan.specs.Limit.{are_in_time}
use Rattle.cep_plan.specs.Partial.{comes_later, extends, extends_all, has_entries, may_grow, is_partial, is_complete}

-- each entry is at one of the events
abbrev pub AreAmong : List Event → List Entry → Type 0
AreAmong events list = Each (λ e. e.position < length events) list

pub event_at-append : (events more : List Event) (position : ℕ) → position < length events → event_at (events ++ more) position ≡ event_at events position
event_at-append events more position h = get_or-append events more no_event position h

pub taken_of-append : (events more : List Event) (list : List Entry) → AreAmong events list → taken_of (events ++ more) list ≡ taken_of events list
taken_of-append events more [] h = refl
taken_of-append events more (e ∷ list) h =
    λ i. record { stage = e.stage; position = e.position; event = event_at-append events more e.position h.0 i } ∷ taken_of-append events more list h.1 i

-- a part of the events
pub slice_range-append : (events more : List Event) (from to : ℕ) → to ≤ length events → slice_range (events ++ more) from to ≡ slice_range events from to
slice_range-append events more from to h = placed (cases_order from (length events)) where
  inside : from ≤ length events → slice_range (events ++ more) from to ≡ slice_range events from to
  inside le =
      let cut = length-drop from events in
      ap (take (to - from)) (drop-append-le from events more le) ∙ take-append-le (to - from) (drop from events) more (omega (arith, h, cut, le))

  outside : length events < from → slice_range (events ++ more) from to ≡ slice_range events from to
  outside lt =
      let none : to - from ≡ 0 = omega (arith, h, lt) in
      ap (λ n. take n (drop from (events ++ more))) none ∙ sym (ap (λ n. take n (drop from events)) none)

  placed : (from ≡ length events) ⊎ ((from < length events) ⊎ (length events < from)) → slice_range (events ++ more) from to ≡ slice_range events from to
  placed (inl e) = inside (omega (arith, e))
  placed (inr (inl lt)) = inside (omega (arith, lt))
  placed (inr (inr lt)) = outside lt

module _ (plan : Plan) (events more : List Event) (list : List Entry) (among : AreAmong events list) where
  pub gap_holds-append : (stage position : ℕ) → position ≤ length events
      → gap_holds plan (events ++ more) list stage position ≡ gap_holds plan events list stage position
  unfolding gap_holds
  gap_holds-append stage position h = after (last_entry list) where
    after : (last : Option Entry)
        → option_map_or (λ l. gap_spares plan (taken_of (events ++ more) list) l.stage stage (gap_between (events ++ more) l.position position)) last true
        ≡ option_map_or (λ l. gap_spares plan (taken_of events list) l.stage stage (gap_between events l.position position)) last true
    after None = refl
    after (Some last) =
        λ i. gap_spares plan (taken_of-append events more list among i) last.stage stage
        (slice_range-append events more (last.position + 1) position h i)

  pub comes_later-append : (position : ℕ) → position < length events → comes_later (events ++ more) list position ≡ comes_later events list position
  comes_later-append position h =
      let below : ltb position (length (events ++ more)) ≡ true = lt-ltb position (length (events ++ more)) (omega (arith, h, length-append events more)) in
      let same : ltb position (length (events ++ more)) ≡ ltb position (length events) = below ∙ sym (lt-ltb position (length events) h) in
      ap (λ b. b && option_map_or (λ last. nat_lt last.position position) (last_entry list) true) same

  -- an entry that comes next
  pub extends-append : (next : Entry) → next.position < length events → extends plan (events ++ more) list next ≡ extends plan events list next
  extends-append next h =
      λ i. may_follow plan (stages_of list) next.stage && comes_later-append next.position h i
      && fits plan (taken_of-append events more list among i) next.stage (event_at-append events more next.position h i) next.position
      && gap_holds-append next.stage next.position (omega (arith, h)) i

pub AreAmong-push : (events : List Event) (list : List Entry) (next : Entry) → AreAmong events list → next.position < length events
    → AreAmong events (list ++ next ∷ [])
AreAmong-push events [] next h k = (k, tt)
AreAmong-push events (e ∷ list) next h k = (h.0, AreAmong-push events list next h.1 k)

-- entries that come one after another
pub extends_all-later : (plan : Plan) (events more : List Event) (list next : List Entry) → AreAmong events list → AreAmong events next
    → extends_all plan (events ++ more) list next ≡ extends_all plan events list next
extends_all-later plan events more list [] h k = refl
extends_all-later plan events more list (e ∷ next) h k =
    λ i. extends-append plan events more list h e k.0 i && extends_all-later plan events more (list ++ e ∷ []) next (AreAmong-push events list e h k.0) k.1 i

-- a list that may grow still may, and no other may
pub may_grow-append : (plan : Plan) (events more : List Event) (list : List Entry) → AreAmong events list
    → may_grow plan (events ++ more) list ≡ may_grow plan events list
unfolding may_grow
may_grow-append plan events more list h = λ i. extends_all-later plan events more [] list tt h i && are_in_time plan (taken_of-append events more list h i)

-- a partial match stays one, and nothing else becomes one
pub is_partial-append : (plan : Plan) (events more : List Event) (list : List Entry) → AreAmong events list
    → is_partial plan (events ++ more) list ≡ is_partial plan events list
unfolding is_partial
is_partial-append plan events more list h = ap (λ b. has_entries list && b) (may_grow-append plan events more list h)

-- the same of complete lists
pub is_complete-append : (plan : Plan) (events more : List Event) (list : List Entry) → AreAmong events list
    → is_complete plan (events ++ more) list ≡ is_complete plan events list
unfolding is_complete
is_complete-append plan events more list h = ap (λ b. b && is_full plan (stages_of list)) (is_partial-append plan events more list h)
