-- Lists that may grow rise: their stages are known, and their positions go up and stand among the events.
use Rattle.std.proofs.Common.{◌≡◌, refl, sym, ◌∙◌, ap, ℕ, ◌+◌, ◌≤◌, ◌<◌, arith, true, false, ◌&&◌, List, [], ◌∷◌, ◌++◌, length, nat_lt, ◌⊎◌, inl, inr}
use Rattle.std.specs.Prelude.{None, slice_get, ◌==◌, if◌then◌else◌, Bool, false, zero, suc}
use Rattle.std.specs.List.{last_or}
use Rattle.std.specs.Option.{option_map_or}
use Rattle.std.proofs.Math.Nat.{eq-or-lt_of_le}
use Rattle.std.proofs.lemmas.Bool.{ltb-true, eqb-true, and_parts}
use Rattle.cep_event.specs.declared.event.Event.{Event}
use Rattle.cep_plan.specs.declared.plan.Plan.{Plan}
use Rattle.cep_plan.specs.declared.plan.Stage.{Stage}
use Rattle.cep_plan.specs.declared.item.Taken.{Taken}
use Rattle.cep_plan.specs.Entry.{Entry, event_at, taken_of, last_entry, stages_of}
use Rattle.cep_plan.specs.Follow.{end_stage, may_end, may_follow, may_follow_last}
use Rattle.cep_plan.specs.Candidate.{is_candidate, fits}
use Rattle.cep_plan.specs.Gap.{gap_holds}
use Rattle.cep_plan.specs.Partial.{comes_later, extends, extends_all, has_entries, may_grow, is_partial}
use Rattle.cep_plan.proofs.RisingLaws.{IsRising, IsRisingList}
use Rattle.cep_plan.proofs.LocalLaws.{AreAmong}
use Rattle.live_laws.proofs.LastLaws.{last_or-push}

-- a stage that may follow is one of the pattern's, or the end stage
pub stage_awaited : (plan : Plan) (so_far : List ℕ) (stage : ℕ) → may_follow plan so_far stage ≡ true → stage < end_stage plan + 1
unfolding may_follow
stage_awaited plan so_far stage h = decided (stage == end_stage plan) refl h where
  decided : (b : Bool) → (stage == end_stage plan) ≡ b → (if b then may_end plan so_far else
      (nat_lt stage (length plan.stages) && may_follow_last plan so_far stage (last_or None so_far))) ≡ true → stage < end_stage plan + 1
  decided true is h = let same : stage ≡ end_stage plan = eqb-true stage (end_stage plan) is in omega (arith, same)
  decided false is h = let lt = ltb-true stage (length plan.stages) (and_parts (nat_lt stage (length plan.stages)) _ h).0 in omega (arith, lt)

known : (stages : List Stage) (test : Stage → Bool) (stage : ℕ) → option_map_or test (slice_get stages stage) false ≡ true → stage < length stages
known [] test stage h = let none : false ≡ true = h in absurd cc
known (s ∷ stages) test zero h = omega arith
known (s ∷ stages) test (suc stage) h = let lt = known stages test stage h in omega (arith, lt)

-- a stage that an event fits is one of the pattern's
pub stage_known : (plan : Plan) (taken : List Taken) (stage : ℕ) (event : Event) (position : ℕ) → fits plan taken stage event position ≡ true
    → stage < length plan.stages
unfolding fits is_candidate
stage_known plan taken stage event position h = known plan.stages _ stage (and_parts _ _ (and_parts _ _ h).0).0

position_known : (events : List Event) (list : List Entry) (position : ℕ) → comes_later events list position ≡ true → position < length events
position_known events list position h = ltb-true position (length events) (and_parts (nat_lt position (length events)) _ h).0

-- entries that come one after another
extends_all-rising : (plan : Plan) (events : List Event) (list next : List Entry) (from : ℕ)
    → ((position : ℕ) → comes_later events list position ≡ true → from ≤ position)
    → extends_all plan events list next ≡ true → IsRising (length plan.stages) from (length events) next
extends_all-rising plan events list [] from above h = tt
extends_all-rising plan events list (e ∷ next) from above h =
    let both = and_parts (extends plan events list e) (extends_all plan events (list ++ e ∷ []) next) h in
    let three = and_parts (may_follow plan (stages_of list) e.stage && comes_later events list e.position
    && fits plan (taken_of events list) e.stage (event_at events e.position) e.position) (gap_holds plan events list e.stage e.position) both.0 in
    let two = and_parts (may_follow plan (stages_of list) e.stage && comes_later events list e.position)
    (fits plan (taken_of events list) e.stage (event_at events e.position) e.position) three.0 in
    let one = and_parts (may_follow plan (stages_of list) e.stage) (comes_later events list e.position) two.0 in (
      stage_known plan (taken_of events list) e.stage (event_at events e.position) e.position two.1,
      above e.position one.1,
      position_known events list e.position one.1,
      extends_all-rising plan events (list ++ e ∷ []) next (e.position + 1) (behind e) both.1,
    ) where
      behind : (e : Entry) (position : ℕ) → comes_later events (list ++ e ∷ []) position ≡ true → e.position + 1 ≤ position
      behind e position k =
          let after = (and_parts (nat_lt position (length events)) (option_map_or (λ last. nat_lt last.position position)
          (last_entry (list ++ e ∷ [])) true) k).1 in
          let lt : e.position < position = ltb-true e.position position (sym
          (ap (λ o. option_map_or (λ (last : Entry). nat_lt last.position position) o true) (last_or-push None list e)) ∙ after) in
          omega (arith, lt)

pub may_grow-rising : (plan : Plan) (events : List Event) (list : List Entry) → may_grow plan events list ≡ true
    → IsRising (length plan.stages) 0 (length events) list
unfolding may_grow
may_grow-rising plan events list h = extends_all-rising plan events [] list 0 (λ position k. omega arith) (and_parts (extends_all plan events [] list) _ h).0

pub is_partial-may_grow : (plan : Plan) (events : List Event) (list : List Entry) → is_partial plan events list ≡ true → may_grow plan events list ≡ true
unfolding is_partial
is_partial-may_grow plan events list h = (and_parts (has_entries list) (may_grow plan events list) h).1

pub is_partial-rising : (plan : Plan) (events : List Event) (list : List Entry) → is_partial plan events list ≡ true
    → IsRisingList (length plan.stages) 0 (length events) list
unfolding is_partial
is_partial-rising plan events [] h = let no : false ≡ true = h in absurd cc
is_partial-rising plan events (first ∷ later) h = may_grow-rising plan events (first ∷ later) h

pub rising_among : (stages from : ℕ) (events : List Event) (list : List Entry) → IsRising stages from (length events) list → AreAmong events list
rising_among stages from events [] h = tt
rising_among stages from events (e ∷ list) h = (h.2, rising_among stages (e.position + 1) events list h.3)

pub may_grow-among : (plan : Plan) (events : List Event) (list : List Entry) → may_grow plan events list ≡ true → AreAmong events list
may_grow-among plan events list h = rising_among (length plan.stages) 0 events list (may_grow-rising plan events list h)

-- a rising list has no more entries than there are positions
rising_length : (stages from to : ℕ) (list : List Entry) → from ≤ to → IsRising stages from to list → length list + from ≤ to
rising_length stages from to [] le h = omega (arith, le)
rising_length stages from to (e ∷ list) le h = let rest = rising_length stages (e.position + 1) to list (omega (arith, h.2)) h.3 in omega (arith, rest, h.1)

pub may_grow-length : (plan : Plan) (events : List Event) (list : List Entry) → may_grow plan events list ≡ true → length list ≤ length events
may_grow-length plan events list h =
    let short = rising_length (length plan.stages) 0 (length events) list (omega arith) (may_grow-rising plan events list h) in omega (arith, short)

-- the list is another over the events, with one more entry right after them
abbrev pub IsGrown : List Event → List Entry → Type 0
IsGrown events whole = (list : List Entry) × (stage : ℕ) × (whole ≡ list ++ record { stage = stage; position = length events } ∷ []) × AreAmong events list

nothing_behind : (stages from to : ℕ) (list : List Entry) → to ≤ from → IsRising stages from to list → list ≡ []
nothing_behind stages from to [] le h = refl
nothing_behind stages from to (e ∷ list) le h = absurd (omega (arith, le, h.1, h.2))

-- A rising list over one more event is either over those before it, or ends at the new one.
pub rising_split : (stages from : ℕ) (events : List Event) (list : List Entry) → IsRising stages from (length events + 1) list → AreAmong events list
    ⊎ IsGrown events list
rising_split stages from events [] h = inl tt
rising_split stages from events (e ∷ later) h =
    placed (eq-or-lt_of_le (omega (arith, h.2))) (rising_split stages (e.position + 1) events later h.3) where
      placed : (e.position ≡ length events) ⊎ (e.position < length events) → AreAmong events later ⊎ IsGrown events later
          → AreAmong events (e ∷ later) ⊎ IsGrown events (e ∷ later)
      placed (inl is) _ =
          inr (
            [],
            e.stage,
            (λ i. record { stage = e.stage; position = is i } ∷ nothing_behind stages (e.position + 1) (length events + 1) later
                (omega (arith, is)) h.3 i),
            tt,
          )
      placed (inr lt) (inl among) = inl (lt, among)
      placed (inr lt) (inr (list, stage, is, among)) = inr (e ∷ list, stage, (λ i. e ∷ is i), (lt, among))
