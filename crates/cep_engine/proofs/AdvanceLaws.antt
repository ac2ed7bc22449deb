-- One more event comes into the buffer, is stepped, loses its pin, and its matches are read and released.
use Rattle.std.proofs.Common.{◌≡◌, refl, sym, ◌∙◌, ap, subst, ℕ, zero, suc, ◌≤◌, arith, true, false, List, [], ◌∷◌, ◌++◌, map, ◌⊎◌, inl, inr}
use Rattle.std.specs.Prelude.{Option, Some, None, Result, Ok, Err, IfOk}
use Rattle.std.specs.List.{AllByRecursion as Each}
use Rattle.std.specs.List.Sorted.{IsPermutation, IsSortedBy}
use Rattle.std.proofs.lemmas.Bool.{cases_eq}
use Rattle.std.proofs.lemmas.List.{append-nil}
use Rattle.cep_event.specs.declared.event.Event.{Event}
use Rattle.cep_plan.specs.declared.plan.Plan.{Plan}
use Rattle.cep_plan.specs.declared.item.Taken.{Taken}
use Rattle.shared_buffer.specs.Slots.{slot_at, Changes}
use Rattle.shared_buffer.specs.Content.{Content as BufferContent, IsPinned, IsUsed}
use Rattle.shared_buffer.specs.declared.node.Node.{Node}
use Rattle.shared_buffer.specs.declared.node.Standing.{Standing}
use Rattle.shared_buffer.proofs.SlotLaws.{changed_cases}
use Rattle.list_buffer.specs.Held.{Holder, Holds, held_by, both_hold}
use Rattle.list_buffer.specs.Listed.{HoldsLists}
use Rattle.list_buffer.specs.Reach.{StoodAs}
use Rattle.list_buffer.proofs.HeldLaws.{held_by-cons, one_hold-here}
use Rattle.list_buffer.proofs.LaterLaws.{HoldsLists-add, HoldsLists-same, HoldsLists-settled}
use Rattle.run_step.specs.declared.runs.Tip.{Tip}
use Rattle.run_step.specs.Content.{Content}
use Rattle.run_step.specs.Pins.{KeepsPins}
use Rattle.run_step.specs.Runs.{Stands, holder_of}
use Rattle.run_step.specs.Showing.{ShowsLists}
use Rattle.run_step.specs.Stepping.{HasEvent, HasStepped, CanStep}
use Rattle.cep_plan.specs.Entry.{Entry}
use Rattle.list_runs.specs.Runs.{Admits}
use Rattle.live_laws.specs.Starts.{Scope, comes_earlier}
use Rattle.cep_engine.specs.Running.{IsSettled, RunsStand}
use Rattle.cep_engine.specs.Tips.{IsHolding, AreHeldTips, AreFreedTips}
use Rattle.cep_engine.proofs.RunningLaws.{IsSettled-kept}

-- ---- what the buffer holds

-- the holds of the runs' lists
abbrev pub held_for : {plan : Plan} {events : List Event} {scope : Scope} {tips : List Holder} {content : Content} {buffer : BufferContent}
    → Stands plan events scope tips content buffer → Holds
held_for stands = held_by (map holder_of stands.waiters)

-- no event is ahead
now_known : (plan : Plan) (events ahead : List Event) (held : Holds) (buffer : BufferContent) → ahead ≡ []
    → HoldsLists plan (events ++ ahead) held buffer → HoldsLists plan events held buffer
now_known plan events ahead held buffer none has =
    subst (λ (es : List Event). HoldsLists plan es held buffer) (ap (λ a. events ++ a) none ∙ append-nil events) has

pub has_lists : (plan : Plan) (events : List Event) (scope : Scope) (content : Content) (buffer : BufferContent)
    → (runs : RunsStand plan events scope content buffer) → HoldsLists plan events (held_for runs.now.stands) buffer
has_lists plan events scope content buffer runs =
    HoldsLists-same plan events (both_hold (held_for runs.now.stands) (held_by [])) (held_for runs.now.stands) buffer (λ list key. omega arith)
    (now_known plan events runs.now.stands.ahead (both_hold (held_for runs.now.stands) (held_by [])) buffer runs.now.none_ahead runs.now.stands.held)

-- the same runs stand over another buffer that holds their lists
stand_over : (plan : Plan) (events : List Event) (scope : Scope) (tips : List Holder) (content : Content) (old new : BufferContent)
    → (before : Stands plan events scope tips content old)
    → HoldsLists plan events (held_for before) new → IsSettled new → RunsStand plan events scope content new
stand_over plan events scope tips content old new before has settled = record {
  now = record {
    stands = record {
      counted = before.counted;
      bumps = before.bumps;
      empty = before.empty;
      waiters = before.waiters;
      stand = before.stand;
      runs = before.runs;
      ahead = [];
      one_ahead = omega arith;
      held = HoldsLists-same plan (events ++ []) (held_for before) (both_hold (held_for before) (held_by [])) new (λ list key. omega arith)
          (subst (λ (es : List Event). HoldsLists plan es (held_for before) new) (sym (append-nil events)) has);
    };
    none_ahead = refl;
  };
  settled = settled;
}

-- each of these is held by them
each_holds : (held : Holds) (holders : List Holder) → Each (IsHolding (both_hold held (held_by holders))) holders
each_holds held holders = below holders (λ list key. omega arith) where
  below : (some : List Holder) → ((list : _) (key : ℕ) → held_by some list key ≤ held_by holders list key)
      → Each (IsHolding (both_hold held (held_by holders))) some
  below [] h = tt
  below (holder ∷ some) h = (
    omega (arith, h holder.list holder.node, held_by-cons holder some holder.list holder.node, one_hold-here holder holder.list holder.node refl refl),
    below some (λ list key. omega (arith, h list key, held_by-cons holder some list key)),
  )

-- ---- which events have a node

cases_used : (nodes : List (Option Node)) (event : ℕ) → IsUsed nodes event ⊎ (IsUsed nodes event → ⊥)
cases_used [] event = inr (λ used. let no : None ≡ Some used.node = used.found in absurd cc)
cases_used (slot ∷ nodes) event = by_slot slot refl (cases_used nodes event) where
  later : IsUsed nodes event → IsUsed (slot ∷ nodes) event
  later used = record { key = suc used.key; node = used.node; found = used.found; event_is = used.event_is }

  earlier : ((node : Node) → slot ≡ Some node → node.event ≡ event → ⊥) → (IsUsed nodes event → ⊥) → (key : ℕ) (node : Node)
      → slot_at (slot ∷ nodes) key ≡ Some node → node.event ≡ event → ⊥
  earlier not_here not_later zero node found is = not_here node found is
  earlier not_here not_later (suc key) node found is = not_later (record { key = key; node = node; found = found; event_is = is })

  by_rest : ((node : Node) → slot ≡ Some node → node.event ≡ event → ⊥) → IsUsed nodes event ⊎ (IsUsed nodes event → ⊥) → IsUsed (slot ∷ nodes) event
      ⊎ (IsUsed (slot ∷ nodes) event → ⊥)
  by_rest not_here (inl used) = inl (later used)
  by_rest not_here (inr none) = inr (λ used. earlier not_here none used.key used.node used.found used.event_is)

  by_slot : (s : Option Node) → slot ≡ s → IsUsed nodes event ⊎ (IsUsed nodes event → ⊥) → IsUsed (slot ∷ nodes) event ⊎ (IsUsed (slot ∷ nodes) event → ⊥)
  by_slot None is rest = by_rest (λ node found same. let no : None ≡ Some node = sym is ∙ found in absurd cc) rest
  by_slot (Some node) is rest = elim (cases_eq node.event event) [
    | inl same ↦ inl (record { key = 0; node = node; found = is; event_is = same })
    | inr other ↦
        by_rest (λ found at same. let both : Some node ≡ Some found = sym is ∙ at in let e : node ≡ found = cc in
        other (ap (λ (n : Node). n.event) e ∙ same)) rest
  ]

-- ---- one more event

module _ (plan : Plan) (events : List Event) (scope : Scope) (content : Content) (old : BufferContent)
    (runs : RunsStand plan events scope content old) (event : Event) (key position : ℕ) (at : position ≡ content.position)
    (added : BufferContent) (same_nodes : added.nodes ≡ old.nodes)
    (adds : Changes old.events added.events key (Some (record { event = event; position = position; pinned = true }))) where
  abbrev whole : List Event
  whole = events ++ event ∷ []

  -- the event stands, and is ahead
  pub stands_ahead : Stands plan events scope [] content added
  stands_ahead =
      let before = runs.now.stands in
      record {
        counted = before.counted;
        bumps = before.bumps;
        empty = before.empty;
        waiters = before.waiters;
        stand = before.stand;
        runs = before.runs;
        ahead = event ∷ [];
        one_ahead = omega arith;
        held =
            HoldsLists-add plan events event (both_hold (held_for before) (held_by [])) old added same_nodes key
            (record { event = event; position = position; pinned = true }) (at ∙ before.counted) refl adds
            (now_known plan events before.ahead (both_hold (held_for before) (held_by [])) old runs.now.none_ahead before.held);
      }

  pub can_step : Admits plan events scope event → CanStep plan key content added
  can_step admits = record {
    events = events;
    scope = scope;
    admits = λ row found.
        let both : Some (record { event = event; position = position; pinned = true }) ≡ Some row = sym adds.changed ∙ found in
        let same : record { event = event; position = position; pinned = true } ≡ row = cc in
        subst (λ (r : Standing). Admits plan events scope r.event) same admits;
    stands = stands_ahead;
  }

  pub has_event : HasEvent added key content.position
  has_event = record { row = record { event = event; position = position; pinned = true }; found = adds.changed; position_is = at; pinned = refl }

  -- ---- after the step
  module _ (shown : List Tip) (content_after : Content) (stepped_to : BufferContent) (keeps : KeepsPins added stepped_to) where
    pub still_pinned : IsPinned stepped_to.events key
    still_pinned =
        record {
          row = record { event = event; position = position; pinned = true };
          found =
              keeps.stays key (record { event = event; position = position; pinned = true }) adds.changed refl;
          pinned = refl;
        }

    module _ (stepped : HasStepped plan events event scope [] shown content_after stepped_to) (settled : BufferContent)
        (still_nodes : settled.nodes ≡ stepped_to.nodes)
        (used : IsUsed stepped_to.nodes key → (row : Standing) → slot_at stepped_to.events key ≡ Some row
        → Changes stepped_to.events settled.events key (Some (record row { pinned = false })))
        (unused : (IsUsed stepped_to.nodes key → ⊥) → Changes stepped_to.events settled.events key None) where
      -- what stands now stood before, and has no pin
      settled_row : (other : ℕ) (row : Standing) → slot_at settled.events other ≡ Some row → StoodAs stepped_to.events other row × (row.pinned ≡ false)
      settled_row other row found = elim (cases_used stepped_to.nodes key) [
        | inl is ↦
            let was = still_pinned.row in
            elim (changed_cases stepped_to.events settled.events key (Some (record was { pinned = false })) (used is was still_pinned.found) other row found) [
              | inl here ↦
                  let both : Some (record was { pinned = false }) ≡ Some row = here.1 in
                  let same : record was { pinned = false } ≡ row = cc in (
                    record {
                      was = was;
                      found = ap (slot_at stepped_to.events) here.0
                          ∙ still_pinned.found;
                      same_event = sym (ap (λ (r : Standing). r.event) same);
                      same_position =
                          sym (ap (λ (r : Standing). r.position) same);
                    },
                    sym (ap (λ (r : Standing). r.pinned) same),
                  )
              | inr there ↦ (record { was = row; found = there.1; same_event = refl; same_position = refl }, unpinned other row there.0 there.1)
            ]
        | inr none ↦
            elim (changed_cases stepped_to.events settled.events key None (unused none) other row found) [
              | inl here ↦ let no : None ≡ Some row = here.1 in absurd cc
              | inr there ↦ (record { was = row; found = there.1; same_event = refl; same_position = refl }, unpinned other row there.0 there.1)
            ]
      ] where
        unpinned : (other : ℕ) (row : Standing) → (other ≡ key → ⊥) → slot_at stepped_to.events other ≡ Some row → row.pinned ≡ false
        unpinned other row differs found = runs.settled other row (sym (adds.others other differs) ∙ keeps.only other row found)

      pub is_settled : IsSettled settled
      is_settled other row found = (settled_row other row found).1

      abbrev held_after : Holds
      held_after = held_for stepped.stands

      with_tips : HoldsLists plan (events ++ event ∷ []) (both_hold held_after (held_by stepped.holders)) settled
      with_tips =
          subst (λ (hs : List Holder). HoldsLists plan (events ++ event ∷ []) (both_hold held_after (held_by hs)) settled) (append-nil stepped.holders)
          (now_known plan (events ++ event ∷ []) stepped.stands.ahead (both_hold held_after (held_by (stepped.holders ++ []))) settled stepped.none_ahead
          (HoldsLists-settled plan ((events ++ event ∷ []) ++ stepped.stands.ahead) (both_hold held_after (held_by (stepped.holders ++ [])))
          stepped_to settled still_nodes (λ other row found. (settled_row other row found).0) stepped.stands.held))

      -- the tips can be read
      pub can_read : AreHeldTips plan (events ++ event ∷ []) stepped.holders (both_hold held_after (held_by stepped.holders)) shown settled
      can_read = record { has = with_tips; are_held = each_holds held_after stepped.holders; tips_are = stepped.shown_are }

      -- and released
      pub can_free : AreFreedTips plan (events ++ event ∷ []) stepped.holders held_after shown settled
      can_free = record { has = with_tips; tips_are = stepped.shown_are }

      -- and then the event was taken in
      pub has_advanced : (freed : BufferContent) → HoldsLists plan (events ++ event ∷ []) held_after freed → KeepsPins settled freed
          → RunsStand plan (events ++ event ∷ []) scope content_after freed
      has_advanced freed has keeps_freed =
          stand_over plan (events ++ event ∷ []) scope (stepped.holders ++ []) content_after stepped_to freed stepped.stands has
          (IsSettled-kept settled freed keeps_freed is_settled)

-- ---- lists that are shown

pub can_read_shown :
    (plan : Plan) (events : List Event) (scope : Scope) (content : Content) (buffer : BufferContent)
    (runs : RunsStand plan events scope content buffer) (told : List (List Entry)) (shown : List Tip)
    → (shows : ShowsLists plan events runs.now.stands.waiters told shown) → AreHeldTips plan events shows.holders (held_for runs.now.stands) shown buffer
can_read_shown plan events scope content buffer runs told shown shows =
    record { has = has_lists plan events scope content buffer runs; are_held = shows.held; tips_are = shows.shown_are }

-- ---- lists in order

-- what is said of lists that are in order holds of what a sort answers
pub ok_in_order : {E : Type 0} {lists : List (List Taken)} (answer : Result (List (List Taken)) E) {P : List (List Taken) → Type 0}
    → IfOk answer (λ made. IsPermutation lists made) → IfOk answer (λ made. IsSortedBy comes_earlier made)
    → ((made : List (List Taken)) → IsPermutation lists made → IsSortedBy comes_earlier made → P made) → IfOk answer P
ok_in_order (Ok made) perm sorted each = each made perm sorted
ok_in_order (Err e) perm sorted each = tt
