-- A release, step by step.
use Rattle.std.proofs.Common.{◌≡◌, ℕ, ◌+◌, ◌<◌, ◌⊎◌, false, List, length, Option, Some, None, refl, ap, sym, ◌∙◌, inl, inr, arith}
use Rattle.std.specs.Prelude.{IfSome, IfNone, OnSome}
use Rattle.std.proofs.lemmas.Bool.{cases_eq, eq-eqb, ne_eqb}
use Rattle.shared_buffer.specs.Slots.{slot_at, Changes}
use Rattle.shared_buffer.specs.Nodes.{node_down, node_without, slot_without}
use Rattle.shared_buffer.specs.Edges.{without_edge}
use Rattle.shared_buffer.specs.Content.{IsUsed}
use Rattle.shared_buffer.specs.Graph.{edge_total}
use Rattle.shared_buffer.specs.Release.{HasHold, CountsDown, Drops, Releases, KeepsEvents}
use Rattle.shared_buffer.specs.Release.Releases.{Lowered, Ended, WentOn}
use Rattle.shared_buffer.specs.declared.node.Node.{Node}
use Rattle.shared_buffer.specs.declared.node.Standing.{Standing}
use Rattle.shared_buffer.proofs.SlotLaws.{changed_cases}

-- the release of the first node's edge has come to the next one, or has ended
abbrev pub Awaits : List ℕ → List (Option Node) → ℕ → List (Option Node) → Option ℕ → Type 0
Awaits version first key nodes None = Releases version nodes first key
Awaits version first key nodes (Some next) =
    HasHold nodes next version × ((last : List (Option Node)) → Releases version last nodes next → Releases version last first key)

-- one more than there are edges, while there is a next one
abbrev pub edges_if : Option ℕ → List (Option Node) → ℕ
edges_if None nodes = 0
edges_if (Some next) nodes = edge_total nodes + 1

-- a first step
pub Awaits-first :
    (version : List ℕ) (first nodes : List (Option Node)) (key : ℕ) (next : Option ℕ)
    → IfNone next (CountsDown first nodes key version ⊎ Drops first nodes key version None)
    → IfSome next (λ pred. Drops first nodes key version (Some pred)) → IfSome next (λ pred. HasHold nodes pred version)
    → Awaits version first key nodes next
Awaits-first version first nodes key None (inl down) goes_on hold = Lowered first key down
Awaits-first version first nodes key None (inr drop) goes_on hold = Ended first key drop
Awaits-first version first nodes key (Some pred) ends goes_on hold = (hold, λ last later. WentOn first nodes key pred goes_on later)

-- and each later one
pub Awaits-step :
    (version : List ℕ) (first before nodes : List (Option Node)) (key at : ℕ) (next : Option ℕ)
    → ((last : List (Option Node)) → Releases version last before at → Releases version last first key)
    → Awaits version before at nodes next → Awaits version first key nodes next
Awaits-step version first before nodes key at None completes step = completes nodes step
Awaits-step version first before nodes key at (Some pred) completes step = (step.0, λ last later. completes last (step.1 last later))

-- a change of one node that keeps its event, or takes it away, leaves no event with a first node
used_through :
    (before nodes : List (Option Node)) (at : ℕ) (slot : Option Node) (node : Node) → slot_at before at ≡ Some node
    → Changes before nodes at slot → ((n : Node) → slot ≡ Some n → n.event ≡ node.event) → (event : ℕ) → IsUsed nodes event
    → IsUsed before event
used_through before nodes at slot node found changes same_event event used =
    elim (changed_cases before nodes at slot changes used.key used.node used.found) [
      | inl here ↦
          record {
            key = at;
            node = node;
            found = found;
            event_is = sym (same_event used.node here.1) ∙ used.event_is;
          }
      | inr elsewhere ↦ record { key = used.key; node = used.node; found = elsewhere.1; event_is = used.event_is }
    ]

slot_event : (version : List ℕ) (node n : Node) → slot_without version node ≡ Some n → n.event ≡ node.event
slot_event version node n is =
    elim (cases_eq (length (without_edge node.edges version)) 0) [
      | inl nothing ↦
          let gone : slot_without version node ≡ None = rw (eq-eqb (length (without_edge node.edges version)) 0 nothing) refl in
          let bad : None ≡ Some n = sym gone ∙ is in
          absurd (cc)
      | inr some ↦
          let left : slot_without version node ≡ Some (node_without version node) = rw (ne_eqb (length (without_edge node.edges version)) 0 some) refl in
          let both : Some (node_without version node) ≡ Some n = sym left ∙ is in
          let e : node_without version node ≡ n = cc in
          ap (λ (x : Node). x.event) (sym e)
    ]

pub used_before_down :
    (version : List ℕ) (before nodes : List (Option Node)) (at : ℕ) → CountsDown before nodes at version → (event : ℕ)
    → IsUsed nodes event → IsUsed before event
used_before_down version before nodes at down event used =
    used_through before nodes at (Some (node_down version down.node)) down.node down.found down.changes
    (λ n is. let e : node_down version down.node ≡ n = cc in ap (λ (x : Node). x.event) (sym e)) event used

pub used_before_drop :
    (version : List ℕ) (before nodes : List (Option Node)) (at : ℕ) (pred : Option ℕ) → Drops before nodes at version pred
    → (event : ℕ) → IsUsed nodes event → IsUsed before event
used_before_drop version before nodes at pred drop event used =
    used_through before nodes at (slot_without version drop.node) drop.node drop.found drop.changes (slot_event version drop.node) event used

pub used_before_step :
    (version : List ℕ) (before nodes : List (Option Node)) (at : ℕ) (next : Option ℕ)
    → IfNone next (CountsDown before nodes at version ⊎ Drops before nodes at version None)
    → IfSome next (λ pred. Drops before nodes at version (Some pred)) → (event : ℕ) → IsUsed nodes event → IsUsed before event
used_before_step version before nodes at None (inl down) goes_on event used = used_before_down version before nodes at down event used
used_before_step version before nodes at None (inr drop) goes_on event used = used_before_drop version before nodes at None drop event used
used_before_step version before nodes at (Some pred) ends goes_on event used = used_before_drop version before nodes at (Some pred) goes_on event used

-- what each of two steps keeps, both keep
pub KeepsEvents-trans :
    (first middle last : List (Option Standing)) (before nodes : List (Option Node)) → KeepsEvents first middle before
    → KeepsEvents middle last nodes → ((event : ℕ) → IsUsed nodes event → IsUsed before event) → KeepsEvents first last nodes
KeepsEvents-trans first middle last before nodes one two used_before =
    record {
      stays = λ key row found why.
          two.stays key row (one.stays key row found (elim why [ inl pinned ↦ inl pinned | inr used ↦ inr (used_before key used) ])) why;
      goes = λ key row found free unused. gone key row found free unused (slot_at middle key) refl;
      only = λ key row found. one.only key row (two.only key row found);
    }
  where
    nothing_left : (key : ℕ) → slot_at middle key ≡ None → (slot : Option Standing) → slot_at last key ≡ slot → slot_at last key ≡ None
    nothing_left key empty None is = is
    nothing_left key empty (Some row) is = let bad : None ≡ Some row = sym empty ∙ two.only key row is in absurd (cc)

    gone :
        (key : ℕ) (row : Standing) → slot_at first key ≡ Some row → row.pinned ≡ false → (IsUsed nodes key → ⊥)
        → (slot : Option Standing) → slot_at middle key ≡ slot → slot_at last key ≡ None
    gone key row found free unused None is = nothing_left key is (slot_at last key) refl
    gone key row found free unused (Some other) is =
        let both : Some row ≡ Some other = sym found ∙ one.only key other is in
        let e : row ≡ other = cc in
        two.goes key other is (ap (λ (r : Standing). r.pinned) (sym e) ∙ free) unused

-- one more than there are edges falls with each step
pub edges_if-falls :
    (before nodes : List (Option Node)) (at : ℕ) (next : Option ℕ) → OnSome next (edge_total nodes + 1 ≡ edge_total before)
    → edges_if next nodes < edges_if (Some at) before
edges_if-falls before nodes at None fewer = omega arith
edges_if-falls before nodes at (Some pred) fewer = omega arith
