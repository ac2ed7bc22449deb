-- Each edge is on the chain of an edge that has a hold.
use Rattle.std.proofs.Common.{◌≡◌, ℕ, zero, suc, ◌+◌, ◌<◌, Bool, true, cond, List, [], ◌∷◌, Option, Some, None, refl, ap, inl, inr, arith, count_by}
use Rattle.std.specs.List.{sum_by}
use Rattle.std.proofs.lemmas.Bool.{cases_Bool, cases_eq, and_parts}
use Rattle.std.proofs.lemmas.List.Sums.{sum_by-cons}
use Rattle.shared_buffer.specs.Lists.{Lists}
use Rattle.shared_buffer.specs.Slots.{slot_at}
use Rattle.shared_buffer.specs.Graph.{is_successor, successors, Stands, IsGraph}
use Rattle.shared_buffer.specs.Chain.{holds, IsNeeded}
use Rattle.shared_buffer.specs.Chain.IsOnChain.{Last, Earlier}
use Rattle.shared_buffer.specs.declared.edges.Edge.{Edge}
use Rattle.shared_buffer.specs.declared.node.Node.{Node}
use Rattle.shared_buffer.proofs.SlotLaws.{same_value, slot-within-sum}
use Rattle.shared_buffer.proofs.GraphLaws.{weight, leads_to-is}

-- a sum that is not 0 has a slot that is not
positive_slot : {T : Type 0} (w : Option T → ℕ) (slots : List (Option T)) → 0 < sum_by w slots → (key : ℕ) × (0 < w (slot_at slots key))
positive_slot w [] positive = absurd (omega (arith, positive))
positive_slot w (slot ∷ slots) positive =
    elim (cases_eq (w slot) 0) [
      | inl none ↦ let rest = positive_slot w slots (omega (arith, sum_by-cons w slot slots, none, positive)) in (suc rest.0, rest.1)
      | inr some ↦ (0, omega (arith, some))
    ]

-- one of the edges passes
record Passes (p : Edge → Bool) (edges : List Edge) : Type 0 where
  one : Edge
  listed : Lists edges one
  passes : p one ≡ true

positive_listed : (p : Edge → Bool) (edges : List Edge) → 0 < count_by p edges → Passes p edges
positive_listed p [] positive = absurd (omega (arith, positive))
positive_listed p (x ∷ edges) positive =
    elim (cases_Bool (p x)) [
      | inl passes ↦ record { one = x; listed = inl refl; passes = passes }
      | inr fails ↦
          let rest = positive_listed p edges (omega (arith, sum_by-cons (λ e. cond (p e) 1 0) x edges, ap {B = ℕ} (λ b. cond b 1 0) fails, positive)) in
          record { one = rest.one; listed = inr rest.listed; passes = rest.passes }
    ]

-- an edge that stands on the one of the key with the label
record Successor (nodes : List (Option Node)) (key : ℕ) (label : List ℕ) : Type 0 where
  next : ℕ
  node : Node
  later : Edge
  found : slot_at nodes next ≡ Some node
  listed : Lists node.edges later
  is : is_successor key label later ≡ true

successor_of : (nodes : List (Option Node)) (key : ℕ) (label : List ℕ) → 0 < successors nodes key label → Successor nodes key label
successor_of nodes key label positive =
    let at = positive_slot (weight key label) nodes positive in
    by_slot at.0 (slot_at nodes at.0) refl at.1
  where
    by_slot : (next : ℕ) (slot : Option Node) → slot_at nodes next ≡ slot → 0 < weight key label slot → Successor nodes key label
    by_slot next None is some = absurd (omega (arith, some))
    by_slot next (Some node) is some =
        let one = positive_listed (is_successor key label) node.edges some in
        record { next = next; node = node; later = one.one; found = is; listed = one.listed; is = one.passes }

abbrev position_of : Option Node → ℕ
position_of None = 0
position_of (Some node) = node.position

module _ (nodes : List (Option Node)) (graph : IsGraph nodes) where
  -- the edges that stand on an edge have higher positions, of which there is a highest
  climb :
      (n : ℕ) (key : ℕ) (node : Node) (edge : Edge) → slot_at nodes key ≡ Some node → Lists node.edges edge
      → sum_by position_of nodes < node.position + n → IsNeeded nodes (holds nodes) key edge
  climb zero key node edge found listed high =
      absurd (omega (arith, high, slot-within-sum position_of refl nodes key, ap position_of found))
  climb (suc n) key node edge found listed high =
      let stands : Stands nodes key edge = record { node = node; found = found; listed = listed } in
      elim (cases_eq (holds nodes key edge) 0) [
        | inl none ↦
            let counted = graph.counted key edge stands in
            let next = successor_of nodes key edge.label (omega (arith, counted.0, none)) in
            let both = and_parts _ _ next.is in
            let to = leads_to-is key next.later.pred both.0 in
            let root = graph.rooted next.next next.node next.later key next.found next.listed to in
            let same : node ≡ root.node = same_value nodes key key node root.node refl found root.found in
            let above = climb n next.next next.node next.later next.found next.listed (omega (arith, high, root.before, ap (λ (x : Node). x.position) same)) in
            record {
              last_key = above.last_key;
              last = above.last;
              chain =
                  Earlier next.next key next.later edge
                  (record {
                    stands = record { node = next.node; found = next.found; listed = next.listed };
                    leads_there = to;
                    stands_there = stands;
                    goes_on = both.1;
                  })
                  above.chain;
              is_held = above.is_held;
            }
        | inr some ↦ record { last_key = key; last = edge; chain = Last stands; is_held = omega (arith, some) }
      ]

  pub needed_all : (key : ℕ) (edge : Edge) → Stands nodes key edge → IsNeeded nodes (holds nodes) key edge
  needed_all key edge stands =
      climb (suc (sum_by position_of nodes)) key stands.node edge stands.found stands.listed (omega arith)
