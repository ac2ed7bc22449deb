-- The counted graph of nodes, when an edge on which nothing stands goes.
use Rattle.std.proofs.Common.{◌≡◌, ◌≢◌, ℕ, ◌+◌, ◌<◌, true, cond, List, [], ◌∷◌, length, Option, Some, None, refl, ap, sym, ◌∙◌, subst, inl, inr, arith, count_by}
use Rattle.std.proofs.lemmas.Bool.{cases_eq, and_from, eq-eqb, ne_eqb}
use Rattle.dewey_version.specs.Version.{begins}
use Rattle.shared_buffer.specs.Lists.{Lists}
use Rattle.shared_buffer.specs.Slots.{slot_at}
use Rattle.shared_buffer.specs.Edges.{leads, without_edge}
use Rattle.shared_buffer.specs.Graph.{is_successor, edges_of, successors, edge_total, IsPrefixFree, Stands, IsRooted, IsGraph}
use Rattle.shared_buffer.specs.Nodes.{HasHoldAt, slot_without, node_without}
use Rattle.shared_buffer.specs.declared.edges.Edge.{Edge}
use Rattle.shared_buffer.specs.declared.node.Node.{Node}
use Rattle.shared_buffer.proofs.ChangePremises.{DropsEdge}
use Rattle.shared_buffer.proofs.ListLaws.{listed_after_remove, listed_through_remove, sum_by-remove_first, length-remove_first, found_listed}
use Rattle.shared_buffer.proofs.SlotLaws.{changed_cases, unchanged_at, same_value}
use Rattle.shared_buffer.proofs.EdgeLaws.{IsPrefixFree-remove}
use Rattle.shared_buffer.proofs.GraphLaws.{weight, is-leads_to, successors-changes, edge_total-changes, stands_on, keeps_root}

pub listed-length : (es : List Edge) (e : Edge) → Lists es e → 0 < length es
listed-length [] e listed = absurd listed
listed-length (x ∷ es) e listed = omega arith

module _ {nodes new : List (Option Node)} {key : ℕ} {version : List ℕ} (drop : DropsEdge nodes new key version) where
  -- the node that is left, where one is
  pub slot_left : 0 < length (without_edge drop.at.node.edges version) → slot_without version drop.at.node ≡ Some (node_without version drop.at.node)
  slot_left some = rw (ne_eqb (length (without_edge drop.at.node.edges version)) 0 (omega arith)) refl

  pub slot_gone : length (without_edge drop.at.node.edges version) ≡ 0 → slot_without version drop.at.node ≡ None
  slot_gone nothing = rw (eq-eqb (length (without_edge drop.at.node.edges version)) 0 nothing) refl

  rest_of_slot : edges_of (slot_without version drop.at.node) ≡ without_edge drop.at.node.edges version
  rest_of_slot = by_length (without_edge drop.at.node.edges version) refl
    where
      by_length :
          (es : List Edge) → without_edge drop.at.node.edges version ≡ es
          → edges_of (slot_without version drop.at.node) ≡ without_edge drop.at.node.edges version
      by_length [] is = ap edges_of (slot_gone (ap (λ (xs : List Edge). length xs) is)) ∙ sym is
      by_length (x ∷ es) is = ap edges_of (slot_left (omega (arith, ap (λ (xs : List Edge). length xs) is)))

  pub slot_value :
      (n : Node) → slot_without version drop.at.node ≡ Some n
      → (node_without version drop.at.node ≡ n) × (0 < length (without_edge drop.at.node.edges version))
  slot_value n is =
      elim (cases_eq (length (without_edge drop.at.node.edges version)) 0) [
        | inl nothing ↦ let bad : None ≡ Some n = sym (slot_gone nothing) ∙ is in absurd (cc)
        | inr some ↦
            let long : 0 < length (without_edge drop.at.node.edges version) = omega arith in
            let e : Some (node_without version drop.at.node) ≡ Some n = sym (slot_left long) ∙ is in
            (cc, long)
      ]

  -- an edge loses a successor where the one that goes stood on it
  pub successors-drop : (q : ℕ) (label : List ℕ) → successors new q label + cond (is_successor q label drop.at.edge) 1 0 ≡ successors nodes q label
  successors-drop q label =
      omega (
        arith,
        successors-changes nodes new key (slot_without version drop.at.node) drop.changes q label,
        ap (weight q label) drop.at.found,
        ap (count_by (is_successor q label)) rest_of_slot,
        sum_by-remove_first (leads version) (λ e. cond (is_successor q label e) 1 0) drop.at.node.edges drop.at.edge drop.at.found_edge,
      )

  pub edge_total-drop : edge_total new + 1 ≡ edge_total nodes
  edge_total-drop =
      omega (
        arith,
        edge_total-changes nodes new key (slot_without version drop.at.node) drop.changes,
        ap (λ (s : Option Node). length (edges_of s)) drop.at.found,
        ap (λ (es : List Edge). length es) rest_of_slot,
        length-remove_first (leads version) drop.at.node.edges drop.at.edge drop.at.found_edge,
      )

  pub stands_after_drop : (other : ℕ) (e : Edge) → Stands new other e → Stands nodes other e
  stands_after_drop other e stands =
      elim (changed_cases nodes new key (slot_without version drop.at.node) drop.changes other stands.node stands.found) [
        | inl here ↦
            let left = slot_value stands.node here.1 in
            record {
              node = drop.at.node;
              found = ap (slot_at nodes) here.0 ∙ drop.at.found;
              listed = listed_after_remove (leads version) drop.at.node.edges e (subst (λ (x : Node). Lists x.edges e) (sym left.0) stands.listed);
            }
        | inr elsewhere ↦ record { node = stands.node; found = elsewhere.1; listed = stands.listed }
      ]

  -- an edge with a successor other than the one that goes does not go
  keeps_rooted :
      (pred position : ℕ) (label : List ℕ) → (root : IsRooted nodes pred position label)
      → (pred ≡ key → begins drop.at.edge.label label ≡ true → ⊥) → IsRooted new pred position label
  keeps_rooted pred position label root not_the_edge =
      keeps_root nodes new key (slot_without version drop.at.node) drop.changes pred position label root (λ here.
      let m : drop.at.node ≡ root.node = same_value nodes key pred drop.at.node root.node here drop.at.found root.found in
      let listed : Lists drop.at.node.edges root.edge = subst (λ (x : Node). Lists x.edges root.edge) (sym m) root.listed in
      let before : drop.at.node.position < position = omega (arith, root.before, ap (λ (x : Node). x.position) m) in
      elim (listed_through_remove (leads version) drop.at.node.edges root.edge listed) [
        | inl the_edge ↦
            let same : Some drop.at.edge ≡ Some root.edge = sym drop.at.found_edge ∙ the_edge in
            let same' : drop.at.edge ≡ root.edge = cc in
            absurd (not_the_edge here (ap (λ (e : Edge). begins e.label label) same' ∙ root.begins_it))
        | inr kept ↦
            record {
              node = node_without version drop.at.node;
              found = ap (slot_at new) here ∙ drop.changes.changed ∙ slot_left (listed-length (without_edge drop.at.node.edges version) root.edge kept);
              before = before;
              edge = root.edge;
              listed = kept;
              begins_it = root.begins_it;
            }
      ])

  pub IsGraph-drop : IsGraph new
  IsGraph-drop =
      record {
        has_edge = λ other n there.
            elim (changed_cases nodes new key (slot_without version drop.at.node) drop.changes other n there) [
              | inl here ↦
                  let left = slot_value n here.1 in
                  omega (arith, left.1, ap (λ (x : Node). length x.edges) left.0)
              | inr elsewhere ↦ drop.graph.has_edge other n elsewhere.1
            ];
        prefix_free = λ other n there.
            elim (changed_cases nodes new key (slot_without version drop.at.node) drop.changes other n there) [
              | inl here ↦
                  let left = slot_value n here.1 in
                  subst (λ (x : Node). IsPrefixFree x.edges) left.0
                  (IsPrefixFree-remove (leads version) drop.at.node.edges (drop.graph.prefix_free key drop.at.node drop.at.found))
              | inr elsewhere ↦ drop.graph.prefix_free other n elsewhere.1
            ];
        counted = λ other e stands.
            let was = drop.graph.counted other e (stands_after_drop other e stands) in
            (was.0, omega (arith, was.1, successors-drop other e.label));
        rooted = λ other n e pred there listed to_pred.
            let before = stands_after_drop other e (record { node = n; found = there; listed = listed }) in
            let root = drop.graph.rooted other before.node e pred before.found before.listed to_pred in
            let not_the_edge : pred ≡ key → begins drop.at.edge.label e.label ≡ true → ⊥ =
            (λ here goes_on.
            omega (
              arith,
              drop.free,
              stands_on nodes other before.node e pred drop.at.edge.label before.found before.listed to_pred goes_on,
              ap (λ k. successors nodes k drop.at.edge.label) here,
            )) in
            let after = keeps_rooted pred before.node.position e.label root not_the_edge in
            subst (λ (p : ℕ). IsRooted new pred p e.label) (same_position other n there before.node before.found) after;
      }
    where
      same_position : (other : ℕ) (n : Node) → slot_at new other ≡ Some n → (m : Node) → slot_at nodes other ≡ Some m → m.position ≡ n.position
      same_position other n there m was =
          elim (changed_cases nodes new key (slot_without version drop.at.node) drop.changes other n there) [
            | inl here ↦
                let left = slot_value n here.1 in
                let e : drop.at.node ≡ m = same_value nodes key other drop.at.node m here.0 drop.at.found was in
                ap (λ (x : Node). x.position) (sym e) ∙ ap (λ (x : Node). x.position) left.0
            | inr elsewhere ↦
                let e : n ≡ m = same_value nodes other other n m refl elsewhere.1 was in
                ap (λ (x : Node). x.position) (sym e)
          ]

  -- the edge on which the one that goes stood has a hold now
  pub hold_after_drop : (pred : ℕ) → drop.at.edge.pred ≡ Some pred → HasHoldAt new pred drop.at.node.position drop.at.edge.label
  hold_after_drop pred to_pred =
      let listed = found_listed (leads version) drop.at.node.edges drop.at.edge drop.at.found_edge in
      let root = drop.graph.rooted key drop.at.node drop.at.edge pred drop.at.found listed to_pred in
      let apart : pred ≢ key =
      (λ (here : pred ≡ key).
      let m : drop.at.node ≡ root.node = same_value nodes key pred drop.at.node root.node here drop.at.found root.found in
      omega (arith, root.before, ap (λ (x : Node). x.position) m)) in
      let counted = drop.graph.counted pred root.edge (record { node = root.node; found = root.found; listed = root.listed }) in
      let is : is_successor pred root.edge.label drop.at.edge ≡ true = and_from _ _ (is-leads_to pred drop.at.edge.pred to_pred) root.begins_it in
      record {
        node = root.node;
        found = unchanged_at nodes new key (slot_without version drop.at.node) drop.changes pred root.node apart root.found;
        before = root.before;
        edge = root.edge;
        listed = root.listed;
        begins_it = root.begins_it;
        free = omega (arith, counted.1, successors-drop pred root.edge.label, ap {B = ℕ} (λ b. cond b 1 0) is);
      }
