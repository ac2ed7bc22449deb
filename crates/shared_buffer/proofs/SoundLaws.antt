-- A buffer stays sound through each change.
use Rattle.std.proofs.Common.{◌≡◌, ℕ, ◌<◌, ◌≤◌, List, Option, Some, None, refl, sym, ◌∙◌, subst, arith}
use Rattle.std.specs.Prelude.{IsSome, option_and_then}
use Rattle.dewey_version.proofs.VersionLaws.{begins_trans}
use Rattle.shared_buffer.specs.Lists.{change_first}
use Rattle.shared_buffer.specs.Slots.{slot_at, with_slot_changed}
use Rattle.shared_buffer.specs.Edges.{leads, find_edge, edge_up, edge_down}
use Rattle.shared_buffer.specs.Nodes.{HasEdgeAt, node_up, node_down, GoesOn}
use Rattle.shared_buffer.specs.Graph.{successors, IsGraph, IsSound}
use Rattle.shared_buffer.specs.declared.edges.Edge.{Edge}
use Rattle.shared_buffer.specs.declared.node.Node.{Node}
use Rattle.shared_buffer.specs.declared.node.Entry.{Entry}
use Rattle.shared_buffer.proofs.ChangePremises.{Found, Recounts}
use Rattle.shared_buffer.proofs.ListLaws.{found_listed, found_passes, listed_found}
use Rattle.shared_buffer.proofs.SlotLaws.{in_place}
use Rattle.shared_buffer.proofs.GraphLaws.{counted_enough, IsGraph-recount, edge_total-recount}
use Rattle.shared_buffer.proofs.IndexLaws.{IsIndexed-node_change}

value_of : {T : Type 0} (o : Option T) → IsSome o → (x : T) × (o ≡ Some x)
value_of None present = absurd (cc)
value_of (Some x) present = (x, refl)

pub Found-from : (nodes : List (Option Node)) (key : ℕ) (version : List ℕ) → HasEdgeAt nodes key version → Found nodes key version
Found-from nodes key version has = by_slot (slot_at nodes key) refl
  where
    by_slot : (slot : Option Node) → slot_at nodes key ≡ slot → Found nodes key version
    by_slot None is =
        let bad : IsSome (option_and_then (λ (n : Node). find_edge n.edges version) None) =
        subst (λ (s : Option Node). IsSome (option_and_then (λ (n : Node). find_edge n.edges version) s)) is has in absurd (cc)
    by_slot (Some node) is =
        let present : IsSome (find_edge node.edges version) =
        subst (λ (s : Option Node). IsSome (option_and_then (λ (n : Node). find_edge n.edges version) s)) is has in
        let e = value_of (find_edge node.edges version) present in
        record { node = node; found = is; edge = e.0; found_edge = e.1 }

-- what leads on from an edge leads on from the one before it
pub goes_on :
    (nodes : List (Option Node)) → IsGraph nodes → (key : ℕ) (node : Node) (edge : Edge) (version : List ℕ)
    → slot_at nodes key ≡ Some node → find_edge node.edges version ≡ Some edge → (pred : ℕ) → edge.pred ≡ Some pred
    → GoesOn nodes pred node.position version
goes_on nodes graph key node edge version found found_edge pred to_pred =
    let root = graph.rooted key node edge pred found (found_listed (leads version) node.edges edge found_edge) to_pred in
    record {
      node = root.node;
      found = root.found;
      before = root.before;
      leads_on =
          listed_found (leads version) root.node.edges root.edge root.listed
          (begins_trans root.edge.label edge.label version root.begins_it (found_passes (leads version) node.edges edge found_edge));
    }

-- one of a node's edges is counted otherwise, and still often enough
pub IsSound-recount :
    {entries : List (Option Entry)} {nodes : List (Option Node)} {count : ℕ} (sound : IsSound entries nodes count)
    {new : List (Option Node)} {key : ℕ} {version : List ℕ} {f : Edge → Edge} (recount : Recounts nodes new key version f)
    → 0 < (f recount.at.edge).count → successors nodes key recount.at.edge.label ≤ (f recount.at.edge).count → IsSound entries new count
IsSound-recount {entries} {nodes} sound {new} {key} {version} {f} recount positive enough =
    record {
      graph = IsGraph-recount recount sound.graph positive enough;
      indexed =
          IsIndexed-node_change entries nodes sound.indexed new key recount.at.node
          (record recount.at.node { edges = change_first (leads version) f recount.at.node.edges })
          recount.at.found recount.changes refl refl refl;
      edges = sound.edges ∙ sym (edge_total-recount recount);
      few = sound.few;
    }

module _
    {entries : List (Option Entry)} {nodes : List (Option Node)} {count : ℕ} (sound : IsSound entries nodes count)
    {key : ℕ} {version : List ℕ} (at : Found nodes key version) where
  pub IsSound-up : IsSound entries (with_slot_changed (node_up version) nodes key) count
  IsSound-up =
      IsSound-recount sound {f = edge_up}
      (record { at = at; keeps_pred = λ e. refl; keeps_label = λ e. refl; changes = in_place (node_up version) nodes key at.node at.found })
      (omega arith) (omega (arith, counted_enough sound.graph at))

  pub IsSound-down :
      successors nodes key at.edge.label < at.edge.count → 1 < at.edge.count
      → IsSound entries (with_slot_changed (node_down version) nodes key) count
  IsSound-down free many =
      IsSound-recount sound {f = edge_down}
      (record { at = at; keeps_pred = λ e. refl; keeps_label = λ e. refl; changes = in_place (node_down version) nodes key at.node at.found })
      (omega arith) (omega arith)
