-- What holds of every buffer: its nodes form a counted graph, and its events know their nodes (after the shared match
-- buffer with reference counts of Agrawal, Diao, Gyllstrom and Immerman; one node for a state and an event is this
-- project's own).
use Rattle.std.specs.Prelude.{◌≡◌, ℕ, ◌<◌, ◌≤◌, ◌^◌, ◌==◌, Bool, true, false, ◌&&◌, List, [], ◌∷◌, length, Option, Some, None, sum_by, count_by}
use Rattle.dewey_version.specs.Version.{begins}
use Rattle.shared_buffer.specs.Lists.{Lists}
use Rattle.shared_buffer.specs.Slots.{slot_at}
use Rattle.shared_buffer.specs.Members.{find_member, HasDistinctStates}
use Rattle.shared_buffer.specs.declared.edges.Edge.{Edge}
use Rattle.shared_buffer.specs.declared.node.Node.{Node}
use Rattle.shared_buffer.specs.declared.node.Entry.{Entry}

-- the edge leads to this node
abbrev pub leads_to : ℕ → Option ℕ → Bool
leads_to node None = false
leads_to node (Some pred) = pred == node

-- the edge leads to this node, and its label goes on from this one
abbrev pub is_successor : ℕ → List ℕ → Edge → Bool
is_successor node label edge = leads_to node edge.pred && begins label edge.label

-- the edges of a slot
abbrev pub edges_of : Option Node → List Edge
edges_of None = []
edges_of (Some node) = node.edges

-- how many edges of the buffer stand on the edge of this node with this label
abbrev pub successors : List (Option Node) → ℕ → List ℕ → ℕ
successors nodes node label = sum_by (λ slot. count_by (is_successor node label) (edges_of slot)) nodes

-- how many edges there are
abbrev pub edge_total : List (Option Node) → ℕ
edge_total nodes = sum_by (λ slot. length (edges_of slot)) nodes

-- the label and each of these edges' labels: neither begins with the other
abbrev pub IsApartFrom : List ℕ → List Edge → Type 0
IsApartFrom label [] = Unit {0}
IsApartFrom label (edge ∷ edges) =
    ((begins label edge.label ≡ false) × (begins edge.label label ≡ false)) × IsApartFrom label edges

-- no label begins with another
abbrev pub IsPrefixFree : List Edge → Type 0
IsPrefixFree [] = Unit {0}
IsPrefixFree (edge ∷ edges) = IsApartFrom edge.label edges × IsPrefixFree edges

-- the edge stands on the node of this key
pub record Stands (nodes : List (Option Node)) (key : ℕ) (edge : Edge) : Type 0 where
  pub node : Node
  pub found : slot_at nodes key ≡ Some node
  pub listed : Lists node.edges edge

-- the node of this key stands before the position, and one of its edges has a label that this one begins with
pub record IsRooted (nodes : List (Option Node)) (key position : ℕ) (label : List ℕ) : Type 0 where
  pub node : Node
  pub found : slot_at nodes key ≡ Some node
  pub before : node.position < position
  pub edge : Edge
  pub listed : Lists node.edges edge
  pub begins_it : begins edge.label label ≡ true

-- each node has edges, whose labels are prefix-free. Each edge is counted for every edge that stands on
-- it, and at least once. It leads to no node, or to one of a lower position with an edge for its label
pub record IsGraph (nodes : List (Option Node)) : Type 0 where
  pub has_edge : (key : ℕ) (node : Node) → slot_at nodes key ≡ Some node → 0 < length node.edges
  pub prefix_free : (key : ℕ) (node : Node) → slot_at nodes key ≡ Some node → IsPrefixFree node.edges
  pub counted : (key : ℕ) (edge : Edge) → Stands nodes key edge → (0 < edge.count) × (successors nodes key edge.label ≤ edge.count)
  pub rooted :
      (key : ℕ) (node : Node) (edge : Edge) (pred : ℕ) → slot_at nodes key ≡ Some node → Lists node.edges edge
      → edge.pred ≡ Some pred → IsRooted nodes pred node.position edge.label

-- the node's event stands at its position, and lists it under its state
pub record IsListed (entries : List (Option Entry)) (key : ℕ) (node : Node) : Type 0 where
  pub entry : Entry
  pub found : slot_at entries node.event ≡ Some entry
  pub member : find_member entry.members node.state ≡ Some key
  pub position : entry.row.position ≡ node.position

-- a node of this event and state stands under the key
pub record IsMember (nodes : List (Option Node)) (event state key : ℕ) : Type 0 where
  pub node : Node
  pub found : slot_at nodes key ≡ Some node
  pub of_event : node.event ≡ event
  pub of_state : node.state ≡ state

-- each event knows its nodes, one for each state. An event that has no pin has a node
pub record IsIndexed (entries : List (Option Entry)) (nodes : List (Option Node)) : Type 0 where
  pub listed : (key : ℕ) (node : Node) → slot_at nodes key ≡ Some node → IsListed entries key node
  pub stands :
      (event : ℕ) (entry : Entry) (state key : ℕ) → slot_at entries event ≡ Some entry
      → find_member entry.members state ≡ Some key → IsMember nodes event state key
  pub distinct : (event : ℕ) (entry : Entry) → slot_at entries event ≡ Some entry → HasDistinctStates entry.members
  pub used : (event : ℕ) (entry : Entry) → slot_at entries event ≡ Some entry → entry.row.pinned ≡ false → 0 < length entry.members

-- what a buffer keeps true
pub record IsSound (entries : List (Option Entry)) (nodes : List (Option Node)) (edge_count : ℕ) : Type 0 where
  pub graph : IsGraph nodes
  pub indexed : IsIndexed entries nodes
  pub edges : edge_count ≡ edge_total nodes
  pub few : edge_count ≤ 2 ^ 62
