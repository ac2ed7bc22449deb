-- What is true of every buffer, after every list of calls that meet their conditions (this project's own).
use Rattle.std.specs.Prelude.{◌≡◌, ℕ, ◌+◌, ◌<◌, ◌≤◌, ◌^◌, true, false, List, length, Option, Some}
use Rattle.dewey_version.specs.Version.{begins}
use Rattle.shared_buffer.specs.Lists.{Lists}
use Rattle.shared_buffer.specs.Slots.{slot_at}
use Rattle.shared_buffer.specs.Content.{Content, IsUsed, HasPosition}
use Rattle.shared_buffer.specs.Graph.{successors, edge_total, Stands, IsPrefixFree}
use Rattle.shared_buffer.specs.Chain.{holds, IsNeeded}
use Rattle.shared_buffer.specs.declared.edges.Edge.{Edge}
use Rattle.shared_buffer.specs.declared.node.Node.{Node}
use Rattle.shared_buffer.specs.declared.node.Standing.{Standing}

-- the node of this key stands before the position, and exactly one of its edges has a label that this one begins with
pub record HasOneEdgeFor (nodes : List (Option Node)) (key position : ℕ) (label : List ℕ) : Type 0 where
  pub node : Node
  pub found : slot_at nodes key ≡ Some node
  pub before : node.position < position
  pub edge : Edge
  pub listed : Lists node.edges edge
  pub begins_it : begins edge.label label ≡ true
  pub only : (other : Edge) → Lists node.edges other → begins other.label label ≡ true → other ≡ edge

-- what is true of every buffer
pub record IsConsistent (buffer : Content) : Type 0 where
  -- each node has an edge, and its event stands at its position
  pub has_edge : (key : ℕ) (node : Node) → slot_at buffer.nodes key ≡ Some node → 0 < length node.edges
  pub has_event : (key : ℕ) (node : Node) → slot_at buffer.nodes key ≡ Some node → HasPosition buffer.events node.event node.position
  -- there is at most one node for a state and an event
  pub one_node :
      (key other : ℕ) (node another : Node) → slot_at buffer.nodes key ≡ Some node → slot_at buffer.nodes other ≡ Some another
      → node.state ≡ another.state → node.event ≡ another.event → key ≡ other
  -- no label on a node begins with another
  pub prefix_free : (key : ℕ) (node : Node) → slot_at buffer.nodes key ≡ Some node → IsPrefixFree node.edges
  -- the count of each edge is its successors and its holds, and at least 1
  pub counted :
      (key : ℕ) (edge : Edge) → Stands buffer.nodes key edge
      → (0 < edge.count) × (edge.count ≡ successors buffer.nodes key edge.label + holds buffer.nodes key edge)
  -- an edge with a predecessor has exactly one edge there whose label begins its own, and the predecessor's event has
  -- a lower position
  pub rooted :
      (key : ℕ) (node : Node) (edge : Edge) (pred : ℕ) → slot_at buffer.nodes key ≡ Some node → Lists node.edges edge
      → edge.pred ≡ Some pred → HasOneEdgeFor buffer.nodes pred node.position edge.label
  -- each edge is on the chain of an edge that has a hold
  pub needed : (key : ℕ) (edge : Edge) → Stands buffer.nodes key edge → IsNeeded buffer.nodes (holds buffer.nodes) key edge
  -- there are not more edges than a memory can have
  pub few : edge_total buffer.nodes ≤ 2 ^ 62
  -- an event without a pin has a node
  pub used : (key : ℕ) (row : Standing) → slot_at buffer.events key ≡ Some row → row.pinned ≡ false → IsUsed buffer.nodes key
