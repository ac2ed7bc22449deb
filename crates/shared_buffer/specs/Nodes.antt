-- What a contract says of nodes by their keys (this project's own).
use Rattle.std.specs.Prelude.{◌≡◌, ℕ, ◌+◌, ◌^◌, ◌<◌, ◌==◌, true, List, length, Option, Some, None, IsSome, option_and_then, if◌then◌else◌}
use Rattle.dewey_version.specs.Version.{begins}
use Rattle.shared_buffer.specs.Graph.{successors}
use Rattle.shared_buffer.specs.Lists.{Lists}
use Rattle.shared_buffer.specs.Slots.{slot_at, with_slot_changed}
use Rattle.shared_buffer.specs.Edges.{find_edge, HasEdge, with_edge, counted_up, counted_down, without_edge}
use Rattle.shared_buffer.specs.declared.edges.Edge.{Edge}
use Rattle.shared_buffer.specs.declared.node.Node.{Node}

-- the edge that leads on with the version from the node of a key
abbrev pub edge_at : List (Option Node) → ℕ → List ℕ → Option Edge
edge_at nodes key version = option_and_then (λ node. find_edge node.edges version) (slot_at nodes key)

-- there is such a node and such an edge
abbrev pub HasEdgeAt : List (Option Node) → ℕ → List ℕ → Type 0
HasEdgeAt nodes key version = IsSome (edge_at nodes key version)

-- there is such an edge, and it can be counted one higher
pub record CanHold (nodes : List (Option Node)) (key : ℕ) (version : List ℕ) : Type 0 where
  pub leads : HasEdgeAt nodes key version
  pub room : (edge : Edge) → edge_at nodes key version ≡ Some edge → edge.count + 1 < 2 ^ 64

-- the node, of which the edge that leads on with the version is counted one higher
abbrev pub node_up : List ℕ → Node → Node
node_up version node = record node { edges = counted_up node.edges version }

-- the node, of which that edge is counted one lower
abbrev pub node_down : List ℕ → Node → Node
node_down version node = record node { edges = counted_down node.edges version }

-- the node without that edge
abbrev pub node_without : List ℕ → Node → Node
node_without version node = record node { edges = without_edge node.edges version }

-- the node with one edge more
abbrev pub node_with : Edge → Node → Node
node_with edge node = record node { edges = with_edge edge node.edges }

-- the node without the edge that leads on with the version, or nothing where it was the only one
abbrev pub slot_without : List ℕ → Node → Option Node
slot_without version node = if length (without_edge node.edges version) == 0 then None else Some (node_without version node)

-- the node of this key stands before the position. One of its edges has a label that this one begins
-- with, and is counted once more than edges stand on it
pub record HasHoldAt (nodes : List (Option Node)) (key position : ℕ) (label : List ℕ) : Type 0 where
  pub node : Node
  pub found : slot_at nodes key ≡ Some node
  pub before : node.position < position
  pub edge : Edge
  pub listed : Lists node.edges edge
  pub begins_it : begins edge.label label ≡ true
  pub free : successors nodes key edge.label < edge.count

-- the node of this key stands before the position, and one of its edges leads on with the version
pub record GoesOn (nodes : List (Option Node)) (key position : ℕ) (version : List ℕ) : Type 0 where
  pub node : Node
  pub found : slot_at nodes key ≡ Some node
  pub before : node.position < position
  pub leads_on : HasEdge node.edges version

-- the nodes, of which the edge that this label goes on from is counted one higher, where there is one
abbrev pub with_pred_counted : List ℕ → Option ℕ → List (Option Node) → List (Option Node)
with_pred_counted label None nodes = nodes
with_pred_counted label (Some pred) nodes = with_slot_changed (node_up label) nodes pred
