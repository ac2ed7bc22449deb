-- Exactly what a put, a hold and a release do: one hold comes or goes, and each edge and each node that stays keeps its
-- key and all else.
use Rattle.std.specs.Prelude.{◌≡◌, ◌⊎◌, ◌↔◌, ℕ, ◌+◌, ◌-◌, ◌==◌, ◌&&◌, List, Option, Some, if◌then◌else◌}
use Rattle.dewey_version.specs.Version.{begins}
use Rattle.shared_buffer.specs.Slots.{slot_at}
use Rattle.shared_buffer.specs.Graph.{Stands}
use Rattle.shared_buffer.specs.Chain.{holds, IsNeeded}
use Rattle.shared_buffer.specs.declared.edges.Edge.{Edge}
use Rattle.shared_buffer.specs.declared.node.Node.{Node}

-- 1 for the edge that leads on with the version from the node of the key, and 0 for every other
abbrev pub chosen : ℕ → List ℕ → ℕ → List ℕ → ℕ
chosen key version other label = if (other == key) && begins label version then 1 else 0

-- a node of the same stage, state, event and position stands under the key
pub record KeepsNode (nodes : List (Option Node)) (key : ℕ) (node : Node) : Type 0 where
  pub kept : Node
  pub found : slot_at nodes key ≡ Some kept
  pub same_stage : kept.stage ≡ node.stage
  pub same_state : kept.state ≡ node.state
  pub same_event : kept.event ≡ node.event
  pub same_position : kept.position ≡ node.position

-- an edge of the same label, to the same node, stands on the node of the key
pub record KeepsEdge (nodes : List (Option Node)) (key : ℕ) (edge : Edge) : Type 0 where
  pub kept : Edge
  pub stands : Stands nodes key kept
  pub same_label : kept.label ≡ edge.label
  pub same_pred : kept.pred ≡ edge.pred

-- the edge of the new nodes stood before, with the same label, to the same node, and with as many holds, of which this
-- many have come and this many have gone since
pub record StoodBefore (old new : List (Option Node)) (key : ℕ) (edge : Edge) (come gone : ℕ) : Type 0 where
  pub was : Edge
  pub stood : Stands old key was
  pub same_label : edge.label ≡ was.label
  pub same_pred : edge.pred ≡ was.pred
  pub same_holds : holds new key edge + gone ≡ holds old key was + come

-- one hold comes, on the edge that leads on with the version from the node of the key
pub record AddsOneHold (old new : List (Option Node)) (key : ℕ) (version : List ℕ) : Type 0 where
  pub stood : (other : ℕ) (edge : Edge) → Stands new other edge → StoodBefore old new other edge (chosen key version other edge.label) 0
  pub stays : (other : ℕ) (edge : Edge) → Stands old other edge → KeepsEdge new other edge
  pub node_stood : (other : ℕ) (node : Node) → slot_at new other ≡ Some node → KeepsNode old other node
  pub node_stays : (other : ℕ) (node : Node) → slot_at old other ≡ Some node → KeepsNode new other node

-- one edge comes, with one hold, and no other edge has another hold for it
pub record AddsOneEdge (old new : List (Option Node)) (key : ℕ) (edge : Edge) : Type 0 where
  pub stands : Stands new key edge
  pub one_hold : holds new key edge ≡ 1
  pub stood :
      (other : ℕ) (another : Edge) → Stands new other another
      → ((other ≡ key) × (another ≡ edge)) ⊎ StoodBefore old new other another 0 0
  pub stays : (other : ℕ) (another : Edge) → Stands old other another → KeepsEdge new other another
  pub node_stood : (other : ℕ) (node : Node) → slot_at new other ≡ Some node → (other ≡ key) ⊎ KeepsNode old other node
  pub node_stays : (other : ℕ) (node : Node) → slot_at old other ≡ Some node → KeepsNode new other node

-- one hold goes, from the edge that leads on with the version from the node of the key. Of the edges exactly those stay
-- that are on the chain of an edge with a hold that is left
pub record ReleasesOneHold (old new : List (Option Node)) (key : ℕ) (version : List ℕ) : Type 0 where
  pub stood : (other : ℕ) (edge : Edge) → Stands new other edge → StoodBefore old new other edge 0 (chosen key version other edge.label)
  pub stays :
      (other : ℕ) (edge : Edge) → Stands old other edge
      → KeepsEdge new other edge ↔ IsNeeded old (λ at held. holds old at held - chosen key version at held.label) other edge
  pub node_stood : (other : ℕ) (node : Node) → slot_at new other ≡ Some node → KeepsNode old other node
