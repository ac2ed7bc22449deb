-- What `put` asks and leaves (after the edges with Dewey numbers of Agrawal, Diao, Gyllstrom and Immerman; that labels on
-- a node are prefix-free is this project's own).
use Rattle.std.specs.Prelude.{◌≡◌, ℕ, ◌+◌, ◌^◌, ◌<◌, List, [], ◌∷◌, Option, Some, None, IsSome}
use Rattle.shared_buffer.specs.Slots.{slot_at, Changes}
use Rattle.shared_buffer.specs.Edges.{find_edge, with_edge}
use Rattle.shared_buffer.specs.Nodes.{with_pred_counted}
use Rattle.shared_buffer.specs.Graph.{IsApartFrom}
use Rattle.shared_buffer.specs.Content.{Content}
use Rattle.shared_buffer.specs.declared.edges.Edge.{Edge}
use Rattle.shared_buffer.specs.declared.node.Node.{Node}
use Rattle.shared_buffer.specs.declared.node.Standing.{Standing}

-- a node of a lower position stands under the key. One of its edges leads on with the label, and can be
-- counted one higher
pub record CanCarry (nodes : List (Option Node)) (position : ℕ) (label : List ℕ) (key : ℕ) : Type 0 where
  pub node : Node
  pub found : slot_at nodes key ≡ Some node
  pub before : node.position < position
  pub edge : Edge
  pub found_edge : find_edge node.edges label ≡ Some edge
  pub room : edge.count + 1 < 2 ^ 64

-- no edge of this state on this event has a label that goes on from this one, or that this one goes on from
abbrev pub IsNewLabel : List (Option Node) → ℕ → ℕ → List ℕ → Type 0
IsNewLabel nodes event state label =
    (key : ℕ) (node : Node) → slot_at nodes key ≡ Some node → node.event ≡ event → node.state ≡ state → IsApartFrom label node.edges

-- the node of this state on this event, where there is one, is of this stage
abbrev pub IsOfStage : List (Option Node) → ℕ → ℕ → ℕ → Type 0
IsOfStage nodes event state stage =
    (key : ℕ) (node : Node) → slot_at nodes key ≡ Some node → node.event ≡ event → node.state ≡ state → node.stage ≡ stage

-- the node of the key is of this stage, and none of its labels is a prefix of this one or has this one as a prefix
pub record Fits (nodes : List (Option Node)) (key stage : ℕ) (label : List ℕ) : Type 0 where
  pub node : Node
  pub found : slot_at nodes key ≡ Some node
  pub of_stage : node.stage ≡ stage
  pub apart : IsApartFrom label node.edges

-- what `put` asks: the event stands, the stage is that of the node that is there already, the predecessor carries the
-- label, and no label on the node is a prefix of this one or has this one as a prefix
pub record CanPut (buffer : Content) (stage state event : ℕ) (pred : Option ℕ) (label : List ℕ) : Type 0 where
  pub stands : IsSome (slot_at buffer.events event)
  pub of_stage : IsOfStage buffer.nodes event state stage
  pub carries :
      (key : ℕ) → pred ≡ Some key → (row : Standing) → slot_at buffer.events event ≡ Some row
      → CanCarry buffer.nodes row.position label key
  pub apart : IsNewLabel buffer.nodes event state label

-- a node of this stage, state, event and position stands under the key
pub record IsPlaced (nodes : List (Option Node)) (key stage state event position : ℕ) : Type 0 where
  pub node : Node
  pub found : slot_at nodes key ≡ Some node
  pub stage_is : node.stage ≡ stage
  pub state_is : node.state ≡ state
  pub event_is : node.event ≡ event
  pub position_is : node.position ≡ position

-- the node of the key with one edge more, or a node of that edge
abbrev pub node_put : Option Node → (stage state event position : ℕ) → Edge → Node
node_put (Some node) stage state event position edge = record node { edges = with_edge edge node.edges }
node_put None stage state event position edge =
    record { stage = stage; state = state; event = event; position = position; edges = edge ∷ [] }

-- the key is that of the node of this state on this event, or new where there is none
pub record IsPlace (nodes : List (Option Node)) (event state key : ℕ) : Type 0 where
  pub taken : (node : Node) → slot_at nodes key ≡ Some node → (node.event ≡ event) × (node.state ≡ state)
  pub vacant :
      slot_at nodes key ≡ None
      → (other : ℕ) (node : Node) → slot_at nodes other ≡ Some node → node.event ≡ event → node.state ≡ state → ⊥

-- the node of this state on this event has an edge more, with this label and a count of one, and the edge
-- that it stands on is counted one higher
pub record Puts (old new : Content) (stage state event : ℕ) (pred : Option ℕ) (label : List ℕ) (key : ℕ) : Type 0 where
  pub row : Standing
  pub found : slot_at old.events event ≡ Some row
  pub place : IsPlace old.nodes event state key
  pub placed : IsPlaced new.nodes key stage state event row.position
  pub nodes :
      Changes (with_pred_counted label pred old.nodes) new.nodes key
      (Some (node_put (slot_at old.nodes key) stage state event row.position (record { pred = pred; label = label; count = 1 })))
  pub events : new.events ≡ old.events
