-- What the laws of a changed and of a dropped edge stand on.
use Rattle.std.proofs.Common.{◌≡◌, ℕ, ◌≤◌, List, Option, Some, ap, sym, ◌∙◌}
use Rattle.std.specs.Prelude.{option_and_then}
use Rattle.shared_buffer.specs.Lists.{change_first}
use Rattle.shared_buffer.specs.Slots.{slot_at, Changes}
use Rattle.shared_buffer.specs.Edges.{leads, find_edge}
use Rattle.shared_buffer.specs.Nodes.{slot_without}
use Rattle.shared_buffer.specs.Graph.{successors, IsGraph}
use Rattle.shared_buffer.specs.Release.{HasHold}
use Rattle.shared_buffer.specs.declared.edges.Edge.{Edge}
use Rattle.shared_buffer.specs.declared.node.Node.{Node}

-- a node of a key, and its edge that leads on with a version
pub record Found (nodes : List (Option Node)) (key : ℕ) (version : List ℕ) : Type 0 where
  pub node : Node
  pub found : slot_at nodes key ≡ Some node
  pub edge : Edge
  pub found_edge : find_edge node.edges version ≡ Some edge

-- the same from what the code has read
abbrev pub read_found :
    {nodes : List (Option Node)} {key slot : ℕ} {version : List ℕ} {node : Node} {edge : Edge}
    → slot ≡ key → slot_at nodes slot ≡ Some node → find_edge node.edges version ≡ Some edge → Found nodes key version
read_found {nodes} {key} {slot} {version} {node} {edge} same found found_edge =
    record {
      node = node;
      found = ap (slot_at nodes) (sym same) ∙ found;
      edge = edge;
      found_edge = found_edge;
    }

-- the node's edge becomes what the function makes of it, which is an edge of the same label that leads to the same node
pub record Recounts (nodes new : List (Option Node)) (key : ℕ) (version : List ℕ) (f : Edge → Edge) : Type 0 where
  pub at : Found nodes key version
  pub keeps_pred : (e : Edge) → (f e).pred ≡ e.pred
  pub keeps_label : (e : Edge) → (f e).label ≡ e.label
  pub changes : Changes nodes new key (Some (record at.node { edges = change_first (leads version) f at.node.edges }))

-- the node's edge goes, since nothing stands on it, and with it the node where that has no other edge
pub record DropsEdge (nodes new : List (Option Node)) (key : ℕ) (version : List ℕ) : Type 0 where
  pub graph : IsGraph nodes
  pub at : Found nodes key version
  pub free : successors nodes key at.edge.label ≡ 0
  pub changes : Changes nodes new key (slot_without version at.node)

-- what the code does where the hold that is given up is the edge's last count: the edge goes
pub record GivesUpLast (nodes new : List (Option Node)) (key : ℕ) (version : List ℕ) : Type 0 where
  pub hold : HasHold nodes key version
  pub at : Found nodes key version
  pub few : at.edge.count ≤ 1
  pub rest : Changes nodes new key (option_and_then (slot_without version) (slot_at nodes key))
