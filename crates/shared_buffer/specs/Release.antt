-- What a release leaves: the edges that nothing stands on any more are gone, and all else stays (after the reference
-- counts of Agrawal, Diao, Gyllstrom and Immerman).
use Rattle.std.specs.Prelude.{◌≡◌, ◌≢◌, ◌⊎◌, ℕ, ◌<◌, List, Option, Some, None, false, IsTrue}
use Rattle.shared_buffer.specs.Slots.{slot_at, Changes}
use Rattle.shared_buffer.specs.Edges.{find_edge}
use Rattle.shared_buffer.specs.Nodes.{node_down, slot_without}
use Rattle.shared_buffer.specs.Graph.{successors}
use Rattle.shared_buffer.specs.Content.{IsUsed}
use Rattle.shared_buffer.specs.declared.edges.Edge.{Edge}
use Rattle.shared_buffer.specs.declared.node.Node.{Node}
use Rattle.shared_buffer.specs.declared.node.Standing.{Standing}

-- the node's edge that leads on with the version is counted once more than edges stand on it
pub record HasHold (nodes : List (Option Node)) (key : ℕ) (version : List ℕ) : Type 0 where
  pub node : Node
  pub found : slot_at nodes key ≡ Some node
  pub edge : Edge
  pub found_edge : find_edge node.edges version ≡ Some edge
  pub free : successors nodes key edge.label < edge.count

-- what had a hold still has one
abbrev pub KeepsHolds : List (Option Node) → List (Option Node) → Type 0
KeepsHolds old new = (key : ℕ) (version : List ℕ) → HasHold old key version → HasHold new key version

-- the same, but for the node of this key
abbrev pub KeepsHoldsBut : ℕ → List (Option Node) → List (Option Node) → Type 0
KeepsHoldsBut key old new = (other : ℕ) (version : List ℕ) → other ≢ key → HasHold old other version → HasHold new other version

-- that edge was counted more than once, and is counted one lower
pub record CountsDown (nodes new : List (Option Node)) (key : ℕ) (version : List ℕ) : Type 0 where
  pub node : Node
  pub found : slot_at nodes key ≡ Some node
  pub edge : Edge
  pub found_edge : find_edge node.edges version ≡ Some edge
  pub many : 1 < edge.count
  pub changes : Changes nodes new key (Some (node_down version node))

-- that edge was counted once and led here, and has gone, with its node where that has no other edge
pub record Drops (nodes new : List (Option Node)) (key : ℕ) (version : List ℕ) (pred : Option ℕ) : Type 0 where
  pub node : Node
  pub found : slot_at nodes key ≡ Some node
  pub edge : Edge
  pub found_edge : find_edge node.edges version ≡ Some edge
  pub once : edge.count ≡ 1
  pub leads_here : edge.pred ≡ pred
  pub changes : Changes nodes new key (slot_without version node)

-- the edge at this key is counted one lower. Where nothing stands on it then, it goes, and the edge that
-- it stood on is counted one lower in the same way
pub data Releases (version : List ℕ) (new : List (Option Node)) : List (Option Node) → ℕ → Type 0 where
  Lowered : (nodes : List (Option Node)) (key : ℕ) → CountsDown nodes new key version → Releases version new nodes key
  Ended : (nodes : List (Option Node)) (key : ℕ) → Drops nodes new key version None → Releases version new nodes key
  WentOn :
      (nodes middle : List (Option Node)) (key pred : ℕ) → Drops nodes middle key version (Some pred)
      → Releases version new middle pred → Releases version new nodes key

-- an event stays, unchanged, where it has a pin or where one of these nodes stands on it. Else it goes
pub record KeepsEvents (old new : List (Option Standing)) (nodes : List (Option Node)) : Type 0 where
  pub stays : (key : ℕ) (row : Standing) → slot_at old key ≡ Some row → IsTrue row.pinned ⊎ IsUsed nodes key → slot_at new key ≡ Some row
  pub goes : (key : ℕ) (row : Standing) → slot_at old key ≡ Some row → row.pinned ≡ false → (IsUsed nodes key → ⊥) → slot_at new key ≡ None
  pub only : (key : ℕ) (row : Standing) → slot_at new key ≡ Some row → slot_at old key ≡ Some row
