-- The holds of an edge, and the edges that a held edge keeps (after the reference counts of the shared match buffer of
-- Agrawal, Diao, Gyllstrom and Immerman; that holds are told apart from edges is this project's own).
use Rattle.std.specs.Prelude.{◌≡◌, ℕ, ◌-◌, ◌<◌, true, List, Option, Some}
use Rattle.dewey_version.specs.Version.{begins}
use Rattle.shared_buffer.specs.Graph.{successors, Stands}
use Rattle.shared_buffer.specs.declared.edges.Edge.{Edge}
use Rattle.shared_buffer.specs.declared.node.Node.{Node}

-- how often the edge is counted for no other edge: the holds of callers on it
abbrev pub holds : List (Option Node) → ℕ → Edge → ℕ
holds nodes key edge = edge.count - successors nodes key edge.label

-- the edge of the first key is counted by that of the second: it leads to the second's node, and its label goes on
-- from the second's
pub record StandsOn (nodes : List (Option Node)) (key : ℕ) (edge : Edge) (pred : ℕ) (earlier : Edge) : Type 0 where
  pub stands : Stands nodes key edge
  pub leads_there : edge.pred ≡ Some pred
  pub stands_there : Stands nodes pred earlier
  pub goes_on : begins earlier.label edge.label ≡ true

-- an edge of the chain of the last one, which has the last edge itself, the edge that this one stands on, and so on
pub data IsOnChain (nodes : List (Option Node)) (last_key : ℕ) (last : Edge) : ℕ → Edge → Type 0 where
  Last : Stands nodes last_key last → IsOnChain nodes last_key last last_key last
  Earlier :
      (key pred : ℕ) (edge earlier : Edge) → StandsOn nodes key edge pred earlier
      → IsOnChain nodes last_key last key edge → IsOnChain nodes last_key last pred earlier

-- the edge is on the chain of an edge that is held, where each edge has this many holds
pub record IsNeeded (nodes : List (Option Node)) (held : ℕ → Edge → ℕ) (key : ℕ) (edge : Edge) : Type 0 where
  pub last_key : ℕ
  pub last : Edge
  pub chain : IsOnChain nodes last_key last key edge
  pub is_held : 0 < held last_key last
