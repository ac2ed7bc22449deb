-- What a contract sees of a buffer: its events with their pins, and its nodes with their edges (after the shared match
-- buffer of Agrawal, Diao, Gyllstrom and Immerman; pins are this project's own).
use Rattle.std.specs.Prelude.{◌≡◌, ℕ, List, Option, Some, option_map, map, IsTrue}
use Rattle.shared_buffer.specs.Slots.{slot_at}
use Rattle.shared_buffer.specs.declared.node.Node.{Node}
use Rattle.shared_buffer.specs.declared.node.Standing.{Standing}
use Rattle.shared_buffer.specs.declared.node.Entry.{Entry}

-- the event or nothing under each key of an event, and the node or nothing under each key of a node
pub record Content : Type 0 where
  pub events : List (Option Standing)
  pub nodes : List (Option Node)

-- the events, without what lists their nodes
abbrev pub rows : List (Option Entry) → List (Option Standing)
rows entries = map (option_map (λ entry. entry.row)) entries

-- the event of this key stands with a pin
pub record IsPinned (events : List (Option Standing)) (key : ℕ) : Type 0 where
  pub row : Standing
  pub found : slot_at events key ≡ Some row
  pub pinned : IsTrue row.pinned

-- a node stands on the event of this key
pub record IsUsed (nodes : List (Option Node)) (event : ℕ) : Type 0 where
  pub key : ℕ
  pub node : Node
  pub found : slot_at nodes key ≡ Some node
  pub event_is : node.event ≡ event

-- the event of this key stands at this position
pub record HasPosition (events : List (Option Standing)) (key position : ℕ) : Type 0 where
  pub row : Standing
  pub found : slot_at events key ≡ Some row
  pub position_is : row.position ≡ position
