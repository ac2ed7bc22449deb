-- What the laws of a put stand on: a record for each step, from the edge that comes to a list of nodes up to what the code has read.
use Rattle.std.proofs.Common.{◌≡◌, ◌≢◌, ℕ, ◌<◌, cond, List, [], ◌∷◌, Option, Some, None, ap, sym, ◌∙◌}
use Rattle.shared_buffer.specs.Slots.{slot_at, with_slot_changed, Changes}
use Rattle.shared_buffer.specs.Edges.{with_edge}
use Rattle.shared_buffer.specs.Members.{find_member}
use Rattle.shared_buffer.specs.Nodes.{HasHoldAt, node_with}
use Rattle.shared_buffer.specs.Content.{rows}
use Rattle.shared_buffer.specs.Put.{CanPut}
use Rattle.shared_buffer.specs.Graph.{is_successor, edges_of, IsApartFrom, Stands, IsGraph, IsSound}
use Rattle.shared_buffer.specs.Exact.{KeepsNode, KeepsEdge, StoodBefore}
use Rattle.shared_buffer.specs.declared.edges.Edge.{Edge}
use Rattle.shared_buffer.specs.declared.node.Node.{Node}
use Rattle.shared_buffer.specs.declared.node.Entry.{Entry}

-- an edge comes to the node of a key, or with a new node, and the edge that it stands on has a hold for it
pub record PushesEdge (nodes new : List (Option Node)) (key : ℕ) (node : Node) (edge : Edge) : Type 0 where
  pub graph : IsGraph nodes
  pub changes : Changes nodes new key (Some node)
  pub edges_are : node.edges ≡ with_edge edge (edges_of (slot_at nodes key))
  pub same_position : (n : Node) → slot_at nodes key ≡ Some n → node.position ≡ n.position
  pub apart : IsApartFrom edge.label (edges_of (slot_at nodes key))
  pub positive : 0 < edge.count
  pub has_room : (pred : ℕ) → edge.pred ≡ Some pred → HasHoldAt nodes pred node.position edge.label

-- the same node, but for its edges
pub record IsSameNode (a b : Node) : Type 0 where
  pub stage : a.stage ≡ b.stage
  pub state : a.state ≡ b.state
  pub event : a.event ≡ b.event
  pub position : a.position ≡ b.position

-- what has come to the edges of these nodes, before the new edge stands on one of them
pub record IsCounted (nodes middle : List (Option Node)) (edge : Edge) : Type 0 where
  pub stood :
      (other : ℕ) (e : Edge) → Stands middle other e
      → StoodBefore nodes middle other e (cond (is_successor other e.label edge) 1 0) 0
  pub stays : (other : ℕ) (e : Edge) → Stands nodes other e → KeepsEdge middle other e
  pub node_stood : (other : ℕ) (n : Node) → slot_at middle other ≡ Some n → KeepsNode nodes other n
  pub node_stays : (other : ℕ) (n : Node) → slot_at nodes other ≡ Some n → KeepsNode middle other n

-- the edge that the new one stands on is counted, and then the new one comes, with one hold
pub record CountsAndPushes (nodes middle new : List (Option Node)) (key : ℕ) (node : Node) (edge : Edge) : Type 0 where
  pub counted : IsCounted nodes middle edge
  pub push : PushesEdge middle new key node edge
  pub same_node : (n : Node) → slot_at middle key ≡ Some n → IsSameNode node n
  pub once : edge.count ≡ 1

-- a put: the buffer before it, what it is asked for, that it may be asked for that, and the entry of its event
pub record Put : Type 0 where
  pub entries : List (Option Entry)
  pub nodes : List (Option Node)
  pub count : ℕ
  pub sound : IsSound entries nodes count
  pub stage : ℕ
  pub state : ℕ
  pub event : ℕ
  pub pred : Option ℕ
  pub label : List ℕ
  pub can : CanPut (record { events = rows entries; nodes = nodes }) stage state event pred label
  pub entry : Entry
  pub found : slot_at entries event ≡ Some entry

-- the put from what the code has read: the slot of the event has the entry
abbrev pub asked :
    {entries : List (Option Entry)} {nodes : List (Option Node)} {count : ℕ} → IsSound entries nodes count
    → {stage state event : ℕ} {pred : Option ℕ} {label : List ℕ}
    → CanPut (record { events = rows entries; nodes = nodes }) stage state event pred label
    → {slot : ℕ} → slot ≡ event → {entry : Entry} → slot_at entries slot ≡ Some entry → Put
asked {entries} {nodes} {count} sound {stage} {state} {event} {pred} {label} can {slot} slot_is {entry} read =
    record {
      entries = entries;
      nodes = nodes;
      count = count;
      sound = sound;
      stage = stage;
      state = state;
      event = event;
      pred = pred;
      label = label;
      can = can;
      entry = entry;
      found = ap (slot_at entries) (sym slot_is) ∙ read;
    }

-- the edge that is put
abbrev pub edge_put : Put → Edge
edge_put put = record { pred = put.pred; label = put.label; count = 1 }

-- the node that is put where there is none of this state on this event
abbrev pub new_node : Put → Node
new_node put =
    record {
      stage = put.stage;
      state = put.state;
      event = put.event;
      position = put.entry.row.position;
      edges = edge_put put ∷ [];
    }

-- the key is not that of the node that the edge leads to
abbrev pub IsNotPred : Put → ℕ → Type 0
IsNotPred put key = (p : ℕ) → put.pred ≡ Some p → key ≢ p

-- the edge comes to a key, with the node that stands there then, before the edge that it stands on is counted
pub record Places (put : Put) (key : ℕ) (node : Node) (pushed : List (Option Node)) : Type 0 where
  pub differs : IsNotPred put key
  pub change : Changes put.nodes pushed key (Some node)
  pub edges_are : node.edges ≡ with_edge (edge_put put) (edges_of (slot_at put.nodes key))
  pub same_node : (n : Node) → slot_at put.nodes key ≡ Some n → IsSameNode node n
  pub position_is : node.position ≡ put.entry.row.position
  pub apart : IsApartFrom put.label (edges_of (slot_at put.nodes key))

-- what the code does where a node of the state is on the event: the edge, with a copy of the label, comes to it
pub record OnNode (put : Put) : Type 0 where
  pub key : ℕ
  pub member : find_member put.entry.members put.state ≡ Some key
  pub copy : List ℕ
  pub copied : copy ≡ put.label
  pub pushed : List (Option Node)
  pub pushed_is : pushed ≡ with_slot_changed (node_with (record { pred = put.pred; label = copy; count = 1 })) put.nodes key

-- what the code does where there is none: a key is reserved, and a node with one edge fills it
pub record WithNode (put : Put) : Type 0 where
  pub absent : find_member put.entry.members put.state ≡ None
  pub key : ℕ
  pub reserved : List (Option Node)
  pub reserved_is : reserved ≡ put.nodes
  pub vacant : slot_at reserved key ≡ None
  pub copy : List ℕ
  pub copied : copy ≡ put.label
  pub edges : List Edge
  pub single : edges ≡ record { pred = put.pred; label = copy; count = 1 } ∷ []
  pub filled : List (Option Node)
  pub fill :
      Changes reserved filled key
      (Some (record {
        stage = put.stage;
        state = put.state;
        event = put.event;
        position = put.entry.row.position;
        edges = edges;
      }))
