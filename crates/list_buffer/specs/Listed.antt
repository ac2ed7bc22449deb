-- Buffers whose edges are partial matches: each edge has the state, the position, the label and the predecessor of one list, and
-- as many holds as that list's holders. Which edges there are, and their counts, follow. After the shared match buffer of
-- Agrawal, Diao, Gyllstrom and Immerman; that a contract speaks of holds alone is this project's own.
use Rattle.std.specs.Prelude.{◌≡◌, ℕ, ◌<◌, true, List, [], ◌∷◌, ◌++◌, length, Option, Some, None}
use Rattle.cep_event.specs.declared.event.Event.{Event}
use Rattle.cep_plan.specs.declared.plan.Plan.{Plan}
use Rattle.cep_plan.specs.Entry.{Entry, event_at, last_entry, stages_of}
use Rattle.cep_plan.specs.Partial.{is_partial}
use Rattle.nfa_compile.specs.Automaton.{number_of_list}
use Rattle.match_labels.specs.Label.{label_of}
use Rattle.shared_buffer.specs.Slots.{slot_at}
use Rattle.shared_buffer.specs.Graph.{Stands}
use Rattle.shared_buffer.specs.Chain.{holds}
use Rattle.shared_buffer.specs.Content.{Content}
use Rattle.shared_buffer.specs.declared.edges.Edge.{Edge}
use Rattle.shared_buffer.specs.declared.node.Node.{Node}
use Rattle.shared_buffer.specs.declared.node.Standing.{Standing}
use Rattle.list_buffer.specs.Held.{Holds}

-- the node of the key is that of the list's state and last entry
pub record IsNodeOf (plan : Plan) (nodes : List (Option Node)) (list : List Entry) (key : ℕ) : Type 0 where
  pub node : Node
  pub found : slot_at nodes key ≡ Some node
  pub end : Entry
  pub last : last_entry list ≡ Some end
  pub stage_is : node.stage ≡ end.stage
  pub position_is : node.position ≡ end.position
  pub state_is : node.state ≡ number_of_list plan (stages_of list)

-- an edge behind this front leads to the front's node, or to none where the front is empty
abbrev pub LeadsTo : Plan → List (Option Node) → List Entry → Option ℕ → Type 0
LeadsTo plan nodes [] pred = pred ≡ None
LeadsTo plan nodes (first ∷ later) pred = (key : ℕ) × (pred ≡ Some key) × IsNodeOf plan nodes (first ∷ later) key

-- the edge stands at the key, and is that of the list
pub record IsEdgeOf (plan : Plan) (events : List Event) (nodes : List (Option Node)) (list : List Entry) (key : ℕ) (edge : Edge) : Type 0 where
  pub partial : is_partial plan events list ≡ true
  pub stands : Stands nodes key edge
  pub node : IsNodeOf plan nodes list key
  pub label : edge.label ≡ label_of plan events list
  pub front : List Entry
  pub end : Entry
  pub parts : list ≡ front ++ end ∷ []
  pub leads : LeadsTo plan nodes front edge.pred

-- the edge is that of a list which is held as often as the edge
pub record IsListed (plan : Plan) (events : List Event) (held : Holds) (nodes : List (Option Node)) (key : ℕ) (edge : Edge) : Type 0 where
  pub list : List Entry
  pub edge_is : IsEdgeOf plan events nodes list key edge
  pub holds_are : holds nodes key edge ≡ held list key

-- some edge at the key is that of the list
pub record HasEdgeOf (plan : Plan) (events : List Event) (nodes : List (Option Node)) (list : List Entry) (key : ℕ) : Type 0 where
  pub edge : Edge
  pub edge_is : IsEdgeOf plan events nodes list key edge

-- The buffer holds these lists of the events, and no others.
pub record HoldsLists (plan : Plan) (events : List Event) (held : Holds) (buffer : Content) : Type 0 where
  -- what stands under a key is the event of its position, and an event stands under one key alone
  pub event_is : (key : ℕ) (row : Standing) → slot_at buffer.events key ≡ Some row
      → (row.position < length events) × (row.event ≡ event_at events row.position)
  pub one_event :
      (key other : ℕ) (row another : Standing) → slot_at buffer.events key ≡ Some row → slot_at buffer.events other ≡ Some another
      → row.position ≡ another.position → key ≡ other
  -- each edge is that of a list, and has the list's holds
  pub listed : (key : ℕ) (edge : Edge) → Stands buffer.nodes key edge → IsListed plan events held buffer.nodes key edge
  -- each list that is held has an edge
  pub stands : (list : List Entry) (key : ℕ) → 0 < held list key → HasEdgeOf plan events buffer.nodes list key
