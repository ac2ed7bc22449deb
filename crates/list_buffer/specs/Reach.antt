-- Fronts of held lists, the edges of such fronts, and the positions that stand in held lists. (This project's own.)
use Rattle.std.specs.Prelude.{◌≡◌, ℕ, ◌<◌, List, [], ◌∷◌, ◌++◌, Option, Some}
use Rattle.cep_event.specs.declared.event.Event.{Event}
use Rattle.cep_plan.specs.declared.plan.Plan.{Plan}
use Rattle.cep_plan.specs.Entry.{Entry}
use Rattle.shared_buffer.specs.Content.{Content, HasPosition}
use Rattle.shared_buffer.specs.declared.edges.Edge.{Edge}
use Rattle.shared_buffer.specs.declared.node.Node.{Node}
use Rattle.shared_buffer.specs.declared.node.Standing.{Standing}
use Rattle.shared_buffer.specs.Slots.{slot_at}
use Rattle.list_buffer.specs.Held.{Holds}
use Rattle.list_buffer.specs.Listed.{IsEdgeOf, HasEdgeOf}

-- the list is a front of one that is held
pub record IsFrontHeld (held : Holds) (front : List Entry) : Type 0 where
  pub later : List Entry
  pub node : ℕ
  pub is_held : 0 < held (front ++ later) node

-- the list is a front of this one
pub record IsFront (list front : List Entry) : Type 0 where
  pub later : List Entry
  pub parts : list ≡ front ++ later

-- some list that is held has an entry at the position
pub record IsReached (held : Holds) (position : ℕ) : Type 0 where
  pub front : List Entry
  pub entry : Entry
  pub at : entry.position ≡ position
  pub held_front : IsFrontHeld held (front ++ entry ∷ [])

-- ---- edges

-- the edge is that of a front of this list
pub record IsEdgeOfFront (plan : Plan) (events : List Event) (nodes : List (Option Node)) (list : List Entry) (key : ℕ) (edge : Edge) : Type 0 where
  pub front : List Entry
  pub edge_is : IsEdgeOf plan events nodes front key edge
  pub is_front : IsFront list front

-- the edge is that of a front of a list which is held
pub record IsEdgeOfHeld (plan : Plan) (events : List Event) (held : Holds) (nodes : List (Option Node)) (key : ℕ) (edge : Edge) : Type 0 where
  pub list : List Entry
  pub edge_is : IsEdgeOf plan events nodes list key edge
  pub held_front : IsFrontHeld held list

-- the edge leads to one of this list
pub record LeadsToEdgeOf (plan : Plan) (events : List Event) (nodes : List (Option Node)) (list : List Entry) (edge : Edge) : Type 0 where
  pub key : ℕ
  pub pred_is : edge.pred ≡ Some key
  pub has : HasEdgeOf plan events nodes list key

-- some node has an edge of the list
pub record HasEdgeSomewhere (plan : Plan) (events : List Event) (nodes : List (Option Node)) (list : List Entry) : Type 0 where
  pub key : ℕ
  pub has : HasEdgeOf plan events nodes list key

-- an event stands at the position
pub record HasEventAt (buffer : Content) (position : ℕ) : Type 0 where
  pub key : ℕ
  pub at : HasPosition buffer.events key position

-- the event stood there before, with a pin or without one
pub record StoodAs (old : List (Option Standing)) (key : ℕ) (row : Standing) : Type 0 where
  pub was : Standing
  pub found : slot_at old key ≡ Some was
  pub same_event : row.event ≡ was.event
  pub same_position : row.position ≡ was.position
