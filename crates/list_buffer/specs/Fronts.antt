-- The nonempty fronts of held lists, listed once each, and the places where lists end. (This project's own.)
use Rattle.std.specs.Prelude.{◌≡◌, ℕ, Bool, true, false, ◌&&◌, ◌==◌, List, [], ◌∷◌, Option, Some, Contains}
use Rattle.std.specs.Option.{option_map_or}
use Rattle.cep_event.specs.declared.event.Event.{Event}
use Rattle.cep_plan.specs.declared.plan.Plan.{Plan}
use Rattle.cep_plan.specs.Entry.{Entry, last_entry, stages_of}
use Rattle.cep_plan.specs.Partial.{has_entries}
use Rattle.nfa_compile.specs.Automaton.{number_of_list}
use Rattle.live_laws.specs.Starts.{AllApart}
use Rattle.shared_buffer.specs.Slots.{slot_at}
use Rattle.shared_buffer.specs.declared.edges.Edge.{Edge}
use Rattle.shared_buffer.specs.declared.node.Node.{Node}
use Rattle.list_buffer.specs.Held.{Holds, is_entry}
use Rattle.list_buffer.specs.Listed.{IsEdgeOf}
use Rattle.list_buffer.specs.Reach.{IsFrontHeld, IsReached}

-- the second list has the entries of the first, and one more behind them
abbrev pub is_one_longer : List Entry → List Entry → Bool
is_one_longer [] [] = false
is_one_longer [] (_ ∷ []) = true
is_one_longer [] (_ ∷ _ ∷ _) = false
is_one_longer (_ ∷ _) [] = false
is_one_longer (x ∷ xs) (y ∷ ys) = is_entry x y && is_one_longer xs ys

-- these are the nonempty fronts of held lists, each once
pub record AreFronts (held : Holds) (fronts : List (List Entry)) : Type 0 where
  pub some : (list : List Entry) → Contains fronts list → has_entries list ≡ true
  pub sound : (list : List Entry) → Contains fronts list → IsFrontHeld held list
  pub complete : (list : List Entry) → has_entries list ≡ true → IsFrontHeld held list → Contains fronts list
  pub once : AllApart fronts

-- these are the positions in held lists, each once
pub record AreReached (held : Holds) (positions : List ℕ) : Type 0 where
  pub sound : (position : ℕ) → Contains positions position → IsReached held position
  pub complete : (position : ℕ) → IsReached held position → Contains positions position
  pub once : AllApart positions

-- the edge is that of one of these lists
pub record IsEdgeOfListed (plan : Plan) (events : List Event) (lists : List (List Entry)) (nodes : List (Option Node)) (key : ℕ) (edge : Edge) : Type 0 where
  pub list : List Entry
  pub listed : Contains lists list
  pub edge_is : IsEdgeOf plan events nodes list key edge

-- ---- places

-- a state of the automaton, by its number, and the position of an event
pub record Place : Type 0 where
  pub state : ℕ
  pub position : ℕ

abbrev pub is_place : Place → Place → Bool
is_place a b = (a.state == b.state) && (a.position == b.position)

-- where the list ends: its state, and its last position
abbrev pub place_of : Plan → List Entry → Place
place_of plan list = record { state = number_of_list plan (stages_of list); position = option_map_or (λ end. end.position) (last_entry list) 0 }

-- some of these lists ends at the place
pub record EndsThere (plan : Plan) (lists : List (List Entry)) (place : Place) : Type 0 where
  pub list : List Entry
  pub listed : Contains lists list
  pub place_is : place_of plan list ≡ place

-- these are the places where the lists end, each once
pub record ArePlaces (plan : Plan) (lists : List (List Entry)) (places : List Place) : Type 0 where
  pub sound : (place : Place) → Contains places place → EndsThere plan lists place
  pub complete : (list : List Entry) → Contains lists list → Contains places (place_of plan list)
  pub once : AllApart places

-- the node of the key stands for the place
pub record IsNodeAt (nodes : List (Option Node)) (key : ℕ) (place : Place) : Type 0 where
  pub node : Node
  pub found : slot_at nodes key ≡ Some node
  pub state_is : node.state ≡ place.state
  pub position_is : node.position ≡ place.position

-- some node stands for the place
pub record HasNodeAt (nodes : List (Option Node)) (place : Place) : Type 0 where
  pub key : ℕ
  pub at : IsNodeAt nodes key place
