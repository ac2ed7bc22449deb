-- What a set of runs and a buffer are after ticks: one run for each living list and each stage that it waits for, one edge for
-- each front of a living list, one node for each place where a front ends, and the events of the positions in living lists. After
-- the shared match buffer of Agrawal, Diao, Gyllstrom and Immerman; that all counts are exact is this project's own.
use Rattle.std.specs.Prelude.{◌≡◌, ℕ, ◌+◌, ◌≤◌, false, List, length, map, Option, Some, is_some, count_by, Contains}
use Rattle.std.specs.List.{AllByRecursion as Each}
use Rattle.std.specs.List.Sorted.{IsPermutation}
use Rattle.cep_plan.specs.declared.plan.Plan.{Plan}
use Rattle.cep_plan.specs.Entry.{Entry, event_at, taken_of, stages_of}
use Rattle.cep_plan.specs.Tick.{Tick, events_of}
use Rattle.cep_plan.specs.Living.{stand, reach}
use Rattle.match_labels.specs.Label.{label_of}
use Rattle.match_extract.specs.Path.{IsPath}
use Rattle.shared_buffer.specs.Slots.{slot_at}
use Rattle.shared_buffer.specs.Graph.{edge_total, Stands, IsPrefixFree}
use Rattle.shared_buffer.specs.Content.{Content as BufferContent}
use Rattle.shared_buffer.specs.declared.buffer.Held.{Held}
use Rattle.shared_buffer.specs.declared.edges.Edge.{Edge}
use Rattle.shared_buffer.specs.declared.node.Node.{Node}
use Rattle.shared_buffer.specs.declared.node.Standing.{Standing}
use Rattle.list_buffer.specs.Listed.{IsNodeOf, IsEdgeOf}
use Rattle.list_buffer.specs.Reach.{HasEdgeSomewhere, HasEventAt}
use Rattle.list_buffer.specs.Fronts.{Place, HasNodeAt, is_one_longer}
use Rattle.run_step.specs.Content.{Content, Staged}
use Rattle.run_step.specs.Runs.{Waiter, AreRunsOf}
use Rattle.sharing_laws.specs.Sizes.{waiting_for, waiting_after, runs_after, places, sizes_after}
use Rattle.sharing_laws.specs.Versions.{digits_within}

-- ---- runs

-- There is exactly one run for each living list and each stage that it waits for, and no other run.
pub record HasRuns (plan : Plan) (ticks : List Tick) (runs : List Staged) (buffer : BufferContent) : Type 0 where
  pub waiters : List Waiter
  -- one by one each run has the version of its list, the first digit that the list hasn't given away, how often its wait was taken,
  -- where the list begins and ends, and sums that stand for the list and keep what the plan's conditions ask
  pub runs_are : AreRunsOf plan (events_of ticks) waiters runs
  -- in some order they are those that wait after the ticks, each once
  pub lists_are : IsPermutation (map (λ waiter. waiting_for waiter.list waiter.stage) waiters) (waiting_after plan ticks)
  -- a run's node is that of its list's state and last position
  pub nodes_are : Each (λ waiter. IsNodeOf plan buffer.nodes waiter.list waiter.node) waiters
  -- from its node the version of a run goes along the list
  pub paths : Each (λ waiter. IsPath buffer (label_of plan (events_of ticks) waiter.list) waiter.node (taken_of (events_of ticks) waiter.list)) waiters

-- ---- edges

-- The edge is that of a list of the stand: it stands at the node of the list's state and last position, has the list's label, and
-- leads to the node of the list without its last entry, or to none. It is counted once for each list of the stand that is one
-- entry longer, and once for each run of the list.
pub record IsInStand (plan : Plan) (ticks : List Tick) (nodes : List (Option Node)) (key : ℕ) (edge : Edge) : Type 0 where
  pub list : List Entry
  pub stands : Contains (stand plan ticks) list
  pub edge_is : IsEdgeOf plan (events_of ticks) nodes list key edge
  pub count_is : edge.count ≡ count_by (is_one_longer list) (stand plan ticks) + runs_after plan ticks list

-- There is exactly one edge for each list of the stand, and no other edge.
pub record HasEdges (plan : Plan) (ticks : List Tick) (nodes : List (Option Node)) : Type 0 where
  pub each_edge : (key : ℕ) (edge : Edge) → Stands nodes key edge → IsInStand plan ticks nodes key edge
  pub each_list : (list : List Entry) → Contains (stand plan ticks) list → HasEdgeSomewhere plan (events_of ticks) nodes list
  pub one_edge :
      (list : List Entry) (key other : ℕ) (edge another : Edge) → IsEdgeOf plan (events_of ticks) nodes list key edge
      → IsEdgeOf plan (events_of ticks) nodes list other another → (key ≡ other) × (edge ≡ another)

-- ---- nodes

-- There is exactly one node for each state and last position of a list of the stand, and no other node. No label on a node begins with another.
pub record HasNodes (plan : Plan) (ticks : List Tick) (nodes : List (Option Node)) : Type 0 where
  pub each_node : (key : ℕ) (node : Node) → slot_at nodes key ≡ Some node
      → Contains (places plan ticks) (record { state = node.state; position = node.position })
  pub each_place : (place : Place) → Contains (places plan ticks) place → HasNodeAt nodes place
  pub one_node :
      (key other : ℕ) (node another : Node) → slot_at nodes key ≡ Some node → slot_at nodes other ≡ Some another
      → node.state ≡ another.state → node.position ≡ another.position → key ≡ other
  pub prefix_free : (key : ℕ) (node : Node) → slot_at nodes key ≡ Some node → IsPrefixFree node.edges

-- ---- events

-- what stands is the event of a position in reach, and has no pin
pub record IsInReach (plan : Plan) (ticks : List Tick) (row : Standing) : Type 0 where
  pub reached : Contains (reach plan ticks) row.position
  pub event_is : row.event ≡ event_at (events_of ticks) row.position
  pub free : row.pinned ≡ false

-- There is exactly one event for each position in reach, and no other event; no pin is left.
pub record HasEvents (plan : Plan) (ticks : List Tick) (buffer : BufferContent) : Type 0 where
  pub each_event : (key : ℕ) (row : Standing) → slot_at buffer.events key ≡ Some row → IsInReach plan ticks row
  pub each_position : (position : ℕ) → Contains (reach plan ticks) position → HasEventAt buffer position
  pub one_event :
      (key other : ℕ) (row another : Standing) → slot_at buffer.events key ≡ Some row → slot_at buffer.events other ≡ Some another
      → row.position ≡ another.position → key ≡ other

-- ---- all together

-- how many events, nodes and edges stand
abbrev pub held_in : BufferContent → Held
held_in buffer = record { events = count_by is_some buffer.events; nodes = count_by is_some buffer.nodes; edges = edge_total buffer.nodes }

-- After the ticks the runs and the buffer are exactly those of the living lists.
pub record SharesExactly (plan : Plan) (ticks : List Tick) (content : Content) (buffer : BufferContent) : Type 0 where
  pub runs : HasRuns plan ticks content.runs buffer
  pub edges : HasEdges plan ticks buffer.nodes
  pub nodes : HasNodes plan ticks buffer.nodes
  pub events : HasEvents plan ticks buffer
  pub sizes : held_in buffer ≡ sizes_after plan ticks
  -- the version of a list of the stand has at most two digits for each stage that the list enters, and two for each further event
  -- of a stage that allows combinations
  pub short : (list : List Entry) → Contains (stand plan ticks) list → length (label_of plan (events_of ticks) list) ≤ digits_within plan (stages_of list)
