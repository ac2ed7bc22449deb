-- After ticks the runs and the buffer are exactly those of the living lists: from the runs and what they hold.
use Rattle.std.proofs.Common.{◌≡◌, ◌∙◌, ap, subst, ℕ, arith, true, false, List, [], ◌∷◌, ◌++◌, append-nil, map, Some}
use Rattle.std.specs.Prelude.{Contains}
use Rattle.std.specs.List.{AllByRecursion as Each}
use Rattle.cep_event.specs.declared.event.Event.{Event}
use Rattle.cep_plan.specs.declared.plan.Plan.{Plan}
use Rattle.cep_plan.specs.Entry.{Entry, taken_of}
use Rattle.cep_plan.specs.Partial.{has_entries}
use Rattle.cep_plan.specs.History.{history}
use Rattle.cep_plan.specs.Skipping.{kept}
use Rattle.cep_plan.specs.Tick.{Tick, events_of, last_time}
use Rattle.cep_plan.specs.Living.{stand, reach}
use Rattle.live_laws.specs.Starts.{open_scope}
use Rattle.live_laws.proofs.MemberLaws.{Contains-map, Each-from_contains}
use Rattle.match_labels.specs.Label.{label_of}
use Rattle.match_extract.specs.Path.{IsPath}
use Rattle.shared_buffer.specs.Slots.{slot_at}
use Rattle.shared_buffer.specs.Graph.{Stands as EdgeStands}
use Rattle.shared_buffer.specs.Content.{Content as BufferContent}
use Rattle.shared_buffer.specs.Facts.{IsConsistent}
use Rattle.shared_buffer.specs.declared.edges.Edge.{Edge}
use Rattle.shared_buffer.specs.declared.node.Standing.{Standing}
use Rattle.list_buffer.specs.Held.{Holds, held_by, both_hold}
use Rattle.list_buffer.specs.Listed.{IsNodeOf, HasEdgeOf, HoldsLists}
use Rattle.list_buffer.specs.Fronts.{AreFronts}
use Rattle.list_buffer.proofs.ChainLaws.{event_reached}
use Rattle.list_buffer.proofs.LaterLaws.{HoldsLists-same}
use Rattle.list_buffer.proofs.TraceLaws.{path_of}
use Rattle.list_buffer.proofs.SizeLaws.{IsHolding, one_place, one_edge_of, front_of_edge, edge_of, edges_are, count_is, front_at, node_there, nodes_are}
use Rattle.list_buffer.proofs.SizeLaws.{IsHolding, reached_there, events_are}
use Rattle.run_step.specs.Content.{Content, Staged}
use Rattle.run_step.specs.Runs.{Waiter, holder_of, AreRunsOf, Stands, StandsNow}
use Rattle.sharing_laws.specs.Sizes.{places, sizes_after}
use Rattle.sharing_laws.specs.Sharing.{HasRuns, IsInStand, HasEdges, HasNodes, HasEvents, held_in, SharesExactly}
use Rattle.sharing_laws.proofs.VersionLaws.{label_short}
use Rattle.sharing_laws.proofs.LivingLaws.{AreWaiting, waiters_are}
use Rattle.sharing_laws.proofs.FrontLaws.{held_has, stand_is, reach_is, holds_are_runs, places_are}

-- no run is of the empty list
runs_some : (plan : Plan) (events : List Event) (waiters : List Waiter) (runs : List Staged) → AreRunsOf plan events waiters runs
    → Each (λ (w : Waiter). has_entries w.list ≡ true) waiters
runs_some plan events [] [] are = tt
runs_some plan events [] (run ∷ runs) are = absurd are
runs_some plan events (w ∷ waiters) [] are = absurd are
runs_some plan events (w ∷ waiters) (run ∷ runs) are = (ap has_entries are.0.1.begins.parts, runs_some plan events waiters runs are.1)

-- The runs are those of waiters, whose lists the buffer holds, and no event has a pin.
record IsSharing (plan : Plan) (ticks : List Tick) (content : Content) (buffer : BufferContent) : Type 0 where
  waiters : List Waiter
  are : AreWaiting plan ticks waiters
  runs : AreRunsOf plan (events_of ticks) waiters content.runs
  holding : IsHolding plan (events_of ticks) (held_by (map holder_of waiters)) buffer
  free : (key : ℕ) (row : Standing) → slot_at buffer.events key ≡ Some row → row.pinned ≡ false

module _ {plan : Plan} {ticks : List Tick} {content : Content} {buffer : BufferContent} (it : IsSharing plan ticks content buffer) where
  abbrev events : List Event
  events = events_of ticks

  abbrev held : Holds
  held = held_by (map holder_of it.waiters)

  fronts : AreFronts held (stand plan ticks)
  fronts = stand_is it.are

  has_runs : HasRuns plan ticks content.runs buffer
  has_runs = record {
    waiters = it.waiters;
    runs_are = it.runs;
    lists_are = waiters_are plan ticks it.waiters it.are;
    nodes_are = Each-from_contains (λ (w : Waiter). IsNodeOf plan buffer.nodes w.list w.node) it.waiters (λ w q. (edge_of_waiter w q).edge_is.node);
    paths = Each-from_contains (λ (w : Waiter). IsPath buffer (label_of plan events w.list) w.node (taken_of events w.list)) it.waiters along;
  } where
    edge_of_waiter : (w : Waiter) → Contains it.waiters w → HasEdgeOf plan events buffer.nodes w.list w.node
    edge_of_waiter w q =
        it.holding.has.stands w.list w.node (held_has (map holder_of it.waiters) (holder_of w) (Contains-map holder_of it.waiters w q))

    along : (w : Waiter) → Contains it.waiters w → IsPath buffer (label_of plan events w.list) w.node (taken_of events w.list)
    along w q =
        subst (λ (l : List Entry). IsPath buffer (label_of plan events l) w.node (taken_of events w.list)) (append-nil w.list)
        (path_of plan events held buffer it.holding.has it.holding.sound w.list [] w.node (edge_of_waiter w q))

  has_edges : HasEdges plan ticks buffer.nodes
  has_edges = record { each_edge = each_edge; each_list = edge_of it.holding fronts; one_edge = one_edge_of it.holding } where
    each_edge : (key : ℕ) (edge : Edge) → EdgeStands buffer.nodes key edge → IsInStand plan ticks buffer.nodes key edge
    each_edge key edge stands =
        let its = front_of_edge it.holding fronts key edge stands in
        record {
          list = its.list;
          stands = its.listed;
          edge_is = its.edge_is;
          count_is = omega (arith, count_is it.holding fronts its.edge_is, holds_are_runs it.are it.holding its.edge_is);
        }

  has_nodes : HasNodes plan ticks buffer.nodes
  has_nodes = record {
    each_node = λ key node found.
        let at = front_at it.holding fronts key node found in
        subst (Contains (places plan ticks)) at.place_is ((places_are plan ticks).complete at.list at.listed);
    each_place = λ place q. node_there it.holding fronts place ((places_are plan ticks).sound place q);
    one_node = one_place it.holding;
    prefix_free = it.holding.sound.prefix_free;
  }

  has_events : HasEvents plan ticks buffer
  has_events = record {
    each_event = λ key row found.
        record {
          reached = (reach_is it.are).complete row.position
              (event_reached plan events held buffer it.holding.has it.holding.sound key row found (it.free key row found));
          event_is = (it.holding.has.event_is key row found).1;
          free = it.free key row found;
        };
    each_position = λ position q. reached_there it.holding position ((reach_is it.are).sound position q);
    one_event = it.holding.has.one_event;
  }

  has_sizes : held_in buffer ≡ sizes_after plan ticks
  has_sizes =
      let events_count = events_are it.holding it.free (reach plan ticks) (reach_is it.are) in
      let nodes_count = nodes_are it.holding fronts (places plan ticks) (places_are plan ticks) in
      let edges_count = edges_are it.holding fronts in
      λ i. record { events = events_count i; nodes = nodes_count i; edges = edges_count i }

  shares : SharesExactly plan ticks content buffer
  shares = record {
    runs = has_runs;
    edges = has_edges;
    nodes = has_nodes;
    events = has_events;
    sizes = has_sizes;
    short = λ list q. label_short plan events list;
  }

-- The runs and the buffer that stand for the events of the ticks and the lists that are open, with no tip, no event ahead and no
-- pin, are exactly those of the living lists.
pub shares_exactly : (plan : Plan) (ticks : List Tick) (content : Content) (buffer : BufferContent)
    → (stands : Stands plan (events_of ticks) (open_scope plan (events_of ticks) (kept plan.skip (history plan ticks)) (last_time ticks)) [] content buffer)
    → stands.ahead ≡ []
    → ((key : ℕ) (row : Standing) → slot_at buffer.events key ≡ Some row → row.pinned ≡ false)
    → IsConsistent buffer
    → SharesExactly plan ticks content buffer
shares_exactly plan ticks content buffer stands none free sound =
    let whole : events_of ticks ++ stands.ahead ≡ events_of ticks = ap (λ a. events_of ticks ++ a) none ∙ append-nil (events_of ticks) in
    let has : HoldsLists plan (events_of ticks) (held_by (map holder_of stands.waiters)) buffer =
    HoldsLists-same plan (events_of ticks) (both_hold (held_by (map holder_of stands.waiters)) (held_by []))
    (held_by (map holder_of stands.waiters)) buffer (λ list key. omega arith)
    (subst (λ (e : List Event). HoldsLists plan e (both_hold (held_by (map holder_of stands.waiters)) (held_by [])) buffer) whole stands.held) in
    shares (record {
      waiters = stands.waiters;
      are = record { stand = stands.stand; some = runs_some plan (events_of ticks) stands.waiters content.runs stands.runs };
      runs = stands.runs;
      holding = record { has = has; sound = sound };
      free = free;
    })

-- The same of runs and a buffer that stand with no event ahead.
pub shares_now : (plan : Plan) (ticks : List Tick) (content : Content) (buffer : BufferContent)
    → StandsNow plan (events_of ticks) (open_scope plan (events_of ticks) (kept plan.skip (history plan ticks)) (last_time ticks)) [] content buffer
    → ((key : ℕ) (row : Standing) → slot_at buffer.events key ≡ Some row → row.pinned ≡ false)
    → IsConsistent buffer
    → SharesExactly plan ticks content buffer
shares_now plan ticks content buffer now free sound = shares_exactly plan ticks content buffer now.stands now.none_ahead free sound
