-- How much stands in a buffer that holds lists: as many edges as fronts of held lists, as many nodes as places where these end, as many events as positions.
-- And how often each edge is counted: once for each front that is one entry longer, and once for each hold.
use Rattle.std.proofs.Common.{◌≡◌, refl, sym, ◌∙◌, ap, subst, ℕ, ◌+◌, arith, Bool, true, false, cond, List, [], ◌∷◌, ◌++◌}
use Rattle.std.proofs.Common.{length, length-append, Option, Some}
use Rattle.std.specs.Prelude.{Contains, is_some, count_by, filter}
use Rattle.std.specs.Option.{option_map_or}
use Rattle.std.proofs.lemmas.Bool.{and_parts, and_from, eq-eqb, eqb-true}
use Rattle.std.proofs.lemmas.List.Sums.{length-filter}
use Rattle.cep_event.specs.declared.event.Event.{Event}
use Rattle.cep_plan.specs.declared.plan.Plan.{Plan}
use Rattle.cep_plan.specs.Entry.{Entry}
use Rattle.cep_plan.specs.Partial.{may_grow, is_partial, has_entries}
use Rattle.cep_plan.proofs.FilteredLaws.{Contains-filter, Contains-from_filter}
use Rattle.live_laws.proofs.MemberLaws.{AllApart-filter}
use Rattle.dewey_version.specs.Version.{begins}
use Rattle.dewey_version.proofs.VersionLaws.{begins-refl}
use Rattle.match_labels.specs.Label.{label_of}
use Rattle.match_labels.proofs.PathLaws.{front_begins}
use Rattle.shared_buffer.specs.Slots.{slot_at}
use Rattle.shared_buffer.specs.Lists.{Lists}
use Rattle.shared_buffer.specs.Graph.{edge_total, leads_to, is_successor, successors, Stands}
use Rattle.shared_buffer.specs.Content.{Content, HasPosition}
use Rattle.shared_buffer.specs.Facts.{IsConsistent}
use Rattle.shared_buffer.specs.declared.edges.Edge.{Edge}
use Rattle.shared_buffer.specs.declared.node.Node.{Node}
use Rattle.shared_buffer.specs.declared.node.Standing.{Standing}
use Rattle.shared_buffer.proofs.SlotLaws.{same_value}
use Rattle.shared_buffer.proofs.EdgeLaws.{one_edge}
use Rattle.list_buffer.specs.Held.{Holds, is_entry}
use Rattle.list_buffer.specs.Listed.{IsNodeOf, LeadsTo, IsEdgeOf, HoldsLists}
use Rattle.list_buffer.specs.Reach.{IsFrontHeld, IsReached, HasEdgeSomewhere, HasEventAt}
use Rattle.list_buffer.specs.Fronts.{is_one_longer, AreFronts, AreReached, Place, place_of, EndsThere, ArePlaces, IsNodeAt, HasNodeAt, IsEdgeOfListed}
use Rattle.list_buffer.proofs.HeldLaws.{is_entry-same, is_entry-refl}
use Rattle.list_buffer.proofs.MoveLaws.{same_list}
use Rattle.list_buffer.proofs.HoldLaws.{holds_of}
use Rattle.list_buffer.proofs.ChainLaws.{first_listed, pred_list, front_edge, edge_front, held_front_has, event_reached, reached_event}
use Rattle.list_buffer.proofs.CountLaws.{HasPartner, as_many}
use Rattle.list_buffer.proofs.SlotCountLaws.{keys_from, keys-count, keys-stand, keys-listed, keys-apart, Placed, placed, placed_from, placed-sum}
use Rattle.list_buffer.proofs.SlotCountLaws.{placed-count, placed-stands, placed-listed, placed-apart}

-- ---- one entry more

-- the list is the front and one entry more
record HasEnd (front list : List Entry) : Type 0 where
  end : Entry
  parts : list ≡ front ++ end ∷ []

pub is_one_longer-push : (front : List Entry) (end : Entry) → is_one_longer front (front ++ end ∷ []) ≡ true
is_one_longer-push [] end = refl
is_one_longer-push (x ∷ front) end = and_from (is_entry x x) (is_one_longer front (front ++ end ∷ [])) (is_entry-refl x) (is_one_longer-push front end)

is_one_longer-parts : (front list : List Entry) → is_one_longer front list ≡ true → HasEnd front list
is_one_longer-parts [] [] h = let no : false ≡ true = h in absurd cc
is_one_longer-parts [] (x ∷ []) h = record { end = x; parts = refl }
is_one_longer-parts [] (x ∷ y ∷ list) h = let no : false ≡ true = h in absurd cc
is_one_longer-parts (x ∷ front) [] h = let no : false ≡ true = h in absurd cc
is_one_longer-parts (x ∷ front) (y ∷ list) h = longer (and_parts (is_entry x y) (is_one_longer front list) h) (is_one_longer-parts front list) where
  longer : (is_entry x y ≡ true) × (is_one_longer front list ≡ true) → (is_one_longer front list ≡ true → HasEnd front list) → HasEnd (x ∷ front) (y ∷ list)
  longer both later =
      let rest = later both.1 in
      let first : x ≡ y = is_entry-same x y both.0 in
      record { end = rest.end; parts = λ i. sym first i ∷ rest.parts i }

pub partial_some : (plan : Plan) (events : List Event) (list : List Entry) → is_partial plan events list ≡ true → has_entries list ≡ true
unfolding is_partial
partial_some plan events list h = (and_parts (has_entries list) (may_grow plan events list) h).0

-- the buffer holds these lists of the events, and what is true of every buffer is true of it
pub record IsHolding (plan : Plan) (events : List Event) (held : Holds) (buffer : Content) : Type 0 where
  pub has : HoldsLists plan events held buffer
  pub sound : IsConsistent buffer

module _ {plan : Plan} {events : List Event} {held : Holds} {buffer : Content} (holding : IsHolding plan events held buffer) where
  abbrev has : HoldsLists plan events held buffer
  has = holding.has

  abbrev sound : IsConsistent buffer
  sound = holding.sound

  -- ---- a list has one edge, and an edge one list

  -- a state and a position have one node
  pub one_place : (key other : ℕ) (node another : Node) → slot_at buffer.nodes key ≡ Some node → slot_at buffer.nodes other ≡ Some another
      → node.state ≡ another.state → node.position ≡ another.position → key ≡ other
  one_place key other node another found_one found_other state position =
      let one = sound.has_event key node found_one in
      let two = sound.has_event other another found_other in
      sound.one_node key other node another found_one found_other state
      (has.one_event node.event another.event one.row two.row one.found two.found (one.position_is ∙ position ∙ sym two.position_is))

  one_key : (list : List Entry) (key other : ℕ) → IsNodeOf plan buffer.nodes list key → IsNodeOf plan buffer.nodes list other → key ≡ other
  one_key list key other here there =
      let ends : Some here.end ≡ Some there.end = sym here.last ∙ there.last in
      let end : here.end ≡ there.end = cc in
      one_place key other here.node there.node here.found there.found (here.state_is ∙ sym there.state_is)
      (here.position_is ∙ ap (λ (e : Entry). e.position) end ∙ sym there.position_is)

  -- a label has one edge on a node
  one_label : (key : ℕ) (a b : Edge) → Stands buffer.nodes key a → Stands buffer.nodes key b → a.label ≡ b.label → a ≡ b
  one_label key a b in_a in_b label =
      let same : in_a.node ≡ in_b.node = same_value buffer.nodes key key in_a.node in_b.node refl in_a.found in_b.found in
      one_edge in_b.node.edges a b b.label (sound.prefix_free key in_b.node in_b.found)
      (subst (λ (n : Node). Lists n.edges a) same in_a.listed) in_b.listed
      (subst (λ (l : List ℕ). begins l b.label ≡ true) (sym label) (begins-refl b.label)) (begins-refl b.label)

  -- Two edges of one list are the same.
  pub one_edge_of : (list : List Entry) (key other : ℕ) (edge another : Edge) → IsEdgeOf plan events buffer.nodes list key edge
      → IsEdgeOf plan events buffer.nodes list other another → (key ≡ other) × (edge ≡ another)
  one_edge_of list key other edge another here there =
      let same = one_key list key other here.node there.node in
      let moved : IsEdgeOf plan events buffer.nodes list key another = subst (λ (k : ℕ). IsEdgeOf plan events buffer.nodes list k another) (sym same) there in
      (same, one_label key edge another here.stands moved.stands (here.label ∙ sym moved.label))

  -- Two lists of one edge are the same.
  pub one_list_of : (a b : List Entry) (key : ℕ) (edge : Edge) → IsEdgeOf plan events buffer.nodes a key edge
      → IsEdgeOf plan events buffer.nodes b key edge → a ≡ b
  one_list_of a b key edge of_a of_b =
      let begun : begins (label_of plan events a) (label_of plan events b) ≡ true =
      ap (λ (l : List ℕ). begins l (label_of plan events b)) (sym of_a.label ∙ of_b.label) ∙ begins-refl (label_of plan events b) in
      same_list plan events buffer.nodes a b key of_a.partial of_b.partial of_a.node of_b.node begun

  -- ---- what counts on an edge

  -- an edge that counts on that of a list has a list that is one entry longer
  counts_longer : (list longer : List Entry) (key other : ℕ) (edge next : Edge) → IsEdgeOf plan events buffer.nodes list key edge
      → IsEdgeOf plan events buffer.nodes longer other next → is_successor key edge.label next ≡ true → is_one_longer list longer ≡ true
  counts_longer list longer key other edge next of its counts = by_front its.front its.parts its.leads where
    both : (leads_to key next.pred ≡ true) × (begins edge.label next.label ≡ true)
    both = and_parts (leads_to key next.pred) (begins edge.label next.label) counts

    by_front : (front : List Entry) → longer ≡ front ++ its.end ∷ [] → LeadsTo plan buffer.nodes front next.pred → is_one_longer list longer ≡ true
    by_front [] parts none = let no : true ≡ false = sym both.0 ∙ ap (leads_to key) none in absurd cc
    by_front (first ∷ later) parts (to, is, node) =
        let here : to ≡ key = eqb-true to key (ap (leads_to key) (sym is) ∙ both.0) in
        let below =
        pred_list plan events held buffer has sound first later its.end key edge next.label
        (subst (λ (l : List Entry). is_partial plan events l ≡ true) parts its.partial)
        (its.label ∙ ap (label_of plan events) parts)
        (subst (IsNodeOf plan buffer.nodes (first ∷ later)) here node) of.stands both.1 in
        let same : list ≡ first ∷ later = one_list_of list (first ∷ later) key edge of below in
        (λ i. is_one_longer (same i) (parts i)) ∙ is_one_longer-push (first ∷ later) its.end

  -- and conversely
  longer_counts : (list longer : List Entry) (key other : ℕ) (edge next : Edge) → IsEdgeOf plan events buffer.nodes list key edge
      → IsEdgeOf plan events buffer.nodes longer other next → is_one_longer list longer ≡ true → is_successor key edge.label next ≡ true
  longer_counts [] longer key other edge next of its one =
      absurd (omega (arith, ap length of.parts, length-append of.front (of.end ∷ [])))
  longer_counts (first ∷ later) longer key other edge next of its one = counts (is_one_longer-parts (first ∷ later) longer one) where
    counts : HasEnd (first ∷ later) longer → is_successor key edge.label next ≡ true
    counts at =
        let moved : IsEdgeOf plan events buffer.nodes ((first ∷ later) ++ at.end ∷ []) other next =
        subst (λ (l : List Entry). IsEdgeOf plan events buffer.nodes l other next) at.parts its in
        let below = front_edge plan events held buffer has sound first later at.end other next moved in
        let same = one_edge_of (first ∷ later) below.key key below.has.edge edge below.has.edge_is of in
        let leads : leads_to key next.pred ≡ true = ap (leads_to key) below.pred_is ∙ eq-eqb below.key key same.0 in
        let begun : begins edge.label next.label ≡ true =
        (λ i. begins (of.label i) (moved.label i)) ∙ front_begins plan events (first ∷ later) (at.end ∷ []) in
        and_from (leads_to key next.pred) (begins edge.label next.label) leads begun

  module _ {fronts : List (List Entry)} (are : AreFronts held fronts) where
    -- ---- edges

    -- the edge is that of the front
    record IsFrontOf (at : Placed) (list : List Entry) : Type 0 where
      listed : Contains fronts list
      edge_is : IsEdgeOf plan events buffer.nodes list at.key at.edge

    front_of : (at : Placed) → Stands buffer.nodes at.key at.edge → HasPartner IsFrontOf fronts at
    front_of at stands =
        let it = edge_front plan events held buffer has sound at.key at.edge stands in
        let listed = are.complete it.list (partial_some plan events it.list it.edge_is.partial) it.held_front in
        record { partner = it.list; listed = listed; is = record { listed = listed; edge_is = it.edge_is } }

    -- Each edge is that of a front.
    pub front_of_edge : (key : ℕ) (edge : Edge) → Stands buffer.nodes key edge → IsEdgeOfListed plan events fronts buffer.nodes key edge
    front_of_edge key edge stands =
        let its = front_of (placed key edge) stands in
        record { list = its.partner; listed = its.listed; edge_is = its.is.edge_is }

    stands_at : (at : Placed) → Contains (placed_from 0 buffer.nodes) at → Stands buffer.nodes at.key at.edge
    stands_at at q =
        let there = placed-stands 0 buffer.nodes at q in
        let key : there.place ≡ at.key = omega (arith, there.key_is) in
        subst (λ (k : ℕ). Stands buffer.nodes k at.edge) key there.stands

    -- Each front has an edge.
    pub edge_of : (list : List Entry) → Contains fronts list → HasEdgeSomewhere plan events buffer.nodes list
    edge_of list q = by_list list (are.some list q) (are.sound list q) where
      by_list : (l : List Entry) → has_entries l ≡ true → IsFrontHeld held l → HasEdgeSomewhere plan events buffer.nodes l
      by_list [] none is = let no : false ≡ true = none in absurd cc
      by_list (first ∷ later) some is = held_front_has plan events held buffer has sound first later is

    placed_of : (list : List Entry) → Contains fronts list → HasPartner (λ l at. IsFrontOf at l) (placed_from 0 buffer.nodes) list
    placed_of list q =
        let there = edge_of list q in
        let listed = placed-listed 0 buffer.nodes there.key there.has.edge there.has.edge_is.stands in
        let key : 0 + there.key ≡ there.key = omega arith in
        record {
          partner = placed there.key there.has.edge;
          listed = subst (λ (k : ℕ). Contains (placed_from 0 buffer.nodes) (placed k there.has.edge)) key listed;
          is = record { listed = q; edge_is = there.has.edge_is };
        }

    same_placed : (a b : Placed) (list : List Entry) → IsFrontOf a list → IsFrontOf b list → a ≡ b
    same_placed a b list of_a of_b =
        let same = one_edge_of list a.key b.key a.edge b.edge of_a.edge_is of_b.edge_is in
        λ i. record { key = same.0 i; edge = same.1 i }

    same_front_of : (a b : List Entry) (at : Placed) → IsFrontOf at a → IsFrontOf at b → a ≡ b
    same_front_of a b at of_a of_b = one_list_of a b at.key at.edge of_a.edge_is of_b.edge_is

    -- There are as many edges as fronts.
    pub edges_are : edge_total buffer.nodes ≡ length fronts
    edges_are =
        sym (placed-count 0 buffer.nodes)
        ∙ as_many IsFrontOf (placed_from 0 buffer.nodes) fronts
        (record {
          apart_left = placed-apart 0 buffer.nodes sound.prefix_free;
          apart_right = are.once;
          to = λ at q. front_of at (stands_at at q);
          from = placed_of;
          one_left = same_placed;
          one_right = same_front_of;
        })

    -- ---- counts

    module _ {list : List Entry} {key : ℕ} {edge : Edge} (of : IsEdgeOf plan events buffer.nodes list key edge) where
      abbrev counts_here : Placed → Bool
      counts_here at = is_successor key edge.label at.edge

      longer_of : (at : Placed) → Contains (filter counts_here (placed_from 0 buffer.nodes)) at → HasPartner IsFrontOf (filter (is_one_longer list) fronts) at
      longer_of at q =
          let both = Contains-from_filter counts_here (placed_from 0 buffer.nodes) at q in
          let its = front_of at (stands_at at both.0) in
          record {
            partner = its.partner;
            listed = Contains-filter (is_one_longer list) fronts its.partner its.listed
                (counts_longer list its.partner key at.key edge at.edge of its.is.edge_is both.1);
            is = its.is;
          }

      counting_of : (longer : List Entry) → Contains (filter (is_one_longer list) fronts) longer
          → HasPartner (λ l at. IsFrontOf at l) (filter counts_here (placed_from 0 buffer.nodes)) longer
      counting_of longer q =
          let both = Contains-from_filter (is_one_longer list) fronts longer q in
          let its = placed_of longer both.0 in
          record {
            partner = its.partner;
            listed = Contains-filter counts_here (placed_from 0 buffer.nodes) its.partner its.listed
                (longer_counts list longer key its.partner.key edge its.partner.edge of its.is.edge_is both.1);
            is = its.is;
          }

      successors_are : successors buffer.nodes key edge.label ≡ count_by (is_one_longer list) fronts
      successors_are =
          sym (placed-sum (λ (e : Edge). cond (is_successor key edge.label e) 1 0) 0 buffer.nodes)
          ∙ sym (length-filter counts_here (placed_from 0 buffer.nodes))
          ∙ as_many IsFrontOf (filter counts_here (placed_from 0 buffer.nodes)) (filter (is_one_longer list) fronts)
          (record {
            apart_left = AllApart-filter counts_here (placed_from 0 buffer.nodes) (placed-apart 0 buffer.nodes sound.prefix_free);
            apart_right = AllApart-filter (is_one_longer list) fronts are.once;
            to = longer_of;
            from = counting_of;
            one_left = same_placed;
            one_right = same_front_of;
          })
          ∙ length-filter (is_one_longer list) fronts

      -- The edge of a list is counted once for each front that is one entry longer, and once for each hold.
      pub count_is : edge.count ≡ count_by (is_one_longer list) fronts + held list key
      count_is = omega (arith, (sound.counted key edge of.stands).1, successors_are, holds_of plan events held buffer buffer has sound list key edge of)

    -- ---- nodes

    node_at : (list : List Entry) (key : ℕ) (of : IsNodeOf plan buffer.nodes list key) → IsNodeAt buffer.nodes key (place_of plan list)
    node_at list key of = record {
      node = of.node;
      found = of.found;
      state_is = of.state_is;
      position_is = of.position_is ∙ sym (ap (λ (o : Option Entry). option_map_or (λ (e : Entry). e.position) o 0) of.last);
    }

    -- Each node stands for the place where some front ends.
    pub front_at : (key : ℕ) (node : Node) → slot_at buffer.nodes key ≡ Some node
        → EndsThere plan fronts (record { state = node.state; position = node.position })
    front_at key node found =
        let first = first_listed node.edges (sound.has_edge key node found) in
        let its = front_of (placed key first.edge) (record { node = node; found = found; listed = first.listed }) in
        let at = node_at its.partner key its.is.edge_is.node in
        let same : at.node ≡ node = same_value buffer.nodes key key at.node node refl at.found found in
        let state : (place_of plan its.partner).state ≡ node.state = sym at.state_is ∙ ap (λ (n : Node). n.state) same in
        let position : (place_of plan its.partner).position ≡ node.position = sym at.position_is ∙ ap (λ (n : Node). n.position) same in
        record { list = its.partner; listed = its.listed; place_is = λ i. record { state = state i; position = position i } }

    -- The place where a front ends has a node.
    pub node_there : (place : Place) → EndsThere plan fronts place → HasNodeAt buffer.nodes place
    node_there place there =
        let its = edge_of there.list there.listed in
        record { key = its.key; at = subst (IsNodeAt buffer.nodes its.key) there.place_is (node_at there.list its.key its.has.edge_is.node) }

    key_of : (place : Place) → HasNodeAt buffer.nodes place → HasPartner (λ p key. IsNodeAt buffer.nodes key p) (keys_from 0 buffer.nodes) place
    key_of place there =
        let key : 0 + there.key ≡ there.key = omega arith in
        record {
          partner = there.key;
          listed = subst (Contains (keys_from 0 buffer.nodes)) key (keys-listed 0 buffer.nodes there.key there.at.node there.at.found);
          is = there.at;
        }

    -- There are as many nodes as places where fronts end.
    pub nodes_are : (places : List Place) → ArePlaces plan fronts places → count_by is_some buffer.nodes ≡ length places
    nodes_are places all =
        sym (keys-count 0 buffer.nodes)
        ∙ as_many (IsNodeAt buffer.nodes) (keys_from 0 buffer.nodes) places
        (record {
          apart_left = keys-apart 0 buffer.nodes;
          apart_right = all.once;
          to = place_for;
          from = λ place q. key_of place (node_there place (all.sound place q));
          one_left =
              λ a b place at_a at_b. one_place a b at_a.node at_b.node at_a.found at_b.found (at_a.state_is ∙ sym at_b.state_is)
              (at_a.position_is ∙ sym at_b.position_is);
          one_right = same_place;
        }) where
          place_for : (key : ℕ) → Contains (keys_from 0 buffer.nodes) key → HasPartner (IsNodeAt buffer.nodes) places key
          place_for key q =
              let there = keys-stand 0 buffer.nodes key q in
              let here : there.place ≡ key = omega (arith, there.key_is) in
              let found : slot_at buffer.nodes key ≡ Some there.row = ap (slot_at buffer.nodes) (sym here) ∙ there.found in
              let at = front_at key there.row found in
              record {
                partner = record { state = there.row.state; position = there.row.position };
                listed = subst (Contains places) at.place_is (all.complete at.list at.listed);
                is = record { node = there.row; found = found; state_is = refl; position_is = refl };
              }

          same_place : (a b : Place) (key : ℕ) → IsNodeAt buffer.nodes key a → IsNodeAt buffer.nodes key b → a ≡ b
          same_place a b key at_a at_b =
              let same : at_a.node ≡ at_b.node = same_value buffer.nodes key key at_a.node at_b.node refl at_a.found at_b.found in
              let state : a.state ≡ b.state = sym at_a.state_is ∙ ap (λ (n : Node). n.state) same ∙ at_b.state_is in
              let position : a.position ≡ b.position = sym at_a.position_is ∙ ap (λ (n : Node). n.position) same ∙ at_b.position_is in
              λ i. record { state = state i; position = position i }

  -- ---- events

  -- A position in a held list has its event.
  pub reached_there : (position : ℕ) → IsReached held position → HasEventAt buffer position
  reached_there position is = subst (HasEventAt buffer) is.at (reached_event plan events held buffer has sound is.front is.entry is.held_front)

  -- Without a pin there are as many events as positions in held lists.
  pub events_are : ((key : ℕ) (row : Standing) → slot_at buffer.events key ≡ Some row → row.pinned ≡ false) → (positions : List ℕ) → AreReached held positions
      → count_by is_some buffer.events ≡ length positions
  events_are free positions all =
      sym (keys-count 0 buffer.events)
      ∙ as_many (HasPosition buffer.events) (keys_from 0 buffer.events) positions
      (record {
        apart_left = keys-apart 0 buffer.events;
        apart_right = all.once;
        to = position_for;
        from = key_for;
        one_left = λ a b position at_a at_b. has.one_event a b at_a.row at_b.row at_a.found at_b.found (at_a.position_is ∙ sym at_b.position_is);
        one_right = same_position;
      }) where
        position_for : (key : ℕ) → Contains (keys_from 0 buffer.events) key → HasPartner (HasPosition buffer.events) positions key
        position_for key q =
            let there = keys-stand 0 buffer.events key q in
            let here : there.place ≡ key = omega (arith, there.key_is) in
            let found : slot_at buffer.events key ≡ Some there.row = ap (slot_at buffer.events) (sym here) ∙ there.found in
            record {
              partner = there.row.position;
              listed = all.complete there.row.position (event_reached plan events held buffer has sound key there.row found (free key there.row found));
              is = record { row = there.row; found = found; position_is = refl };
            }

        key_for : (position : ℕ) → Contains positions position → HasPartner (λ p key. HasPosition buffer.events key p) (keys_from 0 buffer.events) position
        key_for position q =
            let there = reached_there position (all.sound position q) in
            let key : 0 + there.key ≡ there.key = omega arith in
            record {
              partner = there.key;
              listed = subst (Contains (keys_from 0 buffer.events)) key (keys-listed 0 buffer.events there.key there.at.row there.at.found);
              is = there.at;
            }

        same_position : (a b : ℕ) (key : ℕ) → HasPosition buffer.events key a → HasPosition buffer.events key b → a ≡ b
        same_position a b key at_a at_b =
            let same : at_a.row ≡ at_b.row = same_value buffer.events key key at_a.row at_b.row refl at_a.found at_b.found in
            sym at_a.position_is ∙ ap (λ (r : Standing). r.position) same ∙ at_b.position_is
