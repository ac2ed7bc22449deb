-- What a buffer's calls ask is met where it holds lists.
use Rattle.std.proofs.Common.{◌≡◌, ◌≢◌, refl, sym, ◌∙◌, ap, subst, ℕ, ◌+◌, ◌^◌, ◌≤◌, ◌<◌, arith, Bool, true, false, List, [], ◌∷◌, ◌++◌, length}
use Rattle.std.proofs.Common.{Option, Some, is_some, cond, inl, inr}
use Rattle.std.specs.Prelude.{option_and_then, count_by}
use Rattle.std.proofs.lemmas.List.Sums.{sum_by-cons}
use Rattle.cep_event.specs.declared.event.Event.{Event}
use Rattle.cep_plan.specs.declared.plan.Plan.{Plan}
use Rattle.cep_plan.specs.Entry.{Entry, last_entry, stages_of}
use Rattle.cep_plan.specs.Partial.{is_partial}
use Rattle.dewey_version.specs.Version.{begins}
use Rattle.dewey_version.proofs.VersionLaws.{begins-refl}
use Rattle.nfa_compile.specs.State.{IsCompilable}
use Rattle.nfa_compile.specs.Automaton.{number_of_list}
use Rattle.match_labels.specs.Label.{label_of}
use Rattle.match_labels.proofs.LabelLaws.{labels_differ}
use Rattle.match_labels.proofs.PathLaws.{begins-no, front_begins}
use Rattle.shared_buffer.specs.Slots.{slot_at}
use Rattle.shared_buffer.specs.Lists.{Lists}
use Rattle.shared_buffer.specs.Edges.{find_edge}
use Rattle.shared_buffer.specs.Graph.{IsApartFrom, is_successor, successors, edges_of, edge_total}
use Rattle.shared_buffer.specs.Content.{Content}
use Rattle.shared_buffer.specs.Nodes.{CanHold}
use Rattle.shared_buffer.specs.Put.{CanCarry, CanPut, IsNewLabel, IsOfStage}
use Rattle.shared_buffer.specs.Release.{HasHold}
use Rattle.shared_buffer.specs.Facts.{IsConsistent}
use Rattle.shared_buffer.specs.declared.edges.Edge.{Edge}
use Rattle.shared_buffer.specs.declared.node.Node.{Node}
use Rattle.shared_buffer.specs.declared.node.Standing.{Standing}
use Rattle.shared_buffer.proofs.SlotLaws.{same_value}
use Rattle.shared_buffer.proofs.EdgeLaws.{found_of_listed}
use Rattle.list_buffer.specs.Held.{Holds}
use Rattle.list_buffer.specs.Listed.{LeadsTo, IsEdgeOf, HasEdgeOf, HoldsLists}
use Rattle.list_buffer.proofs.HoldLaws.{holds_of}
use Rattle.list_buffer.proofs.StateLaws.{same_stage, front_lower}
use Rattle.list_buffer.proofs.ChainLaws.{end_held, first_listed}

-- no edge is counted by more than all edges
count_by-all : (test : Edge → Bool) (edges : List Edge) → count_by test edges ≤ length edges
count_by-all test [] = omega arith
count_by-all test (edge ∷ edges) =
    let rest = count_by-all test edges in
    omega (arith, rest, sum_by-cons (λ e. cond (test e) 1 0) edge edges, at_most_one (test edge) (cond (test edge) 1 0) refl) where
      at_most_one : (b : Bool) (n : ℕ) → n ≡ cond b 1 0 → n ≤ 1
      at_most_one true n e = omega (arith, e)
      at_most_one false n e = omega (arith, e)

pub successors_within : (nodes : List (Option Node)) (key : ℕ) (label : List ℕ) → successors nodes key label ≤ edge_total nodes
successors_within [] key label = omega arith
successors_within (slot ∷ nodes) key label =
    let rest = successors_within nodes key label in
    omega (
      arith,
      rest,
      sum_by-cons (λ slot. count_by (is_successor key label) (edges_of slot)) slot nodes,
      sum_by-cons (λ slot. length (edges_of slot)) slot nodes,
      count_by-all (is_successor key label) (edges_of slot),
    )

apart_from_all : (label : List ℕ) (edges : List Edge)
    → ((edge : Edge) → Lists edges edge → (begins label edge.label ≡ false) × (begins edge.label label ≡ false)) → IsApartFrom label edges
apart_from_all label [] each = tt
apart_from_all label (edge ∷ edges) each = (each edge (inl refl), apart_from_all label edges (λ e listed. each e (inr listed)))

module _ (plan : Plan) (events : List Event) (held : Holds) (buffer : Content) (has : HoldsLists plan events held buffer) (sound : IsConsistent buffer) where
  -- the edge that leads on with a list's label is the list's
  pub found_edge_of : (list later : List Entry) (key : ℕ) (edge : Edge) → (of : IsEdgeOf plan events buffer.nodes list key edge) → (node : Node)
      → slot_at buffer.nodes key ≡ Some node
      → find_edge node.edges (label_of plan events (list ++ later)) ≡ Some edge
  found_edge_of list later key edge of node found =
      let same : of.stands.node ≡ node = same_value buffer.nodes key key of.stands.node node refl of.stands.found found in
      let begun : begins edge.label (label_of plan events (list ++ later)) ≡ true =
      ap (λ l. begins l (label_of plan events (list ++ later))) of.label ∙ front_begins plan events list later in
      found_of_listed node.edges edge (label_of plan events (list ++ later)) (sound.prefix_free key node found)
      (subst (λ (n : Node). Lists n.edges edge) same of.stands.listed) begun

  found_own : (list : List Entry) (key : ℕ) (edge : Edge) → (of : IsEdgeOf plan events buffer.nodes list key edge)
      → find_edge of.stands.node.edges (label_of plan events list) ≡ Some edge
  found_own list key edge of =
      let begun : begins edge.label (label_of plan events list) ≡ true =
      ap (λ l. begins l (label_of plan events list)) of.label ∙ begins-refl (label_of plan events list) in
      found_of_listed of.stands.node.edges edge (label_of plan events list) (sound.prefix_free key of.stands.node of.stands.found) of.stands.listed begun

  -- What `release` asks.
  pub has_hold : (list : List Entry) (key : ℕ) → 0 < held list key → HasHold buffer.nodes key (label_of plan events list)
  has_hold list key some =
      let at = has.stands list key some in
      let of = at.edge_is in
      let many = holds_of plan events held buffer buffer has sound list key at.edge of in
      record {
        node = of.stands.node;
        found = of.stands.found;
        edge = at.edge;
        found_edge = found_own list key at.edge of;
        free = omega (arith, some, many);
      }

  module _ (few : edge_total buffer.nodes ≤ 2 ^ 63) where
    -- no edge of a list with few holds is counted to the end
    room_of : (list : List Entry) (key : ℕ) (edge : Edge) → IsEdgeOf plan events buffer.nodes list key edge → held list key ≤ 2 ^ 62 → edge.count + 1 < 2 ^ 64
    room_of list key edge of small =
        let counted = sound.counted key edge of.stands in
        let many = holds_of plan events held buffer buffer has sound list key edge of in
        let within = successors_within buffer.nodes key edge.label in
        omega (arith, counted.1, many, within, few, small)

    -- What `hold` asks.
    pub can_hold : (list : List Entry) (key : ℕ) → HasEdgeOf plan events buffer.nodes list key → held list key ≤ 2 ^ 62
        → CanHold buffer.nodes key (label_of plan events list)
    can_hold list key at small =
        let of = at.edge_is in
        let found : option_and_then (λ (n : Node). find_edge n.edges (label_of plan events list)) (slot_at buffer.nodes key) ≡ Some at.edge =
        ap (option_and_then (λ (n : Node). find_edge n.edges (label_of plan events list))) of.stands.found ∙ found_own list key at.edge of in
        record {
          leads = ap is_some found;
          room =
              λ edge is. let same : Some at.edge ≡ Some edge = sym found
              ∙ is in let e : at.edge ≡ edge = cc in subst (λ (x : Edge). x.count + 1 < 2 ^ 64) e (room_of list key at.edge of small);
        }

    module _ (fit : IsCompilable plan) (list front : List Entry) (end : Entry) (partial : is_partial plan events list ≡ true)
        (parts : list ≡ front ++ end ∷ []) (last : last_entry list ≡ Some end)
        (top : end.position + 1 ≡ length events) (state event : ℕ) (is_state : state ≡ number_of_list plan (stages_of list)) (row : Standing)
        (found : slot_at buffer.events event ≡ Some row) (at_end : row.position ≡ end.position)
        (pred : Option ℕ) (leads : LeadsTo plan buffer.nodes front pred)
        (carried : (key : ℕ) → pred ≡ Some key → HasEdgeOf plan events buffer.nodes front key) (small : (key : ℕ) → held front key ≤ 2 ^ 62)
        (new : (key : ℕ) → held list key ≡ 0) where
      -- the node is at the event
      at_event : (key : ℕ) (node : Node) → slot_at buffer.nodes key ≡ Some node → node.event ≡ event → node.position ≡ end.position
      at_event key node found_node is =
          let at = sound.has_event key node found_node in
          let same : row ≡ at.row = same_value buffer.events event node.event row at.row is found at.found in
          sym at.position_is ∙ sym (ap (λ (r : Standing). r.position) same) ∙ at_end

      put_stage : IsOfStage buffer.nodes event state end.stage
      put_stage key node found_node is_event state_is =
          let one = first_listed node.edges (sound.has_edge key node found_node) in
          let it = has.listed key one.edge (record { node = node; found = found_node; listed = one.listed }) in
          let at = it.edge_is.node in
          let same : at.node ≡ node = same_value buffer.nodes key key at.node node refl at.found found_node in
          let number : number_of_list plan (stages_of it.list) ≡ number_of_list plan (stages_of list) =
          sym at.state_is ∙ ap (λ (n : Node). n.state) same ∙ state_is ∙ is_state in
          sym (ap (λ (n : Node). n.stage) same) ∙ at.stage_is
          ∙ same_stage plan fit events it.list list at.end end it.edge_is.partial partial at.last last number

      put_apart : IsNewLabel buffer.nodes event state (label_of plan events list)
      put_apart key node found_node is_event state_is = apart_from_all (label_of plan events list) node.edges (λ edge listed.
          let it = has.listed key edge (record { node = node; found = found_node; listed = listed }) in
          let at = it.edge_is.node in
          let same : at.node ≡ node = same_value buffer.nodes key key at.node node refl at.found found_node in
          let stage : at.end.stage ≡ end.stage = sym at.stage_is ∙ ap (λ (n : Node). n.stage) same ∙ put_stage key node found_node is_event state_is in
          let position : at.end.position ≡ end.position = sym at.position_is ∙ ap (λ (n : Node). n.position) same ∙ at_event key node found_node is_event in
          let ends : last_entry it.list ≡ Some end = at.last ∙ (λ i. Some (record { stage = stage i; position = position i })) in
          let other : it.list ≢ list =
          (λ e. let some = end_held plan events held buffer has sound it.list key edge it.edge_is
          (omega (arith, position, top)) in let none : held it.list key ≡ 0 = ap (λ l. held l key) e ∙ new key in omega (arith, some, none)) in (
            ap (begins (label_of plan events list)) it.edge_is.label
                ∙ begins-no (labels_differ plan events list it.list end (λ e. other (sym e)) partial last it.edge_is.partial ends),
            ap (λ l. begins l (label_of plan events list)) it.edge_is.label
                ∙ begins-no (labels_differ plan events it.list list end other it.edge_is.partial ends partial last),
          ))

      put_carries : (front : List Entry) → list ≡ front ++ end ∷ [] → LeadsTo plan buffer.nodes front pred
          → ((key : ℕ) → pred ≡ Some key → HasEdgeOf plan events buffer.nodes front key) → ((key : ℕ) → held front key ≤ 2 ^ 62)
          → (key : ℕ) → pred ≡ Some key → (r : Standing) → slot_at buffer.events event ≡ Some r
          → CanCarry buffer.nodes r.position (label_of plan events list) key
      put_carries front parts leads carried small key is r found_r =
          let at = carried key is in
          let of = at.edge_is in
          let same : row ≡ r = same_value buffer.events event event row r refl found found_r in
          let lower = front_lower plan events list front of.node.end end partial parts of.node.last in
          let node_same : of.node.node ≡ of.stands.node = same_value buffer.nodes key key of.node.node of.stands.node refl of.node.found of.stands.found in
          let p : of.stands.node.position ≡ of.node.end.position = sym (ap (λ (n : Node). n.position) node_same) ∙ of.node.position_is in
          let q : row.position ≡ r.position = ap (λ (s : Standing). s.position) same in
          record {
            node = of.stands.node;
            found = of.stands.found;
            before = omega (arith, lower, p, q, at_end);
            edge = at.edge;
            found_edge =
                subst (λ (l : List Entry). find_edge of.stands.node.edges (label_of plan events l) ≡ Some at.edge) (sym parts)
                (found_edge_of front (end ∷ []) key at.edge of of.stands.node of.stands.found);
            room = room_of front key at.edge of (small key);
          }

      -- What `put` asks of one more list that ends at the last event.
      pub can_put : CanPut buffer end.stage state event pred (label_of plan events list)
      can_put = record {
        stands = ap is_some found;
        of_stage = put_stage;
        carries = put_carries front parts leads carried small;
        apart = put_apart;
      }
