-- The path of a list's node and label is the list.
use Rattle.std.proofs.Common.{◌≡◌, refl, sym, ◌∙◌, ap, subst, ℕ, zero, suc, ◌≤◌, arith, List, [], ◌∷◌, ◌++◌, append_assoc, length}
use Rattle.std.proofs.Common.{length-append, Some, None}
use Rattle.std.specs.Prelude.{option_map, option_and_then}
use Rattle.cep_event.specs.declared.event.Event.{Event}
use Rattle.cep_plan.specs.declared.plan.Plan.{Plan}
use Rattle.cep_plan.specs.declared.item.Taken.{Taken}
use Rattle.cep_plan.specs.Entry.{Entry, event_at, taken_at, taken_of, last_entry}
use Rattle.live_laws.proofs.LastLaws.{last_or-push, taken_of-end}
use Rattle.match_labels.specs.Label.{label_of}
use Rattle.shared_buffer.specs.Edges.{find_edge}
use Rattle.shared_buffer.specs.Link.{step_of}
use Rattle.shared_buffer.specs.Content.{Content}
use Rattle.shared_buffer.specs.Facts.{IsConsistent}
use Rattle.shared_buffer.specs.declared.edges.Edge.{Edge}
use Rattle.shared_buffer.specs.declared.node.Node.{Node}
use Rattle.shared_buffer.proofs.SlotLaws.{same_value}
use Rattle.match_extract.specs.Path.{Takes, IsPath}
use Rattle.match_extract.specs.Path.IsPath.{First, Later}
use Rattle.list_buffer.specs.Held.{Holds}
use Rattle.list_buffer.specs.Listed.{LeadsTo, IsEdgeOf, HasEdgeOf, HoldsLists}
use Rattle.list_buffer.proofs.ChainLaws.{front_edge}
use Rattle.list_buffer.proofs.PutLaws.{found_edge_of}

module _ (plan : Plan) (events : List Event) (held : Holds) (buffer : Content) (has : HoldsLists plan events held buffer) (sound : IsConsistent buffer) where
  -- the last step of the path
  takes-end : (list later : List Entry) (key : ℕ) (edge : Edge) → (of : IsEdgeOf plan events buffer.nodes list key edge)
      → Takes buffer (label_of plan events (list ++ later)) key (taken_at events of.end) edge.pred
  takes-end list later key edge of =
      let node = of.stands.node in
      let version = label_of plan events (list ++ later) in
      let at = sound.has_event key node of.stands.found in
      let told = has.event_is node.event at.row at.found in
      let same : of.node.node ≡ node = same_value buffer.nodes key key of.node.node node refl of.node.found of.stands.found in
      let ends : Some of.end ≡ Some of.node.end = sym (last_or-push None of.front of.end) ∙ sym (ap last_entry of.parts) ∙ of.node.last in
      let end : of.end ≡ of.node.end = cc in
      let stage : of.end.stage ≡ node.stage = ap (λ (e : Entry). e.stage) end ∙ sym of.node.stage_is ∙ ap (λ (n : Node). n.stage) same in
      let position : of.end.position ≡ at.row.position =
      ap (λ (e : Entry). e.position) end ∙ sym of.node.position_is ∙ ap (λ (n : Node). n.position) same ∙ sym at.position_is in
      record {
        link = step_of node edge;
        linked = ap (option_and_then (λ (n : Node). option_map (step_of n) (find_edge n.edges version))) of.stands.found
            ∙ ap (option_map (step_of node)) (found_edge_of plan events held buffer has sound list later key edge of node of.stands.found);
        row = at.row;
        found = at.found;
        taken_is = λ i. record { stage = stage i; position = position i; event = (ap (event_at events) position ∙ sym told.1) i };
        pred_is = refl;
      }

  path_to : (n : ℕ) (list : List Entry) → length list ≤ n → (later : List Entry) (key : ℕ) → HasEdgeOf plan events buffer.nodes list key
      → IsPath buffer (label_of plan events (list ++ later)) key (taken_of events list)
  path_to zero list short later key at = absurd (omega (arith, short, ap length at.edge_is.parts, length-append at.edge_is.front (at.edge_is.end ∷ [])))
  path_to (suc n) list short later key at =
      by_front at.edge_is.front at.edge_is.parts at.edge_is.leads (takes-end list later key at.edge at.edge_is)
      (λ front less more k has_front. path_to n front less more k has_front) where
        by_front : (front : List Entry) → list ≡ front ++ at.edge_is.end ∷ [] → LeadsTo plan buffer.nodes front at.edge.pred
            → Takes buffer (label_of plan events (list ++ later)) key (taken_at events at.edge_is.end) at.edge.pred
            → ((front : List Entry) → length front ≤ n → (more : List Entry) (k : ℕ) → HasEdgeOf plan events buffer.nodes front k
            → IsPath buffer (label_of plan events (front ++ more)) k (taken_of events front))
            → IsPath buffer (label_of plan events (list ++ later)) key (taken_of events list)
        by_front [] parts none takes shorter =
            subst (λ (l : List Taken). IsPath buffer (label_of plan events (list ++ later)) key l) (sym (ap (taken_of events) parts))
            (First key (taken_at events at.edge_is.end)
            (subst (Takes buffer (label_of plan events (list ++ later)) key (taken_at events at.edge_is.end)) none takes))
        by_front (first ∷ l) parts leads takes shorter =
            let end = at.edge_is.end in
            let below =
            front_edge plan events held buffer has sound first l end key at.edge
            (subst (λ (x : List Entry). IsEdgeOf plan events buffer.nodes x key at.edge) parts at.edge_is) in
            let path = shorter (first ∷ l) (omega (arith, short, ap length parts, length-append (first ∷ l) (end ∷ []))) (end ∷ later) below.key below.has in
            let version : label_of plan events ((first ∷ l) ++ end ∷ later) ≡ label_of plan events (list ++ later) =
            ap (label_of plan events) (sym (append_assoc (first ∷ l) (end ∷ []) later) ∙ ap (λ (x : List Entry). x ++ later) (sym parts)) in
            subst (λ (x : List Taken). IsPath buffer (label_of plan events (list ++ later)) key x)
            (sym (ap (taken_of events) parts ∙ taken_of-end events (first ∷ l) end))
            (Later key below.key (taken_at events end) (taken_of events (first ∷ l))
            (subst (Takes buffer (label_of plan events (list ++ later)) key (taken_at events end)) below.pred_is takes)
            (subst (λ (v : List ℕ). IsPath buffer v below.key (taken_of events (first ∷ l))) version path))

  -- The path of the node of a list and its label, or a longer list's, is the list.
  pub path_of : (list later : List Entry) (key : ℕ) → HasEdgeOf plan events buffer.nodes list key
      → IsPath buffer (label_of plan events (list ++ later)) key (taken_of events list)
  path_of list later key at = path_to (length list) list (omega arith) later key at
