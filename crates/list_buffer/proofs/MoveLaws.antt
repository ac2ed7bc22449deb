-- Where nodes stay what they are, each edge stays that of its list.
use Rattle.std.proofs.Common.{◌≡◌, refl, sym, ◌∙◌, ap, ℕ, true, false, List, [], ◌∷◌, Option, Some}
use Rattle.std.proofs.Common.{inl, inr}
use Rattle.cep_event.specs.declared.event.Event.{Event}
use Rattle.cep_plan.specs.declared.plan.Plan.{Plan}
use Rattle.cep_plan.specs.Entry.{Entry, last_entry}
use Rattle.cep_plan.specs.Partial.{is_partial}
use Rattle.dewey_version.specs.Version.{begins}
use Rattle.match_labels.specs.Label.{label_of}
use Rattle.match_labels.proofs.LabelLaws.{labels_differ}
use Rattle.match_labels.proofs.PathLaws.{begins-no}
use Rattle.shared_buffer.specs.Slots.{slot_at}
use Rattle.shared_buffer.specs.Graph.{Stands}
use Rattle.shared_buffer.specs.Content.{Content}
use Rattle.shared_buffer.specs.Facts.{IsConsistent}
use Rattle.shared_buffer.specs.declared.edges.Edge.{Edge}
use Rattle.shared_buffer.specs.declared.node.Node.{Node}
use Rattle.shared_buffer.proofs.SlotLaws.{same_value}
use Rattle.list_buffer.specs.Listed.{IsNodeOf, LeadsTo, IsEdgeOf}
use Rattle.list_buffer.proofs.HeldLaws.{cases_list}

-- what a list needs of its node is the same of both
pub record IsSameNode (a b : Node) : Type 0 where
  pub same_stage : a.stage ≡ b.stage
  pub same_state : a.state ≡ b.state
  pub same_position : a.position ≡ b.position

-- a node that stands in both is the same for lists
abbrev pub KeepNodes : List (Option Node) → List (Option Node) → Type 0
KeepNodes old new = (key : ℕ) (node kept : Node) → slot_at old key ≡ Some node → slot_at new key ≡ Some kept → IsSameNode kept node

pub IsNodeOf-moved : (plan : Plan) (old new : List (Option Node)) → KeepNodes old new → (list : List Entry) (key : ℕ) (kept : Node)
    → slot_at new key ≡ Some kept → IsNodeOf plan old list key → IsNodeOf plan new list key
IsNodeOf-moved plan old new keep list key kept found at =
    let same = keep key at.node kept at.found found in
    record {
      node = kept;
      found = found;
      end = at.end;
      last = at.last;
      stage_is = same.same_stage ∙ at.stage_is;
      position_is = same.same_position ∙ at.position_is;
      state_is = same.same_state ∙ at.state_is;
    }

-- an edge that stands in both, with the same label and predecessor, is that of the same list
pub IsEdgeOf-moved : (plan : Plan) (events : List Event) (old : List (Option Node)) (new : Content) → KeepNodes old new.nodes → IsConsistent new
    → (list : List Entry) (key : ℕ) (was edge : Edge) → Stands new.nodes key edge → edge.label ≡ was.label → edge.pred ≡ was.pred
    → IsEdgeOf plan events old list key was → IsEdgeOf plan events new.nodes list key edge
IsEdgeOf-moved plan events old new keep sound list key was edge stands label pred of =
    record {
      partial = of.partial;
      stands = stands;
      node = IsNodeOf-moved plan old new.nodes keep list key stands.node stands.found of.node;
      label = label ∙ of.label;
      front = of.front;
      end = of.end;
      parts = of.parts;
      leads = by_front of.front of.leads;
    } where
      by_front : (front : List Entry) → LeadsTo plan old front was.pred → LeadsTo plan new.nodes front edge.pred
      by_front [] none = pred ∙ none
      by_front (first ∷ later) (to, is, node) =
          let root = sound.rooted key stands.node edge to stands.found stands.listed (pred ∙ is) in
          (to, pred ∙ is, IsNodeOf-moved plan old new.nodes keep (first ∷ later) to root.node root.found node)

-- ---- one list for an edge

-- lists of one node end at one entry
pub same_end : (plan : Plan) (nodes : List (Option Node)) (a b : List Entry) (key : ℕ) (in_a : IsNodeOf plan nodes a key) → IsNodeOf plan nodes b key
    → last_entry b ≡ Some in_a.end
same_end plan nodes a b key in_a in_b =
    let node : in_a.node ≡ in_b.node = same_value nodes key key in_a.node in_b.node refl in_a.found in_b.found in
    let stage : in_b.end.stage ≡ in_a.end.stage = sym in_b.stage_is ∙ sym (ap (λ (n : Node). n.stage) node) ∙ in_a.stage_is in
    let position : in_b.end.position ≡ in_a.end.position = sym in_b.position_is ∙ sym (ap (λ (n : Node). n.position) node) ∙ in_a.position_is in
    in_b.last ∙ (λ i. Some (record { stage = stage i; position = position i }))

-- partial matches of one node, of whose labels one begins the other, are the same
pub same_list : (plan : Plan) (events : List Event) (nodes : List (Option Node)) (a b : List Entry) (key : ℕ) → is_partial plan events a ≡ true
    → is_partial plan events b ≡ true
    → IsNodeOf plan nodes a key → IsNodeOf plan nodes b key → begins (label_of plan events a) (label_of plan events b) ≡ true → a ≡ b
same_list plan events nodes a b key partial_a partial_b in_a in_b begun =
    elim (cases_list a b) [
      | inl same ↦ same
      | inr other ↦
          let no : begins (label_of plan events a) (label_of plan events b) ≡ false =
          begins-no (labels_differ plan events a b in_a.end other partial_a in_a.last partial_b (same_end plan nodes a b key in_a in_b)) in
          let bad : true ≡ false = sym begun ∙ no in
          absurd cc
    ]
