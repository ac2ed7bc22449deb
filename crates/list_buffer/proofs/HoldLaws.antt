-- What a hold, a release and a put make of a buffer that holds lists.
use Rattle.std.proofs.Common.{◌≡◌, refl, sym, ◌∙◌, ap, subst, ℕ, ◌<◌, arith, true, false, List, [], ◌∷◌, ◌++◌, length, Option}
use Rattle.std.proofs.Common.{Some, ◌⊎◌, inl, inr}
use Rattle.std.proofs.lemmas.Bool.{cases_eq, false_from_ne_true}
use Rattle.cep_event.specs.declared.event.Event.{Event}
use Rattle.cep_plan.specs.declared.plan.Plan.{Plan}
use Rattle.cep_plan.specs.Entry.{Entry, event_at, last_entry, stages_of}
use Rattle.cep_plan.specs.Partial.{is_partial}
use Rattle.dewey_version.specs.Version.{begins}
use Rattle.dewey_version.proofs.VersionLaws.{begins-refl}
use Rattle.nfa_compile.specs.Automaton.{number_of_list}
use Rattle.match_labels.specs.Label.{label_of}
use Rattle.shared_buffer.specs.Slots.{slot_at}
use Rattle.shared_buffer.specs.Graph.{Stands}
use Rattle.shared_buffer.specs.Chain.{holds}
use Rattle.shared_buffer.specs.Chain.IsOnChain.{Last}
use Rattle.shared_buffer.specs.Content.{Content}
use Rattle.shared_buffer.specs.Exact.{chosen, KeepsNode, KeepsEdge, AddsOneHold, AddsOneEdge, ReleasesOneHold}
use Rattle.shared_buffer.specs.Release.{KeepsEvents}
use Rattle.shared_buffer.specs.Put.{IsPlaced}
use Rattle.shared_buffer.specs.Facts.{IsConsistent}
use Rattle.shared_buffer.specs.declared.edges.Edge.{Edge}
use Rattle.shared_buffer.specs.declared.node.Node.{Node}
use Rattle.shared_buffer.specs.declared.node.Standing.{Standing}
use Rattle.shared_buffer.proofs.SlotLaws.{same_value}
use Rattle.shared_buffer.proofs.HoldLaws.{chosen_yes, chosen_elsewhere, chosen_other}
use Rattle.list_buffer.specs.Held.{Holder, Holds, one_hold, with_hold, without_hold}
use Rattle.list_buffer.specs.Listed.{IsNodeOf, LeadsTo, IsEdgeOf, IsListed, HasEdgeOf, HoldsLists}
use Rattle.list_buffer.proofs.HeldLaws.{cases_list, one_hold-here, one_hold-other_list, one_hold-other_node}
use Rattle.list_buffer.proofs.MoveLaws.{KeepNodes, IsNodeOf-moved, IsEdgeOf-moved, same_list}

-- a list and a node, or another of them
pub cases_holder : (holder : Holder) (list : List Entry) (node : ℕ) → ((holder.list ≡ list) × (holder.node ≡ node)) ⊎ (one_hold holder list node ≡ 0)
cases_holder holder list node =
    elim (cases_list holder.list list) [
      | inl same ↦ elim (cases_eq holder.node node) [
        | inl here ↦ inl (same, here)
        | inr elsewhere ↦ inr (one_hold-other_node holder list node elsewhere)
      ]
      | inr other ↦ inr (one_hold-other_list holder list node other)
    ]

-- the edge that a holder's version chooses is that of its list
chosen-one : (plan : Plan) (events : List Event) (nodes : List (Option Node)) (holder : Holder) (list : List Entry) (key : ℕ) (label : List ℕ)
    → is_partial plan events holder.list ≡ true → IsNodeOf plan nodes holder.list holder.node
    → is_partial plan events list ≡ true → IsNodeOf plan nodes list key → label ≡ label_of plan events list
    → chosen holder.node (label_of plan events holder.list) key label ≡ one_hold holder list key
chosen-one plan events nodes holder list key label partial_h in_h partial_l in_l is =
    elim (cases_eq key holder.node) [
      | inl here ↦ elim (cases_list holder.list list) [
        | inl same ↦
            let begun : begins label (label_of plan events holder.list) ≡ true =
            ap (λ (l : List ℕ). begins l (label_of plan events holder.list)) (is ∙ sym (ap (label_of plan events) same))
            ∙ begins-refl (label_of plan events holder.list) in
            chosen_yes holder.node (label_of plan events holder.list) key label here begun ∙ sym (one_hold-here holder list key same (sym here))
        | inr other ↦
            let in_there : IsNodeOf plan nodes list holder.node = subst (IsNodeOf plan nodes list) here in_l in
            let not_begun : begins label (label_of plan events holder.list) ≡ false =
            ap (λ (l : List ℕ). begins l (label_of plan events holder.list)) is
            ∙ false_from_ne_true _
            (λ begun. other (sym (same_list plan events nodes list holder.list holder.node partial_l partial_h in_there in_h begun))) in
            chosen_other holder.node (label_of plan events holder.list) key label not_begun ∙ sym (one_hold-other_list holder list key other)
      ]
      | inr differs ↦
          chosen_elsewhere holder.node (label_of plan events holder.list) key label differs ∙ sym (one_hold-other_node holder list key (λ e. differs (sym e)))
    ]

pub keep_stays : (old new : List (Option Node)) → ((key : ℕ) (node : Node) → slot_at old key ≡ Some node → KeepsNode new key node) → KeepNodes old new
keep_stays old new stays key node kept in_old in_new =
    let it = stays key node in_old in
    let same : it.kept ≡ kept = same_value new key key it.kept kept refl it.found in_new in
    record {
      same_stage = sym (ap (λ (n : Node). n.stage) same) ∙ it.same_stage;
      same_state = sym (ap (λ (n : Node). n.state) same) ∙ it.same_state;
      same_position = sym (ap (λ (n : Node). n.position) same) ∙ it.same_position;
    }

keep_stood : (old new : List (Option Node)) → ((key : ℕ) (node : Node) → slot_at new key ≡ Some node → KeepsNode old key node) → KeepNodes old new
keep_stood old new stood key node kept in_old in_new =
    let it = stood key kept in_new in
    let same : it.kept ≡ node = same_value old key key it.kept node refl it.found in_old in
    record {
      same_stage = sym it.same_stage ∙ ap (λ (n : Node). n.stage) same;
      same_state = sym it.same_state ∙ ap (λ (n : Node). n.state) same;
      same_position = sym it.same_position ∙ ap (λ (n : Node). n.position) same;
    }

module _ (plan : Plan) (events : List Event) (held : Holds) (old new : Content) (before : HoldsLists plan events held old) (sound : IsConsistent new) where
  -- the holds of a list's edge are the list's
  pub holds_of : (list : List Entry) (key : ℕ) (edge : Edge) → IsEdgeOf plan events old.nodes list key edge → holds old.nodes key edge ≡ held list key
  holds_of list key edge of =
      let it = before.listed key edge of.stands in
      let begun : begins (label_of plan events it.list) (label_of plan events list) ≡ true =
      ap (λ (l : List ℕ). begins l (label_of plan events list)) (sym it.edge_is.label ∙ of.label) ∙ begins-refl (label_of plan events list) in
      it.holds_are ∙ ap (λ l. held l key) (same_list plan events old.nodes it.list list key it.edge_is.partial of.partial it.edge_is.node of.node begun)

  pub moved_edge : KeepNodes old.nodes new.nodes → (list : List Entry) (key : ℕ) (edge : Edge) → IsEdgeOf plan events old.nodes list key edge
      → KeepsEdge new.nodes key edge → HasEdgeOf plan events new.nodes list key
  moved_edge keep list key edge of kept =
      record {
        edge = kept.kept;
        edge_is = IsEdgeOf-moved plan events old.nodes new keep sound list key edge kept.kept kept.stands kept.same_label kept.same_pred of;
      }

  module _ (same_events : new.events ≡ old.events) where
    same_event_is : (key : ℕ) (row : Standing) → slot_at new.events key ≡ Some row
        → (row.position < length events) × (row.event ≡ event_at events row.position)
    same_event_is key row found = before.event_is key row (sym (ap (λ e. slot_at e key) same_events) ∙ found)

    same_one_event : (key other : ℕ) (row another : Standing) → slot_at new.events key ≡ Some row → slot_at new.events other ≡ Some another
        → row.position ≡ another.position → key ≡ other
    same_one_event key other row another at_key at_other same =
        before.one_event key other row another (sym (ap (λ e. slot_at e key) same_events) ∙ at_key)
        (sym (ap (λ e. slot_at e other) same_events) ∙ at_other) same

    -- ---- one hold more
    module _ (holder : Holder) (of : HasEdgeOf plan events old.nodes holder.list holder.node)
        (adds : AddsOneHold old.nodes new.nodes holder.node (label_of plan events holder.list)) where
      hold_keep : KeepNodes old.nodes new.nodes
      hold_keep = keep_stays old.nodes new.nodes adds.node_stays

      hold_listed : (key : ℕ) (edge : Edge) → Stands new.nodes key edge → IsListed plan events (with_hold holder held) new.nodes key edge
      hold_listed key edge stands =
          let stood = adds.stood key edge stands in
          let it = before.listed key stood.was stood.stood in
          let one =
          chosen-one plan events old.nodes holder it.list key edge.label of.edge_is.partial of.edge_is.node it.edge_is.partial it.edge_is.node
          (stood.same_label ∙ it.edge_is.label) in
          record {
            list = it.list;
            edge_is = IsEdgeOf-moved plan events old.nodes new hold_keep sound it.list key stood.was edge stands stood.same_label stood.same_pred it.edge_is;
            holds_are = omega (arith, stood.same_holds, it.holds_are, one);
          }

      hold_stands : (list : List Entry) (key : ℕ) → 0 < with_hold holder held list key → HasEdgeOf plan events new.nodes list key
      hold_stands list key some =
          elim (cases_holder holder list key) [
            | inl same ↦
                let at : HasEdgeOf plan events old.nodes list key =
                subst (λ (k : ℕ). HasEdgeOf plan events old.nodes list k) same.1
                (subst (λ (l : List Entry). HasEdgeOf plan events old.nodes l holder.node) same.0 of) in
                moved_edge hold_keep list key at.edge at.edge_is (adds.stays key at.edge at.edge_is.stands)
            | inr other ↦
                let at = before.stands list key (omega (arith, some, other)) in
                moved_edge hold_keep list key at.edge at.edge_is (adds.stays key at.edge at.edge_is.stands)
          ]

      -- A hold on the edge of a list.
      pub HoldsLists-hold : HoldsLists plan events (with_hold holder held) new
      HoldsLists-hold = record { event_is = same_event_is; one_event = same_one_event; listed = hold_listed; stands = hold_stands }

    -- ---- one edge more
    module _ (holder : Holder) (pred : Option ℕ) (front : List Entry) (end : Entry) (parts : holder.list ≡ front ++ end ∷ [])
        (partial : is_partial plan events holder.list ≡ true)
        (last : last_entry holder.list ≡ Some end) (leads : LeadsTo plan old.nodes front pred) (state event : ℕ)
        (is_state : state ≡ number_of_list plan (stages_of holder.list))
        (placed : IsPlaced new.nodes holder.node end.stage state event end.position)
        (adds : AddsOneEdge old.nodes new.nodes holder.node (record { pred = pred; label = label_of plan events holder.list; count = 1 }))
        (fresh : HasEdgeOf plan events old.nodes holder.list holder.node → ⊥) where
      abbrev put_edge : Edge
      put_edge = record { pred = pred; label = label_of plan events holder.list; count = 1 }

      put_keep : KeepNodes old.nodes new.nodes
      put_keep = keep_stays old.nodes new.nodes adds.node_stays

      put_leads : (front : List Entry) → LeadsTo plan old.nodes front pred → LeadsTo plan new.nodes front pred
      put_leads [] none = none
      put_leads (first ∷ later) (to, is, node) =
          let stays = adds.node_stays to node.node node.found in
          (to, is, IsNodeOf-moved plan old.nodes new.nodes put_keep (first ∷ later) to stays.kept stays.found node)

      put_is : IsEdgeOf plan events new.nodes holder.list holder.node put_edge
      put_is = record {
        partial = partial;
        stands = adds.stands;
        node =
            record {
              node = placed.node;
              found = placed.found;
              end = end;
              last = last;
              stage_is = placed.stage_is;
              position_is = placed.position_is;
              state_is = placed.state_is ∙ is_state;
            };
        label = refl;
        front = front;
        end = end;
        parts = parts;
        leads = put_leads front leads;
      }

      -- a list that has no edge isn't held
      put_none : held holder.list holder.node ≡ 0
      put_none =
          elim (cases_eq (held holder.list holder.node) 0) [
            | inl none ↦ none
            | inr some ↦ absurd (fresh (before.stands holder.list holder.node (omega (arith, some))))
          ]

      put_listed : (key : ℕ) (edge : Edge) → Stands new.nodes key edge → IsListed plan events (with_hold holder held) new.nodes key edge
      put_listed key edge stands =
          elim (adds.stood key edge stands) [
            | inl itself ↦
                subst (λ (k : ℕ). IsListed plan events (with_hold holder held) new.nodes k edge) (sym itself.0)
                (subst (λ (e : Edge). IsListed plan events (with_hold holder held) new.nodes holder.node e) (sym itself.1)
                (record {
                  list = holder.list;
                  edge_is = put_is;
                  holds_are = omega (arith, adds.one_hold, put_none, one_hold-here holder holder.list holder.node refl refl);
                }))
            | inr stood ↦
                let it = before.listed key stood.was stood.stood in
                let none : one_hold holder it.list key ≡ 0 =
                elim (cases_holder holder it.list key) [
                  | inl same ↦
                      absurd (fresh (subst (λ (k : ℕ). HasEdgeOf plan events old.nodes holder.list k) (sym same.1)
                      (subst (λ (l : List Entry). HasEdgeOf plan events old.nodes l key) (sym same.0) (record { edge = stood.was; edge_is = it.edge_is }))))
                  | inr other ↦ other
                ] in
                record {
                  list = it.list;
                  edge_is =
                      IsEdgeOf-moved plan events old.nodes new put_keep sound it.list key stood.was edge stands stood.same_label stood.same_pred it.edge_is;
                  holds_are = omega (arith, stood.same_holds, it.holds_are, none);
                }
          ]

      put_stands : (list : List Entry) (key : ℕ) → 0 < with_hold holder held list key → HasEdgeOf plan events new.nodes list key
      put_stands list key some =
          elim (cases_holder holder list key) [
            | inl same ↦
                subst (λ (k : ℕ). HasEdgeOf plan events new.nodes list k) same.1
                (subst (λ (l : List Entry). HasEdgeOf plan events new.nodes l holder.node) same.0 (record { edge = put_edge; edge_is = put_is }))
            | inr other ↦
                let at = before.stands list key (omega (arith, some, other)) in
                moved_edge put_keep list key at.edge at.edge_is (adds.stays key at.edge at.edge_is.stands)
          ]

      -- The edge of one more list, with one hold.
      pub HoldsLists-put : HoldsLists plan events (with_hold holder held) new
      HoldsLists-put = record { event_is = same_event_is; one_event = same_one_event; listed = put_listed; stands = put_stands }

  -- ---- one hold less
  module _ (holder : Holder) (has : 0 < held holder.list holder.node)
      (releases : ReleasesOneHold old.nodes new.nodes holder.node (label_of plan events holder.list))
      (events_keep : KeepsEvents old.events new.events new.nodes) where
    release_keep : KeepNodes old.nodes new.nodes
    release_keep = keep_stood old.nodes new.nodes releases.node_stood

    release_one : (list : List Entry) (key : ℕ) (label : List ℕ) → is_partial plan events list ≡ true → IsNodeOf plan old.nodes list key
        → label ≡ label_of plan events list
        → chosen holder.node (label_of plan events holder.list) key label ≡ one_hold holder list key
    release_one list key label partial at is =
        let of = before.stands holder.list holder.node has in
        chosen-one plan events old.nodes holder list key label of.edge_is.partial of.edge_is.node partial at is

    release_listed : (key : ℕ) (edge : Edge) → Stands new.nodes key edge → IsListed plan events (without_hold holder held) new.nodes key edge
    release_listed key edge stands =
        let stood = releases.stood key edge stands in
        let it = before.listed key stood.was stood.stood in
        let one = release_one it.list key edge.label it.edge_is.partial it.edge_is.node (stood.same_label ∙ it.edge_is.label) in
        record {
          list = it.list;
          edge_is = IsEdgeOf-moved plan events old.nodes new release_keep sound it.list key stood.was edge stands stood.same_label stood.same_pred it.edge_is;
          holds_are = omega (arith, stood.same_holds, it.holds_are, one);
        }

    release_stands : (list : List Entry) (key : ℕ) → 0 < without_hold holder held list key → HasEdgeOf plan events new.nodes list key
    release_stands list key some =
        let at = before.stands list key (omega (arith, some)) in
        let one = release_one list key at.edge.label at.edge_is.partial at.edge_is.node at.edge_is.label in
        let many = holds_of list key at.edge at.edge_is in
        moved_edge release_keep list key at.edge at.edge_is
        ((releases.stays key at.edge at.edge_is.stands).1
        (record { last_key = key; last = at.edge; chain = Last at.edge_is.stands; is_held = omega (arith, some, one, many) }))

    -- A hold less: what no held list begins with goes.
    pub HoldsLists-release : HoldsLists plan events (without_hold holder held) new
    HoldsLists-release = record {
      event_is = λ key row found. before.event_is key row (events_keep.only key row found);
      one_event =
          λ key other row another at_key at_other same. before.one_event key other row another (events_keep.only key row at_key)
          (events_keep.only other another at_other) same;
      listed = release_listed;
      stands = release_stands;
    }
