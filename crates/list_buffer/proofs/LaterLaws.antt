-- More events come, stand with a pin, and lose it: what is held stays.
use Rattle.std.proofs.Common.{◌≡◌, refl, sym, ◌∙◌, ap, subst, ℕ, ◌<◌, arith, List, [], ◌∷◌, ◌++◌, length, length-append}
use Rattle.std.proofs.Common.{Option, Some, inl, inr}
use Rattle.std.proofs.lemmas.List.{get_or_push}
use Rattle.cep_event.specs.declared.event.Event.{Event}
use Rattle.cep_plan.specs.declared.plan.Plan.{Plan}
use Rattle.cep_plan.specs.Entry.{Entry, event_at, no_event}
use Rattle.cep_plan.proofs.LocalLaws.{AreAmong, event_at-append, is_partial-append}
use Rattle.live_laws.proofs.PartialLaws.{is_partial-may_grow, may_grow-among}
use Rattle.match_labels.specs.Label.{Mark}
use Rattle.match_labels.proofs.PathLaws.{mark_of-append}
use Rattle.shared_buffer.specs.Slots.{slot_at, Changes}
use Rattle.shared_buffer.specs.Graph.{Stands}
use Rattle.shared_buffer.specs.Content.{Content}
use Rattle.shared_buffer.specs.declared.edges.Edge.{Edge}
use Rattle.shared_buffer.specs.declared.node.Node.{Node}
use Rattle.shared_buffer.specs.declared.node.Standing.{Standing}
use Rattle.shared_buffer.proofs.SlotLaws.{changed_cases}
use Rattle.list_buffer.specs.Held.{Holds}
use Rattle.list_buffer.specs.Listed.{IsEdgeOf, IsListed, HasEdgeOf, HoldsLists}
use Rattle.list_buffer.specs.Reach.{StoodAs}

module _ (plan : Plan) (events more : List Event) where
  IsEdgeOf-later : (nodes : List (Option Node)) (list : List Entry) (key : ℕ) (edge : Edge) → IsEdgeOf plan events nodes list key edge
      → IsEdgeOf plan (events ++ more) nodes list key edge
  IsEdgeOf-later nodes list key edge of =
      let among : AreAmong events list = may_grow-among plan events list (is_partial-may_grow plan events list of.partial) in
      record {
        partial = is_partial-append plan events more list among ∙ of.partial;
        stands = of.stands;
        node = of.node;
        front = of.front;
        end = of.end;
        parts = of.parts;
        leads = of.leads;
        label = of.label ∙ sym (ap (λ (m : Mark). m.label) (mark_of-append plan events more list among));
      }

  -- The same buffer holds the same lists when more events have come.
  pub HoldsLists-later : (held : Holds) (buffer : Content) → HoldsLists plan events held buffer → HoldsLists plan (events ++ more) held buffer
  HoldsLists-later held buffer has = record {
    event_is = λ key row found.
        let it = has.event_is key row found in
        (omega (arith, it.0, length-append events more), it.1 ∙ sym (event_at-append events more row.position it.0));
    one_event = has.one_event;
    listed =
        λ key edge stands. let it =
        has.listed key edge stands in record { list = it.list; edge_is = IsEdgeOf-later buffer.nodes it.list key edge it.edge_is; holds_are = it.holds_are };
    stands =
        λ list key some. let at = has.stands list key some in record { edge = at.edge; edge_is = IsEdgeOf-later buffer.nodes list key at.edge at.edge_is };
  }

-- holds that are the same for each list
pub HoldsLists-same : (plan : Plan) (events : List Event) (held other : Holds) (buffer : Content)
    → ((list : List Entry) (key : ℕ) → held list key ≡ other list key) → HoldsLists plan events held buffer → HoldsLists plan events other buffer
HoldsLists-same plan events held other buffer same has = subst (λ (h : Holds). HoldsLists plan events h buffer) (λ i list key. same list key i) has

module _ (plan : Plan) (events : List Event) (held : Holds) (old new : Content) (nodes : new.nodes ≡ old.nodes) where
  same_nodes : HoldsLists plan events held old
      → ((key : ℕ) (row : Standing) → slot_at new.events key ≡ Some row → (row.position < length events) × (row.event ≡ event_at events row.position))
      → ((key other : ℕ) (row another : Standing) → slot_at new.events key ≡ Some row → slot_at new.events other ≡ Some another
      → row.position ≡ another.position → key ≡ other)
      → HoldsLists plan events held new
  same_nodes has event_is one_event = record {
    event_is = event_is;
    one_event = one_event;
    listed = subst (λ (n : List (Option Node)). (key : ℕ) (edge : Edge) → Stands n key edge → IsListed plan events held n key edge) (sym nodes) has.listed;
    stands = subst (λ (n : List (Option Node)). (list : List Entry) (key : ℕ) → 0 < held list key → HasEdgeOf plan events n list key) (sym nodes) has.stands;
  }

-- One more event comes, and stands.
pub HoldsLists-add : (plan : Plan) (events : List Event) (event : Event) (held : Holds) (old new : Content) → new.nodes ≡ old.nodes
    → (key : ℕ) (row : Standing) → row.position ≡ length events → row.event ≡ event
    → Changes old.events new.events key (Some row) → HoldsLists plan events held old → HoldsLists plan (events ++ event ∷ []) held new
HoldsLists-add plan events event held old new nodes key row at is changes has =
    let whole = events ++ event ∷ [] in
    let before : HoldsLists plan whole held old = HoldsLists-later plan events (event ∷ []) held old has in
    let here : event_at whole (length events) ≡ event = get_or_push events event no_event (length events) refl in
    same_nodes plan whole held old new nodes before
    (λ other found_row found. elim (changed_cases old.events new.events key (Some row) changes other found_row found) [
      | inl this ↦
          let both : Some row ≡ Some found_row = this.1 in
          let same : row ≡ found_row = cc in
          let p : row.position ≡ found_row.position = ap (λ (r : Standing). r.position) same in
          let placed : found_row.position ≡ length events = sym p ∙ at in (
            omega (arith, placed, length-append events (event ∷ [])),
            sym (ap (λ (r : Standing). r.event) same) ∙ is ∙ sym here ∙ ap (event_at whole) (sym placed),
          )
      | inr that ↦ before.event_is other found_row that.1
    ])
    (λ one other row_one row_other at_one at_other same. elim (changed_cases old.events new.events key (Some row) changes one row_one at_one) [
      | inl this ↦ elim (changed_cases old.events new.events key (Some row) changes other row_other at_other) [
        | inl that ↦ this.0 ∙ sym that.0
        | inr that ↦
            let both : Some row ≡ Some row_one = this.1 in
            let it : row ≡ row_one = cc in
            let below = (has.event_is other row_other that.1).0 in
            absurd (omega (arith, below, at, same, ap (λ (r : Standing). r.position) it))
      ]
      | inr this ↦ elim (changed_cases old.events new.events key (Some row) changes other row_other at_other) [
        | inl that ↦
            let both : Some row ≡ Some row_other = that.1 in
            let it : row ≡ row_other = cc in
            let below = (has.event_is one row_one this.1).0 in
            absurd (omega (arith, below, at, same, ap (λ (r : Standing). r.position) it))
        | inr that ↦ has.one_event one other row_one row_other this.1 that.1 same
      ]
    ])

-- A pin goes, or an event that nothing needs.
pub HoldsLists-settled : (plan : Plan) (events : List Event) (held : Holds) (old new : Content) → new.nodes ≡ old.nodes
    → ((key : ℕ) (row : Standing) → slot_at new.events key ≡ Some row → StoodAs old.events key row)
    → HoldsLists plan events held old → HoldsLists plan events held new
HoldsLists-settled plan events held old new nodes stood has =
    same_nodes plan events held old new nodes has
    (λ key row found.
    let it = stood key row found in
    let was = has.event_is key it.was it.found in
    (omega (arith, was.0, it.same_position), it.same_event ∙ was.1 ∙ ap (event_at events) (sym it.same_position)))
    (λ key other row another at_key at_other same.
    let a = stood key row at_key in
    let b = stood other another at_other in
    has.one_event key other a.was b.was a.found b.found (sym a.same_position ∙ same ∙ b.same_position))
