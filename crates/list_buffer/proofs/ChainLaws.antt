-- Which edges stand: those of the fronts of held lists, and no others.
use Rattle.std.proofs.Common.{◌≡◌, refl, sym, ◌∙◌, ap, subst, ℕ, ◌+◌, ◌<◌, arith, true, false, List, [], ◌∷◌, ◌++◌, length, length-append}
use Rattle.std.proofs.Common.{Some, None, inl, inr}
use Rattle.cep_event.specs.declared.event.Event.{Event}
use Rattle.cep_plan.specs.declared.plan.Plan.{Plan}
use Rattle.cep_plan.specs.Entry.{Entry, last_entry}
use Rattle.cep_plan.specs.Partial.{is_partial}
use Rattle.dewey_version.specs.Version.{begins}
use Rattle.match_labels.specs.Label.{label_of}
use Rattle.shared_buffer.specs.Slots.{slot_at}
use Rattle.shared_buffer.specs.Graph.{Stands}
use Rattle.shared_buffer.specs.Chain.{holds, StandsOn, IsOnChain}
use Rattle.shared_buffer.specs.Chain.IsOnChain.{Last, Earlier}
use Rattle.shared_buffer.specs.Content.{Content}
use Rattle.shared_buffer.specs.Facts.{IsConsistent}
use Rattle.shared_buffer.specs.declared.edges.Edge.{Edge}
use Rattle.shared_buffer.specs.declared.node.Node.{Node}
use Rattle.shared_buffer.proofs.SlotLaws.{same_value}
use Rattle.list_buffer.specs.Held.{Holds}
use Rattle.list_buffer.specs.Listed.{IsNodeOf, LeadsTo, IsEdgeOf, HasEdgeOf, HoldsLists}
use Rattle.list_buffer.specs.Reach.{IsFrontHeld, IsReached, IsEdgeOfFront, IsEdgeOfHeld, LeadsToEdgeOf, HasEdgeSomewhere, HasEventAt}
use Rattle.list_buffer.proofs.HeldLaws.{cases_list}
use Rattle.list_buffer.proofs.HoldLaws.{holds_of}
use Rattle.match_labels.proofs.PathLaws.{other_begins_not}
use Rattle.live_laws.proofs.GrowthLaws.{may_grow-push}
use Rattle.live_laws.proofs.LastLaws.{last_or-push}
use Rattle.live_laws.proofs.PartialLaws.{is_partial-may_grow}
use Rattle.cep_plan.specs.Partial.{may_grow}
use Rattle.std.proofs.lemmas.Bool.{and_parts}
use Rattle.std.proofs.lemmas.List.{append_assoc, append-nil}
use Rattle.shared_buffer.specs.Lists.{Lists}
use Rattle.shared_buffer.specs.declared.node.Standing.{Standing}

-- the first of the edges
pub record HasFirst (edges : List Edge) : Type 0 where
  pub edge : Edge
  pub listed : Lists edges edge

pub first_listed : (edges : List Edge) → 0 < length edges → HasFirst edges
first_listed [] some = absurd (omega (arith, some))
first_listed (edge ∷ edges) some = record { edge = edge; listed = inl refl }

same_front : (xs ys : List Entry) (x y : Entry) → xs ++ x ∷ [] ≡ ys ++ y ∷ [] → xs ≡ ys
same_front [] [] x y e = refl
same_front [] (b ∷ ys) x y e = absurd (omega (arith, ap length e, length-append ys (y ∷ [])))
same_front (a ∷ xs) [] x y e = absurd (omega (arith, ap length e, length-append xs (x ∷ [])))
same_front (a ∷ xs) (b ∷ ys) x y e =
    let first : a ≡ b = cc in
    let later : xs ++ x ∷ [] ≡ ys ++ y ∷ [] = cc in
    λ i. first i ∷ same_front xs ys x y later i

-- a front of a partial match that isn't empty is one
pub front_partial : (plan : Plan) (events : List Event) (first : Entry) (later : List Entry) (end : Entry)
    → is_partial plan events ((first ∷ later) ++ end ∷ []) ≡ true → is_partial plan events (first ∷ later) ≡ true
unfolding is_partial
front_partial plan events first later end h =
    (and_parts (may_grow plan events (first ∷ later)) _
    (sym (may_grow-push plan events (first ∷ later) end) ∙ is_partial-may_grow plan events ((first ∷ later) ++ end ∷ []) h)).0

module _ (plan : Plan) (events : List Event) (held : Holds) (buffer : Content) (has : HoldsLists plan events held buffer) (sound : IsConsistent buffer) where
  -- each node is at a position of the events
  pub node_below : (key : ℕ) (node : Node) → slot_at buffer.nodes key ≡ Some node → node.position < length events
  node_below key node found =
      let at = sound.has_event key node found in
      let row = has.event_is node.event at.row at.found in
      omega (arith, at.position_is, row.0)

  -- nothing stands on an edge at the last event, so it has holds of its own
  top_of : (last_key : ℕ) (last : Edge) (key : ℕ) (edge : Edge) → IsOnChain buffer.nodes last_key last key edge → (node : Node)
      → slot_at buffer.nodes key ≡ Some node → node.position + 1 ≡ length events
      → 0 < holds buffer.nodes last_key last → 0 < holds buffer.nodes key edge
  top_of last_key last _ _ (Last stands) node found top some = some
  top_of last_key last _ _ (Earlier key pred edge earlier on chain) node found top some =
      let root = sound.rooted key on.stands.node edge pred on.stands.found on.stands.listed on.leads_there in
      let same : root.node ≡ node = same_value buffer.nodes pred pred root.node node refl root.found found in
      let p : root.node.position ≡ node.position = ap (λ (n : Node). n.position) same in
      let below = node_below key on.stands.node on.stands.found in
      absurd (omega (arith, root.before, p, below, top))

  -- a list that ends at the last event has an edge only where it is held
  pub end_held : (list : List Entry) (key : ℕ) (edge : Edge) → (of : IsEdgeOf plan events buffer.nodes list key edge)
      → of.node.end.position + 1 ≡ length events → 0 < held list key
  end_held list key edge of top =
      let need = sound.needed key edge of.stands in
      let some = top_of need.last_key need.last key edge need.chain of.node.node of.node.found (omega (arith, of.node.position_is, top)) need.is_held in
      omega (arith, some, holds_of plan events held buffer buffer has sound list key edge of)

  top_stands : (last_key : ℕ) (last : Edge) (key : ℕ) (edge : Edge) → IsOnChain buffer.nodes last_key last key edge → Stands buffer.nodes last_key last
  top_stands last_key last _ _ (Last stands) = stands
  top_stands last_key last _ _ (Earlier key pred edge earlier on chain) = top_stands last_key last key edge chain

  -- ---- what stands under an edge

  -- the edge that an edge stands on is that of the front of its list
  pub pred_list : (first : Entry) (later : List Entry) (end : Entry) (key : ℕ) (edge : Edge) (label : List ℕ)
      → is_partial plan events ((first ∷ later) ++ end ∷ []) ≡ true → label ≡ label_of plan events ((first ∷ later) ++ end ∷ [])
      → IsNodeOf plan buffer.nodes (first ∷ later) key → Stands buffer.nodes key edge → begins edge.label label ≡ true
      → IsEdgeOf plan events buffer.nodes (first ∷ later) key edge
  pred_list first later end key edge label partial is at stands begun =
      let it = has.listed key edge stands in
      let own = it.edge_is.node in
      let node : at.node ≡ own.node = same_value buffer.nodes key key at.node own.node refl at.found own.found in
      let stage : at.end.stage ≡ own.end.stage = sym at.stage_is ∙ ap (λ (n : Node). n.stage) node ∙ own.stage_is in
      let position : at.end.position ≡ own.end.position = sym at.position_is ∙ ap (λ (n : Node). n.position) node ∙ own.position_is in
      let last : last_entry (first ∷ later) ≡ Some own.end = at.last ∙ (λ i. Some (record { stage = stage i; position = position i })) in
      elim (cases_list it.list (first ∷ later)) [
        | inl same ↦ subst (λ (l : List Entry). IsEdgeOf plan events buffer.nodes l key edge) same it.edge_is
        | inr other ↦
            let no : begins (label_of plan events it.list) (label_of plan events ((first ∷ later) ++ end ∷ [])) ≡ false =
            other_begins_not plan events it.list (first ∷ later) (end ∷ []) own.end other it.edge_is.partial own.last
            (front_partial plan events first later end partial) last in
            let yes : begins (label_of plan events it.list) (label_of plan events ((first ∷ later) ++ end ∷ [])) ≡ true =
            (λ i. begins (sym it.edge_is.label i) (sym is i)) ∙ begun in
            let bad : true ≡ false = sym yes ∙ no in
            absurd cc
      ]

  -- a front, one entry shorter, of a list with an edge has an edge
  pub front_edge : (first : Entry) (later : List Entry) (end : Entry) (key : ℕ) (edge : Edge)
      → IsEdgeOf plan events buffer.nodes ((first ∷ later) ++ end ∷ []) key edge
      → LeadsToEdgeOf plan events buffer.nodes (first ∷ later) edge
  front_edge first later end key edge of = by_front of.front of.parts of.leads where
    by_front : (front : List Entry) → (first ∷ later) ++ end ∷ [] ≡ front ++ of.end ∷ [] → LeadsTo plan buffer.nodes front edge.pred
        → LeadsToEdgeOf plan events buffer.nodes (first ∷ later) edge
    by_front front parts leads =
        led (subst (λ (f : List Entry). LeadsTo plan buffer.nodes f edge.pred) (sym (same_front (first ∷ later) front end of.end parts)) leads) where
          led : LeadsTo plan buffer.nodes (first ∷ later) edge.pred → LeadsToEdgeOf plan events buffer.nodes (first ∷ later) edge
          led (to, is, node) =
              let root = sound.rooted key of.stands.node edge to of.stands.found of.stands.listed is in
              record {
                key = to;
                pred_is = is;
                has = record {
                  edge = root.edge;
                  edge_is =
                      pred_list first later end to root.edge edge.label of.partial of.label node
                      (record { node = root.node; found = root.found; listed = root.listed }) root.begins_it;
                };
              }

  earlier_front : (list : List Entry) (key pred : ℕ) (edge earlier : Edge) → StandsOn buffer.nodes key edge pred earlier
      → IsEdgeOfFront plan events buffer.nodes list key edge → IsEdgeOfFront plan events buffer.nodes list pred earlier
  earlier_front list key pred edge earlier on whole = by_front of.front of.parts of.leads where
    of : IsEdgeOf plan events buffer.nodes whole.front key edge
    of = whole.edge_is

    by_front : (f : List Entry) → whole.front ≡ f ++ of.end ∷ [] → LeadsTo plan buffer.nodes f edge.pred
        → IsEdgeOfFront plan events buffer.nodes list pred earlier
    by_front [] parts none = let bad : None ≡ Some pred = sym none ∙ on.leads_there in absurd cc
    by_front (first ∷ later) parts (to, is, node) =
        let both : Some to ≡ Some pred = sym is ∙ on.leads_there in
        let same : to ≡ pred = cc in
        record {
          front = first ∷ later;
          edge_is =
              pred_list first later of.end pred earlier edge.label
              (subst (λ (l : List Entry). is_partial plan events l ≡ true) parts of.partial)
              (of.label ∙ ap (label_of plan events) parts)
              (subst (IsNodeOf plan buffer.nodes (first ∷ later)) same node) on.stands_there on.goes_on;
          is_front = record {
            later = of.end ∷ whole.is_front.later;
            parts =
                whole.is_front.parts ∙ ap (λ l. l ++ whole.is_front.later) parts ∙ append_assoc (first ∷ later) (of.end ∷ []) whole.is_front.later;
          };
        }

  -- Each edge is that of a front of a list which is held.
  chain_front : (last_key : ℕ) (last : Edge) (list : List Entry) → IsEdgeOf plan events buffer.nodes list last_key last → (key : ℕ) (edge : Edge)
      → IsOnChain buffer.nodes last_key last key edge → IsEdgeOfFront plan events buffer.nodes list key edge
  chain_front last_key last list of _ _ (Last stands) =
      record { front = list; edge_is = of; is_front = record { later = []; parts = sym (append-nil list) } }
  chain_front last_key last list of _ _ (Earlier key pred edge earlier on chain) =
      earlier_front list key pred edge earlier on (chain_front last_key last list of key edge chain)

  -- The list of each edge is a front of a list that is held.
  pub edge_front : (key : ℕ) (edge : Edge) → Stands buffer.nodes key edge → IsEdgeOfHeld plan events held buffer.nodes key edge
  edge_front key edge stands =
      let need = sound.needed key edge stands in
      let last = has.listed need.last_key need.last (top_stands need.last_key need.last key edge need.chain) in
      let found = chain_front need.last_key need.last last.list last.edge_is key edge need.chain in
      record {
        list = found.front;
        edge_is = found.edge_is;
        held_front = record {
          later = found.is_front.later;
          node = need.last_key;
          is_held = subst (λ (l : List Entry). 0 < held l need.last_key) found.is_front.parts (omega (arith, need.is_held, last.holds_are));
        };
      }

  -- Each front of a list with an edge has one, but for the empty one.
  front_has : (first : Entry) (later more : List Entry) (key : ℕ) → HasEdgeOf plan events buffer.nodes ((first ∷ later) ++ more) key
      → HasEdgeSomewhere plan events buffer.nodes (first ∷ later)
  front_has first later [] key at =
      record { key = key; has = subst (λ (l : List Entry). HasEdgeOf plan events buffer.nodes l key) (append-nil (first ∷ later)) at }
  front_has first later (next ∷ more) key at =
      let longer =
      front_has first (later ++ next ∷ []) more key
      (subst (λ (l : List Entry). HasEdgeOf plan events buffer.nodes l key) (sym (append_assoc (first ∷ later) (next ∷ []) more)) at) in
      let one = front_edge first later next longer.key longer.has.edge longer.has.edge_is in
      record { key = one.key; has = one.has }

  -- Each front of a held list, but for the empty one, has an edge.
  pub held_front_has : (first : Entry) (later : List Entry) → IsFrontHeld held (first ∷ later) → HasEdgeSomewhere plan events buffer.nodes (first ∷ later)
  held_front_has first later is = front_has first later is.later is.node (has.stands ((first ∷ later) ++ is.later) is.node is.is_held)

  -- ---- events

  -- An event without a pin stands in a held list.
  pub event_reached : (key : ℕ) (row : Standing) → slot_at buffer.events key ≡ Some row → row.pinned ≡ false → IsReached held row.position
  event_reached key row found free =
      let used = sound.used key row found free in
      let at = sound.has_event used.key used.node used.found in
      let same : row ≡ at.row = same_value buffer.events key used.node.event row at.row used.event_is found at.found in
      let one = first_listed used.node.edges (sound.has_edge used.key used.node used.found) in
      let it = edge_front used.key one.edge (record { node = used.node; found = used.found; listed = one.listed }) in
      let of = it.edge_is in
      let node : of.node.node ≡ used.node = same_value buffer.nodes used.key used.key of.node.node used.node refl of.node.found used.found in
      let ends : Some of.end ≡ Some of.node.end = sym (last_or-push None of.front of.end) ∙ sym (ap last_entry of.parts) ∙ of.node.last in
      let end : of.end ≡ of.node.end = cc in
      record {
        front = of.front;
        entry = of.end;
        at =
            ap (λ (e : Entry). e.position) end ∙ sym of.node.position_is ∙ ap (λ (n : Node). n.position) node ∙ sym at.position_is
            ∙ sym (ap (λ (r : Standing). r.position) same);
        held_front = subst (IsFrontHeld held) of.parts it.held_front;
      }

  any_front_has : (list : List Entry) → (list ≡ [] → ⊥) → IsFrontHeld held list → HasEdgeSomewhere plan events buffer.nodes list
  any_front_has [] some is = absurd (some refl)
  any_front_has (first ∷ later) some is = held_front_has first later is

  -- The event of each entry of a held list stands.
  pub reached_event : (front : List Entry) (entry : Entry) → IsFrontHeld held (front ++ entry ∷ []) → HasEventAt buffer entry.position
  reached_event front entry is =
      let there = any_front_has (front ++ entry ∷ []) (λ e. omega (arith, ap length e, length-append front (entry ∷ []))) is in
      let of = there.has.edge_is in
      let at = sound.has_event there.key of.node.node of.node.found in
      let ends : Some entry ≡ Some of.node.end = sym (last_or-push None front entry) ∙ of.node.last in
      let end : entry ≡ of.node.end = cc in
      record {
        key = of.node.node.event;
        at = record {
          row = at.row;
          found = at.found;
          position_is = at.position_is ∙ of.node.position_is ∙ sym (ap (λ (e : Entry). e.position) end);
        };
      }
