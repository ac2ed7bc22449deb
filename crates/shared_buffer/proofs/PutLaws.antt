-- What `put` leaves.
use Rattle.std.proofs.Common.{◌≡◌, ℕ, ◌+◌, ◌^◌, ◌<◌, List, [], ◌∷◌, set, Option, Some, None, is_some, refl, ap, sym, ◌∙◌, subst, inl, inr, arith}
use Rattle.std.specs.Prelude.{IsSome, option_map, option_and_then}
use Rattle.std.proofs.lemmas.Bool.{cases_eq}
use Rattle.std.proofs.lemmas.List.{map-set, set-get_or}
use Rattle.shared_buffer.specs.Slots.{slot_at, with_slot_changed, Changes}
use Rattle.shared_buffer.specs.Edges.{leads, find_edge, with_edge, edge_up, counted_up}
use Rattle.shared_buffer.specs.Members.{find_member}
use Rattle.shared_buffer.specs.Entries.{entry_with}
use Rattle.shared_buffer.specs.Nodes.{edge_at, HasEdgeAt, node_up, node_with, with_pred_counted, HasHoldAt}
use Rattle.shared_buffer.specs.Content.{rows}
use Rattle.shared_buffer.specs.Put.{CanCarry, IsPlaced, Puts, node_put}
use Rattle.shared_buffer.specs.Graph.{edges_of, IsApartFrom, IsIndexed, IsSound}
use Rattle.shared_buffer.specs.Exact.{AddsOneEdge}
use Rattle.shared_buffer.specs.declared.edges.Edge.{Edge}
use Rattle.shared_buffer.specs.declared.members.Member.{Member}
use Rattle.shared_buffer.specs.declared.node.Node.{Node}
use Rattle.shared_buffer.specs.declared.node.Entry.{Entry}
use Rattle.shared_buffer.proofs.BufferLaws.{row_of}
use Rattle.shared_buffer.proofs.ChangePremises.{Found, Recounts}
use Rattle.shared_buffer.proofs.PutPremises.{PushesEdge, IsCounted, Put, edge_put, new_node, IsNotPred, Places, OnNode, WithNode}
use Rattle.shared_buffer.proofs.ListLaws.{found_listed, found_passes, found_after_change}
use Rattle.shared_buffer.proofs.SlotLaws.{unchanged_at, same_value, slot_at-map, in_place}
use Rattle.shared_buffer.proofs.GraphLaws.{counted_enough, successors-recount}
use Rattle.shared_buffer.proofs.GraphPutLaws.{IsGraph-push, edge_total-push}
use Rattle.shared_buffer.proofs.IndexLaws.{IsIndexed-node_change, IsIndexed-add_node}
use Rattle.shared_buffer.proofs.SoundLaws.{IsSound-up}
use Rattle.shared_buffer.proofs.PutHoldLaws.{IsCounted-none, IsCounted-up, AddsOneEdge-push}

-- a change of an entry that keeps its row keeps all rows
pub rows-changed :
    (f : Entry → Entry) → ((e : Entry) → (f e).row ≡ e.row) → (entries : List (Option Entry)) (key : ℕ)
    → rows (with_slot_changed f entries key) ≡ rows entries
rows-changed f keeps entries key =
    map-set (option_map (λ (e : Entry). e.row)) entries key (option_map f (slot_at entries key))
    ∙ ap (set (rows entries) key) (same_row (slot_at entries key) ∙ sym (slot_at-map (λ (e : Entry). e.row) entries key))
    ∙ set-get_or (rows entries) key None
  where
    same_row : (slot : Option Entry) → option_map (λ (e : Entry). e.row) (option_map f slot) ≡ option_map (λ (e : Entry). e.row) slot
    same_row None = refl
    same_row (Some e) = ap (λ r. Some r) (keeps e)

-- the edge that a new one stands on, where it stands on one
module _ (put : Put) where
  row_there : slot_at (rows put.entries) put.event ≡ Some put.entry.row
  row_there = row_of put.entries put.event put.entry put.found

  carried : (p : ℕ) → put.pred ≡ Some p → CanCarry put.nodes put.entry.row.position put.label p
  carried p is = put.can.carries p is put.entry.row row_there

  abbrev carry_found : (p : ℕ) → CanCarry put.nodes put.entry.row.position put.label p → Found put.nodes p put.label
  carry_found p carry = record { node = carry.node; found = carry.found; edge = carry.edge; found_edge = carry.found_edge }

  -- it is counted
  counted_sound : IsSound put.entries (with_pred_counted put.label put.pred put.nodes) put.count
  counted_sound = by_pred put.pred refl
    where
      by_pred : (pred : Option ℕ) → put.pred ≡ pred → IsSound put.entries (with_pred_counted put.label pred put.nodes) put.count
      by_pred None is = put.sound
      by_pred (Some p) is = IsSound-up put.sound (carry_found p (carried p is))

  counted_so : IsCounted put.nodes (with_pred_counted put.label put.pred put.nodes) (edge_put put)
  counted_so = by_pred put.pred refl
    where
      by_pred :
          (pred : Option ℕ) → put.pred ≡ pred
          → IsCounted put.nodes (with_pred_counted put.label pred put.nodes) (record { pred = pred; label = put.label; count = 1 })
      by_pred None is = IsCounted-none put.nodes put.label 1
      by_pred (Some p) is =
          let carry = carried p is in
          IsCounted-up put.sound.graph 1 (carry_found p carry) (in_place (node_up put.label) put.nodes p carry.node carry.found)

  -- so it has a hold for the new one
  hold_at :
      (p : ℕ) (carry : CanCarry put.nodes put.entry.row.position put.label p)
      → HasHoldAt (with_slot_changed (node_up put.label) put.nodes p) p put.entry.row.position put.label
  hold_at p carry =
      let up = with_slot_changed (node_up put.label) put.nodes p in
      let change = in_place (node_up put.label) put.nodes p carry.node carry.found in
      let begins_it = found_passes (leads put.label) carry.node.edges carry.edge carry.found_edge in
      let now : find_edge (counted_up carry.node.edges put.label) put.label ≡ Some (edge_up carry.edge) =
      found_after_change (leads put.label) edge_up carry.node.edges carry.edge carry.found_edge begins_it in
      let was = counted_enough put.sound.graph (carry_found p carry) in
      let recount : Recounts put.nodes up p put.label edge_up =
      record { at = carry_found p carry; keeps_pred = λ e. refl; keeps_label = λ e. refl; changes = change } in
      record {
        node = node_up put.label carry.node;
        found = change.changed;
        before = carry.before;
        edge = edge_up carry.edge;
        listed = found_listed (leads put.label) (counted_up carry.node.edges put.label) (edge_up carry.edge) now;
        begins_it = begins_it;
        free = omega (arith, was, successors-recount recount p carry.edge.label);
      }

  counted_hold :
      (p : ℕ) → put.pred ≡ Some p
      → HasHoldAt (with_pred_counted put.label put.pred put.nodes) p put.entry.row.position put.label
  counted_hold p is =
      subst (λ (pred : Option ℕ). HasHoldAt (with_pred_counted put.label pred put.nodes) p put.entry.row.position put.label)
      (sym is) (hold_at p (carried p is))

  counted_elsewhere :
      (key : ℕ) → IsNotPred put key
      → slot_at (with_pred_counted put.label put.pred put.nodes) key ≡ slot_at put.nodes key
  counted_elsewhere key differs = by_pred put.pred refl
    where
      by_pred :
          (pred : Option ℕ) → put.pred ≡ pred
          → slot_at (with_pred_counted put.label pred put.nodes) key ≡ slot_at put.nodes key
      by_pred None is = refl
      by_pred (Some p) is =
          let carry = carried p is in
          (in_place (node_up put.label) put.nodes p carry.node carry.found).others key (differs p is)

-- the edge comes to a key, and the edge that it stands on is counted then
module _ (put : Put) {key : ℕ} {node : Node} {pushed : List (Option Node)} (at : Places put key node pushed) where
  carry_stays : (p : ℕ) (is : put.pred ≡ Some p) → slot_at pushed p ≡ Some (carried put p is).node
  carry_stays p is =
      let carry = carried put p is in
      unchanged_at put.nodes pushed key (Some node) at.change p carry.node (λ e. at.differs p is (sym e)) carry.found

  -- the edge can still be counted once the new one is put
  still_leads : (p : ℕ) (is : put.pred ≡ Some p) → edge_at pushed p put.label ≡ Some (carried put p is).edge
  still_leads p is =
      ap (option_and_then (λ (n : Node). find_edge n.edges put.label)) (carry_stays p is) ∙ (carried put p is).found_edge

  pub placed_leads : (p : ℕ) → put.pred ≡ Some p → HasEdgeAt pushed p put.label
  placed_leads p is = ap is_some (still_leads p is)

  pub placed_room : (p : ℕ) → put.pred ≡ Some p → (edge : Edge) → edge_at pushed p put.label ≡ Some edge → edge.count + 1 < 2 ^ 64
  placed_room p is edge found =
      let both : Some (carried put p is).edge ≡ Some edge = sym (still_leads p is) ∙ found in
      let e : (carried put p is).edge ≡ edge = cc in
      subst (λ (x : Edge). x.count + 1 < 2 ^ 64) e (carried put p is).room

  -- it does not matter whether that edge is counted before the new one is put or after
  pub counted_later :
      Changes (with_pred_counted put.label put.pred put.nodes) (with_pred_counted put.label put.pred pushed) key (Some node)
  counted_later = by_pred put.pred refl
    where
      by_pred :
          (pred : Option ℕ) → put.pred ≡ pred
          → Changes (with_pred_counted put.label pred put.nodes) (with_pred_counted put.label pred pushed) key (Some node)
      by_pred None is = at.change
      by_pred (Some p) is =
          let carry = carried put p is in
          let before = in_place (node_up put.label) put.nodes p carry.node carry.found in
          let after = in_place (node_up put.label) pushed p carry.node (carry_stays p is) in
          record {
            changed = after.others key (at.differs p is) ∙ at.change.changed;
            others = λ other other_key.
                elim (cases_eq other p) [
                  | inl here ↦
                      ap (slot_at (with_slot_changed (node_up put.label) pushed p)) here ∙ after.changed ∙ sym before.changed
                      ∙ ap (slot_at (with_slot_changed (node_up put.label) put.nodes p)) (sym here)
                  | inr elsewhere ↦
                      after.others other elsewhere ∙ at.change.others other other_key ∙ sym (before.others other elsewhere)
                ];
          }

  pub same_slot : slot_at (with_pred_counted put.label put.pred put.nodes) key ≡ slot_at put.nodes key
  same_slot = counted_elsewhere put key at.differs

  placed_push :
      PushesEdge (with_pred_counted put.label put.pred put.nodes) (with_pred_counted put.label put.pred pushed) key node (edge_put put)
  placed_push =
      record {
        graph = (counted_sound put).graph;
        changes = counted_later;
        edges_are = at.edges_are ∙ ap (λ (s : Option Node). with_edge (edge_put put) (edges_of s)) (sym same_slot);
        same_position = λ n is. (at.same_node n (sym same_slot ∙ is)).position;
        apart = subst (λ (s : Option Node). IsApartFrom put.label (edges_of s)) (sym same_slot) at.apart;
        positive = omega arith;
        has_room = λ p is.
            subst (λ (k : ℕ). HasHoldAt (with_pred_counted put.label put.pred put.nodes) p k put.label) (sym at.position_is)
            (counted_hold put p is);
      }

  pub placed_adds :
      (last : List (Option Node)) → last ≡ with_pred_counted put.label put.pred pushed
      → AddsOneEdge put.nodes last key (edge_put put)
  placed_adds last last_is =
      subst (λ (xs : List (Option Node)). AddsOneEdge put.nodes xs key (edge_put put)) (sym last_is)
      (AddsOneEdge-push (record {
        counted = counted_so put;
        push = placed_push;
        same_node = λ n is. at.same_node n (sym same_slot ∙ is);
        once = refl;
      }))

  -- the buffer stays sound, where the entries know the node
  placed_sound :
      (es : List (Option Entry)) → IsIndexed es (with_pred_counted put.label put.pred pushed) → put.count < 2 ^ 62
      → IsSound es (with_pred_counted put.label put.pred pushed) (put.count + 1)
  placed_sound es indexed room =
      record {
        graph = IsGraph-push placed_push;
        indexed = indexed;
        few = omega (arith, room);
        edges = omega (arith, (counted_sound put).edges, edge_total-push placed_push);
      }

-- the node of the state on the event
module _ (put : Put) (key : ℕ) (member : find_member put.entry.members put.state ≡ Some key) where
  member_placed : IsPlaced put.nodes key put.stage put.state put.event put.entry.row.position
  member_placed =
      let was = put.sound.indexed.stands put.event put.entry put.state key put.found member in
      let l = put.sound.indexed.listed key was.node was.found in
      let e : put.entry ≡ l.entry =
      same_value put.entries put.event was.node.event put.entry l.entry was.of_event put.found l.found in
      record {
        node = was.node;
        found = was.found;
        stage_is = put.can.of_stage key was.node was.found was.of_event was.of_state;
        state_is = was.of_state;
        event_is = was.of_event;
        position_is = omega (arith, l.position, ap (λ (x : Entry). x.row.position) e);
      }

  pub node_stands : IsSome (slot_at put.nodes key)
  node_stands = ap is_some member_placed.found

  pub node_apart :
      (copy : List ℕ) → copy ≡ put.label → (n : Node) → slot_at put.nodes key ≡ Some n → IsApartFrom copy n.edges
  node_apart copy copied n there =
      let own = member_placed in
      let both : Some own.node ≡ Some n = sym own.found ∙ there in
      let e : own.node ≡ n = cc in
      subst (λ (l : List ℕ). IsApartFrom l n.edges) (sym copied)
      (put.can.apart key n there (ap (λ (x : Node). x.event) (sym e) ∙ own.event_is) (ap (λ (x : Node). x.state) (sym e) ∙ own.state_is))

-- an edge comes to the node that is there
module _ (put : Put) (on : OnNode put) where
  pub own : IsPlaced put.nodes on.key put.stage put.state put.event put.entry.row.position
  own = member_placed put on.key on.member

  own_is : (n : Node) → slot_at put.nodes on.key ≡ Some n → own.node ≡ n
  own_is n is = let both : Some own.node ≡ Some n = sym own.found ∙ is in cc

  pushed_change : Changes put.nodes on.pushed on.key (Some (node_with (edge_put put) own.node))
  pushed_change =
      let copied : Edge = record { pred = put.pred; label = on.copy; count = 1 } in
      subst
      (λ (l : List ℕ).
      Changes put.nodes on.pushed on.key (Some (node_with (record { pred = put.pred; label = l; count = 1 }) own.node))) on.copied
      (subst (λ (xs : List (Option Node)). Changes put.nodes xs on.key (Some (node_with copied own.node))) (sym on.pushed_is)
      (in_place (node_with copied) put.nodes on.key own.node own.found))

  pub on_node : Places put on.key (node_with (edge_put put) own.node) on.pushed
  on_node =
      record {
        differs = λ p is e.
            let carry = carried put p is in
            let one : own.node ≡ carry.node = same_value put.nodes on.key p own.node carry.node (sym e) own.found carry.found in
            omega (arith, carry.before, own.position_is, ap (λ (x : Node). x.position) one);
        change = pushed_change;
        edges_are = ap (λ (s : Option Node). with_edge (edge_put put) (edges_of s)) (sym own.found);
        same_node = λ n is.
            record {
              stage = ap (λ (x : Node). x.stage) (own_is n is);
              state = ap (λ (x : Node). x.state) (own_is n is);
              event = ap (λ (x : Node). x.event) (own_is n is);
              position = ap (λ (x : Node). x.position) (own_is n is);
            };
        position_is = own.position_is;
        apart =
            subst (λ (s : Option Node). IsApartFrom put.label (edges_of s)) (sym own.found)
            (put.can.apart on.key own.node own.found own.event_is own.state_is);
      }

  -- the edge that it stands on is counted then
  module _ (last : List (Option Node)) (last_is : last ≡ with_pred_counted put.label put.pred on.pushed) where
    pub pushed_sound : put.count < 2 ^ 62 → IsSound put.entries last (put.count + 1)
    pushed_sound room =
        subst (λ (xs : List (Option Node)). IsSound put.entries xs (put.count + 1)) (sym last_is)
        (placed_sound put on_node put.entries
        (IsIndexed-node_change put.entries (with_pred_counted put.label put.pred put.nodes) (counted_sound put).indexed
        (with_pred_counted put.label put.pred on.pushed) on.key own.node (node_with (edge_put put) own.node)
        (same_slot put on_node ∙ own.found) (counted_later put on_node) refl refl refl)
        room)

    pub pushed_puts :
        Puts (record { events = rows put.entries; nodes = put.nodes }) (record { events = rows put.entries; nodes = last })
        put.stage put.state put.event put.pred put.label on.key
    pushed_puts =
        subst
        (λ (xs : List (Option Node)).
        Puts (record { events = rows put.entries; nodes = put.nodes }) (record { events = rows put.entries; nodes = xs })
        put.stage put.state put.event put.pred put.label on.key)
        (sym last_is) puts
      where
        puts :
            Puts (record { events = rows put.entries; nodes = put.nodes })
            (record { events = rows put.entries; nodes = with_pred_counted put.label put.pred on.pushed })
            put.stage put.state put.event put.pred put.label on.key
        puts =
            record {
              row = put.entry.row;
              found = row_there put;
              place =
                  record {
                    taken = λ n is. (
                      ap (λ (x : Node). x.event) (sym (own_is n is)) ∙ own.event_is,
                      ap (λ (x : Node). x.state) (sym (own_is n is)) ∙ own.state_is,
                    );
                    vacant = λ is. let bad : None ≡ Some own.node = sym is ∙ own.found in absurd (cc);
                  };
              placed =
                  record {
                    node = node_with (edge_put put) own.node;
                    found = (counted_later put on_node).changed;
                    stage_is = own.stage_is;
                    state_is = own.state_is;
                    event_is = own.event_is;
                    position_is = own.position_is;
                  };
              nodes =
                  subst
                  (λ (s : Option Node).
                  Changes (with_pred_counted put.label put.pred put.nodes) (with_pred_counted put.label put.pred on.pushed) on.key
                  (Some (node_put s put.stage put.state put.event put.entry.row.position (edge_put put))))
                  (sym own.found) (counted_later put on_node);
              events = refl;
            }

-- a node of one edge comes
module _ (put : Put) (new : WithNode put) where
  vacant_there : slot_at put.nodes new.key ≡ None
  vacant_there = ap (λ (xs : List (Option Node)). slot_at xs new.key) (sym new.reserved_is) ∙ new.vacant

  filled_change : Changes put.nodes new.filled new.key (Some (new_node put))
  filled_change =
      let single : new.edges ≡ edge_put put ∷ [] =
      new.single ∙ ap (λ (l : List ℕ). record { pred = put.pred; label = l; count = 1 } ∷ []) new.copied in
      subst
      (λ (es : List Edge).
      Changes put.nodes new.filled new.key
      (Some (record { stage = put.stage; state = put.state; event = put.event; position = put.entry.row.position; edges = es })))
      single
      (subst
      (λ (xs : List (Option Node)).
      Changes xs new.filled new.key
      (Some (record { stage = put.stage; state = put.state; event = put.event; position = put.entry.row.position; edges = new.edges })))
      new.reserved_is new.fill)

  pub with_node : Places put new.key (new_node put) new.filled
  with_node =
      record {
        differs = λ p is e.
            let carry = carried put p is in
            let bad : None ≡ Some carry.node = sym vacant_there ∙ ap (slot_at put.nodes) e ∙ carry.found in
            absurd (cc);
        change = filled_change;
        edges_are = ap (λ (s : Option Node). with_edge (edge_put put) (edges_of s)) (sym vacant_there);
        same_node = λ n is. let bad : None ≡ Some n = sym vacant_there ∙ is in absurd (cc);
        position_is = refl;
        apart = subst (λ (s : Option Node). IsApartFrom put.label (edges_of s)) (sym vacant_there) tt;
      }

  -- the event lists it, and the edge that its edge stands on is counted then
  module _
      (es : List (Option Entry)) (es_is : es ≡ with_slot_changed (entry_with (record { state = put.state; node = new.key })) put.entries put.event)
      (last : List (Option Node)) (last_is : last ≡ with_pred_counted put.label put.pred new.filled) where
    pub filled_sound : put.count < 2 ^ 62 → IsSound es last (put.count + 1)
    filled_sound room =
        let member : Member = record { state = put.state; node = new.key } in
        let listed : Changes put.entries es put.event (Some (entry_with member put.entry)) =
        subst (λ (xs : List (Option Entry)). Changes put.entries xs put.event (Some (entry_with member put.entry))) (sym es_is)
        (in_place (entry_with member) put.entries put.event put.entry put.found) in
        subst (λ (xs : List (Option Node)). IsSound es xs (put.count + 1)) (sym last_is)
        (placed_sound put with_node es
        (IsIndexed-add_node put.entries (with_pred_counted put.label put.pred put.nodes) (counted_sound put).indexed
        (with_pred_counted put.label put.pred new.filled) es new.key (new_node put) put.entry member
        (same_slot put with_node ∙ vacant_there) (counted_later put with_node) put.found new.absent refl refl refl listed)
        room)

    pub filled_puts :
        Puts (record { events = rows put.entries; nodes = put.nodes }) (record { events = rows es; nodes = last })
        put.stage put.state put.event put.pred put.label new.key
    filled_puts =
        subst
        (λ (xs : List (Option Node)).
        Puts (record { events = rows put.entries; nodes = put.nodes }) (record { events = rows es; nodes = xs })
        put.stage put.state put.event put.pred put.label new.key)
        (sym last_is) puts
      where
        puts :
            Puts (record { events = rows put.entries; nodes = put.nodes })
            (record { events = rows es; nodes = with_pred_counted put.label put.pred new.filled })
            put.stage put.state put.event put.pred put.label new.key
        puts =
            record {
              row = put.entry.row;
              found = row_there put;
              place =
                  record {
                    taken = λ x is. let bad : None ≡ Some x = sym vacant_there ∙ is in absurd (cc);
                    vacant = λ _ other x there of_event of_state.
                        let l = put.sound.indexed.listed other x there in
                        let e : put.entry ≡ l.entry =
                        same_value put.entries put.event x.event put.entry l.entry of_event put.found l.found in
                        let bad : None ≡ Some other =
                        sym new.absent ∙ ap (find_member put.entry.members) (sym of_state)
                        ∙ ap (λ (z : Entry). find_member z.members x.state) e ∙ l.member in
                        absurd (cc);
                  };
              placed =
                  record {
                    node = new_node put;
                    found = (counted_later put with_node).changed;
                    stage_is = refl;
                    state_is = refl;
                    event_is = refl;
                    position_is = refl;
                  };
              nodes =
                  subst
                  (λ (s : Option Node).
                  Changes (with_pred_counted put.label put.pred put.nodes) (with_pred_counted put.label put.pred new.filled) new.key
                  (Some (node_put s put.stage put.state put.event put.entry.row.position (edge_put put))))
                  (sym vacant_there) (counted_later put with_node);
              events = ap rows es_is ∙ rows-changed (entry_with (record { state = put.state; node = new.key })) (λ e. refl) put.entries put.event;
            }
