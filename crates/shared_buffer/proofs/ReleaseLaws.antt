-- What one step of a release leaves.
use Rattle.std.proofs.Common.{◌≡◌, ℕ, ◌+◌, ◌-◌, ◌<◌, ◌⊎◌, true, false, List, length, Option, Some, None, is_some, refl, ap, sym, ◌∙◌, subst, inl, inr, arith}
use Rattle.std.specs.Prelude.{IsSome, IsTrue, option_map, option_and_then, IfSome, OnSome}
use Rattle.std.proofs.lemmas.Bool.{cases_eq}
use Rattle.dewey_version.proofs.VersionLaws.{begins_trans}
use Rattle.shared_buffer.specs.Slots.{slot_at, Changes}
use Rattle.shared_buffer.specs.Edges.{leads, find_edge}
use Rattle.shared_buffer.specs.Members.{find_member}
use Rattle.shared_buffer.specs.Entries.{kept, entry_without}
use Rattle.shared_buffer.specs.Nodes.{edge_at, node_without, slot_without}
use Rattle.shared_buffer.specs.Content.{rows, IsUsed}
use Rattle.shared_buffer.specs.Graph.{successors, edge_total, IsIndexed, IsSound}
use Rattle.shared_buffer.specs.Release.{HasHold, Drops, KeepsEvents}
use Rattle.shared_buffer.specs.declared.edges.Edge.{Edge}
use Rattle.shared_buffer.specs.declared.node.Node.{Node}
use Rattle.shared_buffer.specs.declared.node.Entry.{Entry}
use Rattle.shared_buffer.specs.declared.node.Standing.{Standing}
use Rattle.shared_buffer.proofs.ChangePremises.{Found, DropsEdge, GivesUpLast}
use Rattle.shared_buffer.proofs.ListLaws.{found_passes, length-remove_first}
use Rattle.shared_buffer.proofs.SlotLaws.{changed_cases, unchanged_at, same_value, slot_at-map}
use Rattle.shared_buffer.proofs.EdgeLaws.{found_of_listed}
use Rattle.shared_buffer.proofs.GraphDropLaws.{IsGraph-drop, edge_total-drop, hold_after_drop, slot_left, slot_gone}
use Rattle.shared_buffer.proofs.IndexLaws.{IsIndexed-node_change, IsIndexed-remove_node, kept_value, kept_with_node}
use Rattle.shared_buffer.proofs.BufferLaws.{row_of, entry_of_row, change_at_found, used_nonempty, unused_empty}

pub IfSome_from : {T : Type 0} (P : T → Type 0) (o : Option T) → ((x : T) → o ≡ Some x → P x) → IfSome o P
IfSome_from P None all = tt
IfSome_from P (Some x) all = all x refl

pub OnSome_from : {T : Type 0} (P : Type 0) (o : Option T) → P → OnSome o P
OnSome_from P None holds = tt
OnSome_from P (Some x) holds = holds

-- the hold is of the edge that the code has found
pub hold_is_free :
    {nodes : List (Option Node)} {key : ℕ} {version : List ℕ} → HasHold nodes key version → (at : Found nodes key version)
    → successors nodes key at.edge.label < at.edge.count
hold_is_free {nodes} {key} {version} hold at =
    let n : hold.node ≡ at.node = same_value nodes key key hold.node at.node refl hold.found at.found in
    let both : Some hold.edge ≡ Some at.edge =
    sym hold.found_edge ∙ ap (λ (x : Node). find_edge x.edges version) n ∙ at.found_edge in
    let e : hold.edge ≡ at.edge = cc in
    subst (λ (x : Edge). successors nodes key x.label < x.count) e hold.free

-- while no event loses its last node, all stay
pub keeps_all :
    (entries : List (Option Entry)) (nodes : List (Option Node)) → IsIndexed entries nodes
    → KeepsEvents (rows entries) (rows entries) nodes
keeps_all entries nodes indexed =
    record {
      stays = λ key row found _. found;
      goes = λ key row found free unused.
          let e = entry_of_row entries key row found in
          absurd (omega (
            arith,
            indexed.used key e.entry e.found (ap (λ (r : Standing). r.pinned) e.row_is ∙ free),
            unused_empty entries nodes indexed key e.entry e.found unused,
          ));
      only = λ key row found. found;
    }

-- one event may have gone, and else nothing changed
pub keeps_but_one :
    (entries es : List (Option Entry)) (news : List (Option Node)) → IsIndexed es news → (key : ℕ) (entry less : Entry)
    → slot_at entries key ≡ Some entry → less.row ≡ entry.row → Changes entries es key (kept less)
    → ((IsUsed news key) → 0 < length less.members) → KeepsEvents (rows entries) (rows es) news
keeps_but_one entries es news indexed key entry less found same_row changes used_here =
    record {
      stays = λ other row there why.
          let e = entry_of_row entries other row there in
          elim (cases_eq other key) [
            | inl here ↦
                let same : entry ≡ e.entry = same_value entries key other entry e.entry here found e.found in
                let row_is : less.row ≡ row = same_row ∙ ap (λ (x : Entry). x.row) same ∙ e.row_is in
                let stays_there : slot_at es key ≡ Some less = changes.changed ∙ is_kept row row_is (why_at other here row why) in
                ap (slot_at (rows es)) here ∙ row_of es key less stays_there ∙ ap (λ (r : Standing). Some r) row_is
            | inr differs ↦
                row_of es other e.entry (unchanged_at entries es key (kept less) changes other e.entry differs e.found)
                ∙ ap (λ (r : Standing). Some r) e.row_is
          ];
      goes = λ other row there free unused. gone other row there free unused (slot_at es other) refl;
      only = λ other row there.
          let e = entry_of_row es other row there in
          elim (changed_cases entries es key (kept less) changes other e.entry e.found) [
            | inl here ↦
                let same = (kept_value less e.entry here.1).0 in
                ap (slot_at (rows entries)) here.0 ∙ row_of entries key entry found
                ∙ ap (λ (r : Standing). Some r) (sym same_row ∙ ap (λ (x : Entry). x.row) same ∙ e.row_is)
            | inr elsewhere ↦ row_of entries other e.entry elsewhere.1 ∙ ap (λ (r : Standing). Some r) e.row_is
          ];
    }
  where
    why_at : (other : ℕ) → other ≡ key → (row : Standing) → IsTrue row.pinned ⊎ IsUsed news other → IsTrue row.pinned ⊎ IsUsed news key
    why_at other here row (inl pinned) = inl pinned
    why_at other here row (inr used) = inr (record { key = used.key; node = used.node; found = used.found; event_is = used.event_is ∙ here })

    is_kept : (row : Standing) → less.row ≡ row → IsTrue row.pinned ⊎ IsUsed news key → kept less ≡ Some less
    is_kept row row_is (inl pinned) =
        let p : less.row.pinned ≡ true = ap (λ (r : Standing). r.pinned) row_is ∙ pinned in rw p refl
    is_kept row row_is (inr used) = kept_with_node less (used_here used)

    gone :
        (other : ℕ) (row : Standing) → slot_at (rows entries) other ≡ Some row → row.pinned ≡ false → (IsUsed news other → ⊥)
        → (slot : Option Entry) → slot_at es other ≡ slot → slot_at (rows es) other ≡ None
    gone other row there free unused None is = slot_at-map (λ (e : Entry). e.row) es other ∙ ap (option_map (λ (e : Entry). e.row)) is
    gone other row there free unused (Some e) is =
        let before = entry_of_row entries other row there in
        let same_rows : e.row ≡ row =
        elim (changed_cases entries es key (kept less) changes other e is) [
          | inl here ↦
              let left = (kept_value less e here.1).0 in
              let same : entry ≡ before.entry = same_value entries key other entry before.entry here.0 found before.found in
              ap (λ (x : Entry). x.row) (sym left) ∙ same_row ∙ ap (λ (x : Entry). x.row) same ∙ before.row_is
          | inr elsewhere ↦
              let same : e ≡ before.entry = same_value entries other other e before.entry refl elsewhere.1 before.found in
              ap (λ (x : Entry). x.row) same ∙ before.row_is
        ] in
        absurd (omega (
          arith,
          indexed.used other e is (ap (λ (r : Standing). r.pinned) same_rows ∙ free),
          unused_empty es news indexed other e is unused,
        ))

-- the entry of the node's event loses the node, and goes where it has no pin and no other node
abbrev pub LosesMember : List (Option Entry) → List (Option Entry) → Node → Type 0
LosesMember entries es node =
    Changes entries es node.event
    (option_and_then (λ (entry : Entry). kept (entry_without node.state entry)) (slot_at entries node.event))

-- where the edge that goes stood on another, that one has a hold now
pub HasHold-next :
    {nodes new : List (Option Node)} {key pred : ℕ} {version : List ℕ} (drop : DropsEdge nodes new key version)
    → drop.at.edge.pred ≡ Some pred → HasHold new pred version
HasHold-next {pred = pred} {version = version} drop to_pred =
    let h = hold_after_drop drop pred to_pred in
    let passes = found_passes (leads version) drop.at.node.edges drop.at.edge drop.at.found_edge in
    record {
      node = h.node;
      found = h.found;
      edge = h.edge;
      found_edge =
          found_of_listed h.node.edges h.edge version ((IsGraph-drop drop).prefix_free pred h.node h.found) h.listed
          (begins_trans h.edge.label drop.at.edge.label version h.begins_it passes);
      free = h.free;
    }

module _
    {entries : List (Option Entry)} {nodes new : List (Option Node)} {count key : ℕ} {version : List ℕ}
    (sound : IsSound entries nodes count) (drop : DropsEdge nodes new key version) where
  -- a node that keeps an edge stays
  pub IsSound-drop_edge : (length drop.at.node.edges ≡ 1 → ⊥) → IsSound entries new (count - 1)
  IsSound-drop_edge several =
      let long = length-remove_first (leads version) drop.at.node.edges drop.at.edge drop.at.found_edge in
      let left = slot_left drop (omega (arith, long)) in
      record {
        graph = IsGraph-drop drop;
        indexed =
            IsIndexed-node_change entries nodes sound.indexed new key drop.at.node (node_without version drop.at.node) drop.at.found
            (subst (λ (s : Option Node). Changes nodes new key s) left drop.changes) refl refl refl;
        edges = omega (arith, sound.edges, edge_total-drop drop);
        few = omega (arith, sound.few);
      }

  -- a node without an edge goes
  pub IsSound-drop_node :
      (es : List (Option Entry)) → length drop.at.node.edges ≡ 1 → LosesMember entries es drop.at.node → IsSound es new (count - 1)
  IsSound-drop_node es one change =
      let long = length-remove_first (leads version) drop.at.node.edges drop.at.edge drop.at.found_edge in
      let gone = slot_gone drop (omega (arith, long)) in
      let own = sound.indexed.listed key drop.at.node drop.at.found in
      record {
        graph = IsGraph-drop drop;
        indexed =
            IsIndexed-remove_node entries nodes sound.indexed new es key drop.at.node own.entry drop.at.found
            (subst (λ (s : Option Node). Changes nodes new key s) gone drop.changes) own.found
            (change_at_found (λ (entry : Entry). kept (entry_without drop.at.node.state entry)) entries es drop.at.node.event own.entry own.found change);
        edges = omega (arith, sound.edges, edge_total-drop drop);
        few = omega (arith, sound.few);
      }

  pub keeps_drop_edge : (length drop.at.node.edges ≡ 1 → ⊥) → KeepsEvents (rows entries) (rows entries) new
  keeps_drop_edge several = keeps_all entries new (IsSound-drop_edge several).indexed

  pub keeps_drop_node :
      (es : List (Option Entry)) → length drop.at.node.edges ≡ 1 → LosesMember entries es drop.at.node
      → KeepsEvents (rows entries) (rows es) new
  keeps_drop_node es one change =
      let own = sound.indexed.listed key drop.at.node drop.at.found in
      let less = entry_without drop.at.node.state own.entry in
      let after = (IsSound-drop_node es one change).indexed in
      let changed =
      change_at_found (λ (entry : Entry). kept (entry_without drop.at.node.state entry)) entries es drop.at.node.event own.entry own.found change in
      keeps_but_one entries es new after drop.at.node.event own.entry less own.found refl changed (λ used.
      let l = after.listed used.key used.node used.found in
      let there : slot_at es drop.at.node.event ≡ Some l.entry = ap (slot_at es) (sym used.event_is) ∙ l.found in
      let left = (kept_value less l.entry (sym changed.changed ∙ there)).0 in
      omega (arith, used_nonempty es new after drop.at.node.event l.entry there used, ap (λ (x : Entry). length x.members) left))

-- the same, from what the code has tested
module _
    {entries : List (Option Entry)} {nodes new : List (Option Node)} {count key : ℕ} {version : List ℕ}
    (sound : IsSound entries nodes count) (last : GivesUpLast nodes new key version) where
  nothing_on_it : successors nodes key last.at.edge.label ≡ 0
  nothing_on_it = omega (arith, last.few, hold_is_free last.hold last.at)

  counted_once : last.at.edge.count ≡ 1
  counted_once = omega (arith, last.few, hold_is_free last.hold last.at)

  abbrev dropped : DropsEdge nodes new key version
  dropped =
      record {
        graph = sound.graph;
        at = last.at;
        free = nothing_on_it;
        changes = change_at_found (slot_without version) nodes new key last.at.node last.at.found last.rest;
      }

  pub edge_dropped_sound : (length last.at.node.edges ≡ 1 → ⊥) → IsSound entries new (count - 1)
  edge_dropped_sound several = IsSound-drop_edge sound dropped several

  pub edge_dropped_keeps : (length last.at.node.edges ≡ 1 → ⊥) → KeepsEvents (rows entries) (rows entries) new
  edge_dropped_keeps several = keeps_drop_edge sound dropped several

  pub node_dropped_sound :
      (es : List (Option Entry)) → length last.at.node.edges ≡ 1 → LosesMember entries es last.at.node → IsSound es new (count - 1)
  node_dropped_sound es one change = IsSound-drop_node sound dropped es one change

  pub node_dropped_keeps :
      (es : List (Option Entry)) → length last.at.node.edges ≡ 1 → LosesMember entries es last.at.node
      → KeepsEvents (rows entries) (rows es) new
  node_dropped_keeps es one change = keeps_drop_node sound dropped es one change

  pub dropped_fewer : (pred : Option ℕ) → OnSome pred (edge_total new + 1 ≡ edge_total nodes)
  dropped_fewer pred = OnSome_from _ pred (edge_total-drop dropped)

  pred_is : (pred : Option ℕ) → option_map (λ (e : Edge). e.pred) (edge_at nodes key version) ≡ Some pred → last.at.edge.pred ≡ pred
  pred_is pred is =
      let e : edge_at nodes key version ≡ Some last.at.edge =
      ap (option_and_then (λ (n : Node). find_edge n.edges version)) last.at.found ∙ last.at.found_edge in
      let both : Some last.at.edge.pred ≡ Some pred = sym (ap (option_map (λ (x : Edge). x.pred)) e) ∙ is in
      cc

  pub dropped_hold :
      (pred : Option ℕ) → option_map (λ (e : Edge). e.pred) (edge_at nodes key version) ≡ Some pred
      → IfSome pred (λ p. HasHold new p version)
  dropped_hold pred is =
      IfSome_from (λ p. HasHold new p version) pred
      (λ p p_is. HasHold-next dropped (pred_is pred is ∙ p_is))

  pub drops : (pred : Option ℕ) → option_map (λ (e : Edge). e.pred) (edge_at nodes key version) ≡ Some pred → Drops nodes new key version pred
  drops pred is =
      record {
        node = last.at.node;
        found = last.at.found;
        edge = last.at.edge;
        found_edge = last.at.found_edge;
        once = counted_once;
        leads_here = pred_is pred is;
        changes = dropped.changes;
      }

-- a node's event stands, and knows it
module _
    (entries : List (Option Entry)) (nodes : List (Option Node)) (indexed : IsIndexed entries nodes) (key : ℕ) (node : Node)
    (found : slot_at nodes key ≡ Some node) where
  pub entry_of_node : IsSome (slot_at entries node.event)
  entry_of_node = ap is_some (indexed.listed key node found).found

  pub member_of_node : (entry : Entry) → slot_at entries node.event ≡ Some entry → IsSome (find_member entry.members node.state)
  member_of_node entry there =
      let own = indexed.listed key node found in
      let same : own.entry ≡ entry = same_value entries node.event node.event own.entry entry refl own.found there in
      ap is_some (ap (λ (e : Entry). find_member e.members node.state) (sym same) ∙ own.member)
