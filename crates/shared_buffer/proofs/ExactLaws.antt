-- A release takes one hold, and leaves each edge with another one.
use Rattle.std.proofs.Common.{◌≡◌, ℕ, ◌+◌, ◌-◌, ◌<◌, true, cond, List, Option, Some, None, refl, ap, sym, ◌∙◌, subst, inl, inr, arith}
use Rattle.std.proofs.lemmas.Bool.{cases_Bool, cases_eq, and_from, false_from_ne_true, and_left, and_right}
use Rattle.dewey_version.specs.Version.{begins}
use Rattle.dewey_version.proofs.VersionLaws.{begins_trans}
use Rattle.shared_buffer.specs.Lists.{change_first, Lists}
use Rattle.shared_buffer.specs.Slots.{slot_at}
use Rattle.shared_buffer.specs.Edges.{leads, edge_down, without_edge}
use Rattle.shared_buffer.specs.Nodes.{node_down, node_without, slot_without}
use Rattle.shared_buffer.specs.Graph.{is_successor, successors, Stands, IsRooted, IsGraph}
use Rattle.shared_buffer.specs.Release.{HasHold, CountsDown, Drops, Releases}
use Rattle.shared_buffer.specs.Release.Releases.{Lowered, Ended, WentOn}
use Rattle.shared_buffer.specs.Chain.{holds, IsOnChain, IsNeeded}
use Rattle.shared_buffer.specs.Chain.IsOnChain.{Last, Earlier}
use Rattle.shared_buffer.specs.Exact.{chosen, KeepsNode, KeepsEdge, StoodBefore, ReleasesOneHold}
use Rattle.shared_buffer.specs.declared.edges.Edge.{Edge}
use Rattle.shared_buffer.specs.declared.node.Node.{Node}
use Rattle.shared_buffer.proofs.ChangePremises.{Recounts, DropsEdge}
use Rattle.shared_buffer.proofs.ListLaws.{found_listed, found_passes, listed_through_remove}
use Rattle.shared_buffer.proofs.SlotLaws.{changed_cases, unchanged_at, same_value}
use Rattle.shared_buffer.proofs.EdgeLaws.{one_edge, true-false}
use Rattle.shared_buffer.proofs.ReleaseLaws.{hold_is_free, HasHold-next}
use Rattle.shared_buffer.proofs.GraphLaws.{one_of_label, leads_to-is, is-leads_to, successors-recount, IsGraph-recount}
use Rattle.shared_buffer.proofs.GraphDropLaws.{IsGraph-drop, successors-drop, stands_after_drop, slot_left, slot_value, listed-length}
use Rattle.shared_buffer.proofs.ChainLaws.{needed_all}
use Rattle.shared_buffer.proofs.HoldLaws.{not_leading, after_change, chosen_yes, chosen_elsewhere, chosen_other, recount_stays, recount_node_stood}

-- what a release leaves, step by step: the same but for which edges stay, of which it tells that a hold keeps its edge
record LosesOneHold (old new : List (Option Node)) (key : ℕ) (version : List ℕ) : Type 0 where
  graph : IsGraph new
  stood : (other : ℕ) (edge : Edge) → Stands new other edge → StoodBefore old new other edge 0 (chosen key version other edge.label)
  stays : (other : ℕ) (edge : Edge) → Stands old other edge → chosen key version other edge.label < holds old other edge → KeepsEdge new other edge
  node_stood : (other : ℕ) (node : Node) → slot_at new other ≡ Some node → KeepsNode old other node

-- the edge at the end of a release is counted one lower
module _ {nodes new : List (Option Node)} {key : ℕ} {version : List ℕ} (graph : IsGraph nodes) (down : CountsDown nodes new key version) where
  abbrev down_recounts : Recounts nodes new key version edge_down
  down_recounts =
      record {
        at = record { node = down.node; found = down.found; edge = down.edge; found_edge = down.found_edge };
        keeps_pred = λ e. refl;
        keeps_label = λ e. refl;
        changes = down.changes;
      }

  same_successors : (q : ℕ) (label : List ℕ) → successors new q label ≡ successors nodes q label
  same_successors = successors-recount down_recounts

  down_stood :
      (other : ℕ) (edge : Edge) → Stands new other edge → successors nodes key down.edge.label < down.edge.count
      → StoodBefore nodes new other edge 0 (chosen key version other edge.label)
  down_stood other edge stands free =
      elim (changed_cases nodes new key (Some (node_down version down.node)) down.changes other stands.node stands.found) [
        | inl here ↦
            let same : node_down version down.node ≡ stands.node = (let e = here.1 in cc) in
            let listed : Lists (change_first (leads version) edge_down down.node.edges) edge =
            subst (λ (x : Node). Lists x.edges edge) (sym same) stands.listed in
            let at_other : slot_at nodes other ≡ Some down.node = ap (slot_at nodes) here.0 ∙ down.found in
            elim (after_change edge_down down.node.edges version edge (graph.prefix_free key down.node down.found) listed) [
              | inl before ↦
                  record {
                    was = edge;
                    stood = record { node = down.node; found = at_other; listed = before.0 };
                    same_label = refl;
                    same_pred = refl;
                    same_holds = omega (arith, same_successors other edge.label, chosen_other key version other edge.label before.1);
                  }
              | inr changed ↦
                  let x = changed.was in
                  let both : Some x ≡ Some down.edge = sym changed.found ∙ down.found_edge in
                  let x_is : x ≡ down.edge = cc in
                  let label : edge.label ≡ x.label = ap (λ (e : Edge). e.label) changed.becomes in
                  record {
                    was = x;
                    stood = record { node = down.node; found = at_other; listed = found_listed (leads version) down.node.edges x changed.found };
                    same_label = label;
                    same_pred = ap (λ (e : Edge). e.pred) changed.becomes;
                    same_holds =
                        omega (
                          arith,
                          same_successors other edge.label,
                          ap (successors nodes other) label,
                          ap (λ k. successors nodes k x.label) here.0,
                          ap (λ (e : Edge). e.count) changed.becomes,
                          ap (λ (e : Edge). successors nodes key e.label) x_is,
                          ap (λ (e : Edge). e.count) x_is,
                          free,
                          chosen_yes key version other edge.label here.0
                              (ap (λ l. begins l version) label ∙ found_passes (leads version) down.node.edges x changed.found),
                        );
                  }
            ]
        | inr elsewhere ↦
            record {
              was = edge;
              stood = record { node = stands.node; found = elsewhere.1; listed = stands.listed };
              same_label = refl;
              same_pred = refl;
              same_holds = omega (arith, same_successors other edge.label, chosen_elsewhere key version other edge.label elsewhere.0);
            }
      ]

  down_stays : (other : ℕ) (edge : Edge) → Stands nodes other edge → KeepsEdge new other edge
  down_stays = recount_stays down_recounts

  down_node_stood : (other : ℕ) (node : Node) → slot_at new other ≡ Some node → KeepsNode nodes other node
  down_node_stood = recount_node_stood down_recounts

  down_graph : successors nodes key down.edge.label < down.edge.count → IsGraph new
  down_graph free = IsGraph-recount down_recounts graph (omega (arith, down.many)) (omega (arith, free))

-- an edge goes
module _
    {nodes middle : List (Option Node)} {key : ℕ} {version : List ℕ} {pred : Option ℕ} (graph : IsGraph nodes)
    (drop : Drops nodes middle key version pred) (free : successors nodes key drop.edge.label ≡ 0) where
  abbrev dropped : DropsEdge nodes middle key version
  dropped =
      record {
        graph = graph;
        at = record { node = drop.node; found = drop.found; edge = drop.edge; found_edge = drop.found_edge };
        free = free;
        changes = drop.changes;
      }

  graph_after : IsGraph middle
  graph_after = IsGraph-drop dropped

  before_drop : (other : ℕ) (edge : Edge) → Stands middle other edge → Stands nodes other edge
  before_drop = stands_after_drop dropped

  fewer_successors : (q : ℕ) (label : List ℕ) → successors middle q label + cond (is_successor q label drop.edge) 1 0 ≡ successors nodes q label
  fewer_successors = successors-drop dropped

  -- what stands after it is not the edge that went
  none_released : (other : ℕ) (edge : Edge) → Stands middle other edge → chosen key version other edge.label ≡ 0
  none_released other edge stands =
      elim (changed_cases nodes middle key (slot_without version drop.node) drop.changes other stands.node stands.found) [
        | inl here ↦
            let left = slot_value dropped stands.node here.1 in
            let listed : Lists (without_edge drop.node.edges version) edge = subst (λ (x : Node). Lists x.edges edge) (sym left.0) stands.listed in
            chosen_other key version other edge.label (not_leading drop.node.edges version edge (graph.prefix_free key drop.node drop.found) listed)
        | inr elsewhere ↦ chosen_elsewhere key version other edge.label elsewhere.0
      ]

  still_stands :
      (other : ℕ) (edge : Edge) → Stands nodes other edge → chosen key version other edge.label < holds nodes other edge
      → Stands middle other edge
  still_stands other edge stands more =
      elim (cases_eq other key) [
        | inl here ↦
            let same : drop.node ≡ stands.node = same_value nodes key other drop.node stands.node here drop.found stands.found in
            let listed : Lists drop.node.edges edge = subst (λ (x : Node). Lists x.edges edge) (sym same) stands.listed in
            elim (listed_through_remove (leads version) drop.node.edges edge listed) [
              | inl the_edge ↦
                  let both : Some edge ≡ Some drop.edge = sym the_edge ∙ drop.found_edge in
                  let e : edge ≡ drop.edge = cc in
                  absurd (omega (
                    arith,
                    more,
                    chosen_yes key version other edge.label here (found_passes (leads version) drop.node.edges edge the_edge),
                    ap (λ (x : Edge). x.count) e,
                    drop.once,
                  ))
              | inr kept ↦
                  record {
                    node = node_without version drop.node;
                    found =
                        ap (slot_at middle) here ∙ drop.changes.changed
                        ∙ slot_left dropped (listed-length (without_edge drop.node.edges version) edge kept);
                    listed = kept;
                  }
            ]
        | inr differs ↦
            record {
              node = stands.node;
              found = unchanged_at nodes middle key (slot_without version drop.node) drop.changes other stands.node differs stands.found;
              listed = stands.listed;
            }
      ]

  node_before_drop : (other : ℕ) (node : Node) → slot_at middle other ≡ Some node → KeepsNode nodes other node
  node_before_drop other node there =
      elim (changed_cases nodes middle key (slot_without version drop.node) drop.changes other node there) [
        | inl here ↦
            let left = slot_value dropped node here.1 in
            record {
              kept = drop.node;
              found = ap (slot_at nodes) here.0 ∙ drop.found;
              same_stage = ap (λ (x : Node). x.stage) left.0;
              same_state = ap (λ (x : Node). x.state) left.0;
              same_event = ap (λ (x : Node). x.event) left.0;
              same_position = ap (λ (x : Node). x.position) left.0;
            }
        | inr elsewhere ↦ record { kept = node; found = elsewhere.1; same_stage = refl; same_state = refl; same_event = refl; same_position = refl }
      ]

  holds_after :
      (q : ℕ) (edge : Edge) → Stands middle q edge
      → holds middle q edge ≡ holds nodes q edge + cond (is_successor q edge.label drop.edge) 1 0
  holds_after q edge stands =
      let counted = graph.counted q edge (before_drop q edge stands) in
      omega (arith, fewer_successors q edge.label, counted.1)

-- the edge that the one that went stood on is the one whose turn comes
next_turn :
    {nodes middle : List (Option Node)} {key pred : ℕ} {version : List ℕ} (graph : IsGraph nodes)
    (drop : Drops nodes middle key version (Some pred)) (q : ℕ) (edge : Edge) → Stands nodes q edge
    → cond (is_successor q edge.label drop.edge) 1 0 ≡ chosen pred version q edge.label
next_turn {nodes} {middle} {key} {pred} {version} graph drop q edge stands =
    elim (cases_eq q pred) [
      | inl here ↦
          elim (cases_Bool (begins edge.label drop.edge.label)) [
            | inl goes_on ↦
                ap {B = ℕ} (λ b. cond b 1 0) (and_from _ _ (is-leads_to q drop.edge.pred (drop.leads_here ∙ ap (λ k. Some k) (sym here))) goes_on)
                ∙ sym (chosen_yes pred version q edge.label here (begins_trans edge.label drop.edge.label version goes_on whole))
            | inr apart ↦
                ap {B = ℕ} (λ b. cond b 1 0) (and_right _ _ apart)
                ∙ sym (chosen_other pred version q edge.label (false_from_ne_true _ (λ also. true-false _ (same_edge here also) apart)))
          ]
      | inr differs ↦
          ap {B = ℕ} (λ b. cond b 1 0) (and_left _ _ (false_from_ne_true _ (λ is. differs (apart_keys (leads_to-is q drop.edge.pred is)))))
          ∙ sym (chosen_elsewhere pred version q edge.label differs)
    ]
  where
    whole : begins drop.edge.label version ≡ true
    whole = found_passes (leads version) drop.node.edges drop.edge drop.found_edge

    apart_keys : drop.edge.pred ≡ Some q → q ≡ pred
    apart_keys is = let both : Some q ≡ Some pred = sym is ∙ drop.leads_here in cc

    root : IsRooted nodes pred drop.node.position drop.edge.label
    root = graph.rooted key drop.node drop.edge pred drop.found (found_listed (leads version) drop.node.edges drop.edge drop.found_edge) drop.leads_here

    same_edge : q ≡ pred → begins edge.label version ≡ true → begins edge.label drop.edge.label ≡ true
    same_edge here also =
        let n : stands.node ≡ root.node = same_value nodes q pred stands.node root.node (sym here) stands.found root.found in
        let listed : Lists stands.node.edges root.edge = subst (λ (x : Node). Lists x.edges root.edge) (sym n) root.listed in
        let one : edge ≡ root.edge =
        one_edge stands.node.edges edge root.edge version (graph.prefix_free q stands.node stands.found) stands.listed listed also
        (begins_trans root.edge.label drop.edge.label version root.begins_it whole) in
        ap (λ (e : Edge). begins e.label drop.edge.label) one ∙ root.begins_it

no_turn : (q : ℕ) (label : List ℕ) (edge : Edge) → edge.pred ≡ None → cond {A = ℕ} (is_successor q label edge) 1 0 ≡ 0
no_turn q label edge none =
    ap {B = ℕ} (λ b. cond b 1 0)
    (and_left _ _ (false_from_ne_true _ (λ is.
    let bad : Some q ≡ None = sym (leads_to-is q edge.pred is) ∙ none in
    absurd (cc))))

-- the hold that is chosen is of the edge that goes
drop_is_free :
    {nodes middle : List (Option Node)} {key : ℕ} {version : List ℕ} {pred : Option ℕ} → HasHold nodes key version
    → (drop : Drops nodes middle key version pred) → successors nodes key drop.edge.label ≡ 0
drop_is_free hold drop =
    omega (
      arith,
      hold_is_free hold (record { node = drop.node; found = drop.found; edge = drop.edge; found_edge = drop.found_edge }),
      drop.once,
    )

hold_next :
    {nodes middle : List (Option Node)} {key pred : ℕ} {version : List ℕ} (graph : IsGraph nodes)
    (drop : Drops nodes middle key version (Some pred)) → successors nodes key drop.edge.label ≡ 0 → HasHold middle pred version
hold_next graph drop free = HasHold-next (dropped graph drop free) drop.leads_here

LosesOneHold-from :
    (version : List ℕ) (new : List (Option Node)) (nodes : List (Option Node)) (key : ℕ) → IsGraph nodes → HasHold nodes key version
    → Releases version new nodes key → LosesOneHold nodes new key version
LosesOneHold-from version new _ _ graph hold (Lowered nodes key down) =
    let free = hold_is_free hold (record { node = down.node; found = down.found; edge = down.edge; found_edge = down.found_edge }) in
    record {
      graph = down_graph graph down free;
      stood = λ other edge stands. down_stood graph down other edge stands free;
      stays = λ other edge stands more. down_stays graph down other edge stands;
      node_stood = down_node_stood graph down;
    }
LosesOneHold-from version new _ _ graph hold (Ended nodes key drop) =
    let free = drop_is_free hold drop in
    record {
      graph = graph_after graph drop free;
      stood = λ other edge stands.
          record {
            was = edge;
            stood = before_drop graph drop free other edge stands;
            same_label = refl;
            same_pred = refl;
            same_holds =
                omega (
                  arith,
                  holds_after graph drop free other edge stands,
                  no_turn other edge.label drop.edge drop.leads_here,
                  none_released graph drop free other edge stands,
                );
          };
      stays = λ other edge stands more.
          record {
            kept = edge;
            stands = still_stands graph drop free other edge stands more;
            same_label = refl;
            same_pred = refl;
          };
      node_stood = node_before_drop graph drop free;
    }
LosesOneHold-from version new _ _ graph hold (WentOn nodes middle key pred drop later) =
    let free = drop_is_free hold drop in
    let after = graph_after graph drop free in
    let rest = LosesOneHold-from version new middle pred after (hold_next graph drop free) later in
    record {
      graph = rest.graph;
      stood = λ other edge stands.
          let was = rest.stood other edge stands in
          let stood = before_drop graph drop free other was.was was.stood in
          record {
            was = was.was;
            stood = stood;
            same_label = was.same_label;
            same_pred = was.same_pred;
            same_holds =
                omega (
                  arith,
                  was.same_holds,
                  ap (chosen pred version other) was.same_label,
                  ap (chosen key version other) was.same_label,
                  holds_after graph drop free other was.was was.stood,
                  next_turn graph drop other was.was stood,
                  none_released graph drop free other was.was was.stood,
                );
          };
      stays = λ other edge stands more.
          let still = still_stands graph drop free other edge stands more in
          rest.stays other edge still
          (omega (
            arith,
            more,
            holds_after graph drop free other edge still,
            next_turn graph drop other edge stands,
          ));
      node_stood = λ other node there.
          let was = rest.node_stood other node there in
          let before = node_before_drop graph drop free other was.kept was.found in
          record {
            kept = before.kept;
            found = before.found;
            same_stage = before.same_stage ∙ was.same_stage;
            same_state = before.same_state ∙ was.same_state;
            same_event = before.same_event ∙ was.same_event;
            same_position = before.same_position ∙ was.same_position;
          };
    }

-- exactly the edges that are needed stay
module _ (old new : List (Option Node)) (graph : IsGraph old) (key : ℕ) (version : List ℕ) (less : LosesOneHold old new key version) where
  abbrev left : ℕ → Edge → ℕ
  left at edge = holds old at edge - chosen key version at edge.label

  chain_stays :
      (last_key : ℕ) (last : Edge) (at : ℕ) (edge : Edge) → IsOnChain old last_key last at edge → KeepsEdge new last_key last
      → KeepsEdge new at edge
  chain_stays last_key last _ _ (Last stands) kept = kept
  chain_stays last_key last _ _ (Earlier at pred edge earlier on later) kept =
      let above = chain_stays last_key last at edge later kept in
      let root = less.graph.rooted at above.stands.node above.kept pred above.stands.found above.stands.listed (above.same_pred ∙ on.leads_there) in
      let stands : Stands new pred root.edge = record { node = root.node; found = root.found; listed = root.listed } in
      let back = less.stood pred root.edge stands in
      let n : back.stood.node ≡ on.stands_there.node =
      same_value old pred pred back.stood.node on.stands_there.node refl back.stood.found on.stands_there.found in
      let goes_on : begins back.was.label edge.label ≡ true =
      ap (λ l. begins l edge.label) (sym back.same_label) ∙ ap (begins root.edge.label) (sym above.same_label) ∙ root.begins_it in
      let one : back.was ≡ earlier =
      one_edge on.stands_there.node.edges back.was earlier edge.label (graph.prefix_free pred on.stands_there.node on.stands_there.found)
      (subst (λ (x : Node). Lists x.edges back.was) n back.stood.listed) on.stands_there.listed goes_on on.goes_on in
      record {
        kept = root.edge;
        stands = stands;
        same_label = back.same_label ∙ ap (λ (e : Edge). e.label) one;
        same_pred = back.same_pred ∙ ap (λ (e : Edge). e.pred) one;
      }

  last_stands : (last_key : ℕ) (last : Edge) (at : ℕ) (edge : Edge) → IsOnChain new last_key last at edge → Stands new last_key last
  last_stands last_key last _ _ (Last stands) = stands
  last_stands last_key last _ _ (Earlier at pred edge earlier on later) = last_stands last_key last at edge later

  chain_back :
      (last_key : ℕ) (last : Edge) (at : ℕ) (edge : Edge) → IsOnChain new last_key last at edge → (was : Edge) → Stands old at was
      → edge.label ≡ was.label → (end : Edge) → Stands old last_key end → last.label ≡ end.label → IsOnChain old last_key end at was
  chain_back last_key last _ _ (Last stands) was stood label end end_stood end_label =
      subst (λ (e : Edge). IsOnChain old last_key end last_key e) (one_of_label graph.prefix_free end_stood stood (sym end_label ∙ label))
      (Last end_stood)
  chain_back last_key last _ _ (Earlier at pred edge earlier on later) was stood label end end_stood end_label =
      let back = less.stood at edge on.stands in
      Earlier at pred back.was was
      (record {
        stands = back.stood;
        leads_there = sym back.same_pred ∙ on.leads_there;
        stands_there = stood;
        goes_on = ap (λ l. begins l back.was.label) (sym label) ∙ ap (begins earlier.label) (sym back.same_label) ∙ on.goes_on;
      })
      (chain_back last_key last at edge later back.was back.stood back.same_label end end_stood end_label)

  needed_stays : (other : ℕ) (edge : Edge) → IsNeeded old left other edge → KeepsEdge new other edge
  needed_stays other edge needed =
      let stands = first_stands needed.last_key needed.last other edge needed.chain in
      chain_stays needed.last_key needed.last other edge needed.chain
      (less.stays needed.last_key needed.last stands (omega (arith, needed.is_held)))
    where
      first_stands : (last_key : ℕ) (last : Edge) (at : ℕ) (edge : Edge) → IsOnChain old last_key last at edge → Stands old last_key last
      first_stands last_key last _ _ (Last stands) = stands
      first_stands last_key last _ _ (Earlier at pred edge earlier on later) = first_stands last_key last at edge later

  stays_needed : (other : ℕ) (edge : Edge) → Stands old other edge → KeepsEdge new other edge → IsNeeded old left other edge
  stays_needed other edge stands kept =
      let needed = needed_all new less.graph other kept.kept kept.stands in
      let end = less.stood needed.last_key needed.last (last_stands needed.last_key needed.last other kept.kept needed.chain) in
      record {
        last_key = needed.last_key;
        last = end.was;
        chain = chain_back needed.last_key needed.last other kept.kept needed.chain edge stands kept.same_label end.was end.stood end.same_label;
        is_held = omega (arith, needed.is_held, end.same_holds, ap (chosen key version needed.last_key) end.same_label);
      }

pub ReleasesOneHold-from :
    (version : List ℕ) (new : List (Option Node)) (nodes : List (Option Node)) (key : ℕ) → IsGraph nodes → HasHold nodes key version
    → Releases version new nodes key → ReleasesOneHold nodes new key version
ReleasesOneHold-from version new nodes key graph hold releases =
    let less = LosesOneHold-from version new nodes key graph hold releases in
    record {
      stood = less.stood;
      stays = λ other edge stands. (
        stays_needed nodes new graph key version less other edge stands,
        needed_stays nodes new graph key version less other edge,
      );
      node_stood = less.node_stood;
    }
