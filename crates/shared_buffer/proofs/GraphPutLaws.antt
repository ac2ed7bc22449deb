-- The counted graph of nodes, when an edge comes.
use Rattle.std.proofs.Common.{◌≡◌, ℕ, ◌+◌, ◌<◌, ◌≤◌, ◌⊎◌, true, false, cond, List, length, Option, Some, None, refl, ap, sym, ◌∙◌, subst, inl, inr, arith, count_by}
use Rattle.std.proofs.lemmas.Bool.{cases_Bool, cases_eq, and_parts, false_from_ne_true}
use Rattle.shared_buffer.specs.Lists.{Lists}
use Rattle.shared_buffer.specs.Slots.{slot_at}
use Rattle.shared_buffer.specs.Edges.{is_above, with_edge}
use Rattle.shared_buffer.specs.Graph.{is_successor, edges_of, successors, edge_total, IsPrefixFree, Stands, IsRooted, IsGraph}
use Rattle.shared_buffer.specs.declared.edges.Edge.{Edge}
use Rattle.shared_buffer.specs.declared.node.Node.{Node}
use Rattle.shared_buffer.proofs.PutPremises.{PushesEdge}
use Rattle.shared_buffer.proofs.ListLaws.{listed_after_put, listed_through_put, put_listed, length-put, sum_by-put}
use Rattle.shared_buffer.proofs.SlotLaws.{changed_cases, unchanged_at, same_value, sum_by-none}
use Rattle.shared_buffer.proofs.EdgeLaws.{apart_from_common, one_edge, IsPrefixFree-put, count_by-none}
use Rattle.shared_buffer.proofs.GraphLaws.{weight, leads_to-is, successors-changes, edge_total-changes, keeps_root}

-- the edges of a slot stand on the node of that slot
of_slot :
    (nodes : List (Option Node)) (key : ℕ) (slot : Option Node) → slot_at nodes key ≡ slot → (e : Edge) → Lists (edges_of slot) e
    → Stands nodes key e
of_slot nodes key None is e listed = absurd listed
of_slot nodes key (Some n) is e listed = record { node = n; found = is; listed = listed }

-- an edge comes to the node of a key, or with a new node
module _ {nodes new : List (Option Node)} {key : ℕ} {node : Node} {edge : Edge} (push : PushesEdge nodes new key node edge) where
  -- an edge gains a successor where the new edge stands on it
  pub successors-push : (q : ℕ) (label : List ℕ) → successors new q label ≡ successors nodes q label + cond (is_successor q label edge) 1 0
  successors-push q label =
      omega (
        arith,
        successors-changes nodes new key (Some node) push.changes q label,
        ap (count_by (is_successor q label)) push.edges_are,
        sum_by-put (is_above edge.label) (λ e. cond (is_successor q label e) 1 0) edge (edges_of (slot_at nodes key)),
      )

  pub edge_total-push : edge_total new ≡ edge_total nodes + 1
  edge_total-push =
      omega (
        arith,
        edge_total-changes nodes new key (Some node) push.changes,
        ap (λ (es : List Edge). length es) push.edges_are,
        length-put (is_above edge.label) edge (edges_of (slot_at nodes key)),
      )

  prefix_free_slot : (slot : Option Node) → slot_at nodes key ≡ slot → IsPrefixFree (edges_of slot)
  prefix_free_slot None is = tt
  prefix_free_slot (Some n) is = push.graph.prefix_free key n is

  -- what stood before still stands
  pub still_stands : (other : ℕ) (e : Edge) → Stands nodes other e → Stands new other e
  still_stands other e stands =
      elim (cases_eq other key) [
        | inl here ↦
            let at : slot_at nodes key ≡ Some stands.node = ap (slot_at nodes) (sym here) ∙ stands.found in
            let listed : Lists (edges_of (slot_at nodes key)) e = subst (λ (s : Option Node). Lists (edges_of s) e) (sym at) stands.listed in
            record {
              node = node;
              found = ap (slot_at new) here ∙ push.changes.changed;
              listed =
                  subst (λ (es : List Edge). Lists es e) (sym push.edges_are)
                  (listed_through_put (is_above edge.label) edge (edges_of (slot_at nodes key)) e listed);
            }
        | inr differs ↦
            record {
              node = stands.node;
              found = unchanged_at nodes new key (Some node) push.changes other stands.node differs stands.found;
              listed =
                  stands.listed;
            }
      ]

  pub new_edge_stands : Stands new key edge
  new_edge_stands =
      record {
        node = node;
        found = push.changes.changed;
        listed = subst (λ (es : List Edge). Lists es edge) (sym push.edges_are) (put_listed (is_above edge.label) edge (edges_of (slot_at nodes key)));
      }

  -- what stands after it stood before or is the new edge
  pub where_it_stood : (other : ℕ) (e : Edge) → Stands new other e → Stands nodes other e ⊎ ((other ≡ key) × (edge ≡ e))
  where_it_stood other e stands =
      elim (changed_cases nodes new key (Some node) push.changes other stands.node stands.found) [
        | inl here ↦
            let same : node ≡ stands.node = (let x = here.1 in cc) in
            let listed' : Lists (with_edge edge (edges_of (slot_at nodes key))) e =
            subst (λ (es : List Edge). Lists es e) (ap (λ (x : Node). x.edges) (sym same) ∙ push.edges_are) stands.listed in
            elim (listed_after_put (is_above edge.label) edge (edges_of (slot_at nodes key)) e listed') [
              | inl before ↦
                  let was = of_slot nodes key (slot_at nodes key) refl e before in
                  inl (record { node = was.node; found = ap (slot_at nodes) here.0 ∙ was.found; listed = was.listed })
              | inr last ↦ inr (here.0, last)
            ]
        | inr elsewhere ↦ inl (record { node = stands.node; found = elsewhere.1; listed = stands.listed })
      ]

  -- nothing stands on a label before its edge does
  not_yet : (other : ℕ) (n : Node) (e : Edge) → slot_at nodes other ≡ Some n → Lists n.edges e → is_successor key edge.label e ≡ true → ⊥
  not_yet other n e found listed is =
      let both = and_parts _ _ is in
      let root = push.graph.rooted other n e key found listed (leads_to-is key e.pred both.0) in
      let here : Lists (edges_of (slot_at nodes key)) root.edge = subst (λ (s : Option Node). Lists (edges_of s) root.edge) (sym root.found) root.listed in
      apart_from_common edge.label (edges_of (slot_at nodes key)) root.edge e.label push.apart here both.1 root.begins_it

  none_yet : successors nodes key edge.label ≡ 0
  none_yet =
      sum_by-none (weight key edge.label) refl nodes (λ other n found.
      count_by-none (is_successor key edge.label) n.edges (λ e listed.
      false_from_ne_true _ (λ is. not_yet other n e found listed is)))

  not_itself : is_successor key edge.label edge ≡ true → ⊥
  not_itself is =
      let both = and_parts _ _ is in
      let room = push.has_room key (leads_to-is key edge.pred both.0) in
      omega (arith, room.before, push.same_position room.node room.found)

  -- nothing stands on the new edge
  pub nothing_on_new : successors new key edge.label ≡ 0
  nothing_on_new =
      omega (arith, successors-push key edge.label, none_yet, ap {B = ℕ} (λ b. cond b 1 0) (false_from_ne_true _ not_itself))

  pub IsGraph-push : IsGraph new
  IsGraph-push =
      record {
        has_edge = λ other n there.
            elim (changed_cases nodes new key (Some node) push.changes other n there) [
              | inl here ↦
                  let same : node ≡ n = (let e = here.1 in cc) in
                  omega (
                    arith,
                    ap (λ (x : Node). length x.edges) same,
                    ap (λ (es : List Edge). length es) push.edges_are,
                    length-put (is_above edge.label) edge (edges_of (slot_at nodes key)),
                  )
              | inr elsewhere ↦ push.graph.has_edge other n elsewhere.1
            ];
        prefix_free = λ other n there.
            elim (changed_cases nodes new key (Some node) push.changes other n there) [
              | inl here ↦
                  let same : node ≡ n = (let e = here.1 in cc) in
                  subst IsPrefixFree (sym push.edges_are ∙ ap (λ (x : Node). x.edges) same)
                  (IsPrefixFree-put (is_above edge.label) edge (edges_of (slot_at nodes key)) (prefix_free_slot (slot_at nodes key) refl) push.apart)
              | inr elsewhere ↦ push.graph.prefix_free other n elsewhere.1
            ];
        counted = λ other e stands. counted_by other e (where_it_stood other e stands);
        rooted = λ other n e pred there listed to_pred.
            elim (changed_cases nodes new key (Some node) push.changes other n there) [
              | inl here ↦
                  let same : node ≡ n = (let x = here.1 in cc) in
                  let listed' : Lists (with_edge edge (edges_of (slot_at nodes key))) e =
                  subst (λ (es : List Edge). Lists es e) (ap (λ (x : Node). x.edges) (sym same) ∙ push.edges_are) listed in
                  subst (λ (x : Node). IsRooted new pred x.position e.label) same
                  (rooted_at_key e pred to_pred (listed_after_put (is_above edge.label) edge (edges_of (slot_at nodes key)) e listed'))
              | inr elsewhere ↦ through pred n.position e.label (push.graph.rooted other n e pred elsewhere.1 listed to_pred)
            ];
      }
    where
      through : (pred position : ℕ) (label : List ℕ) → IsRooted nodes pred position label → IsRooted new pred position label
      through pred position label root =
          keeps_root nodes new key (Some node) push.changes pred position label root (λ here.
          let at : slot_at nodes key ≡ Some root.node = ap (slot_at nodes) (sym here) ∙ root.found in
          let listed : Lists (edges_of (slot_at nodes key)) root.edge = subst (λ (s : Option Node). Lists (edges_of s) root.edge) (sym at) root.listed in
          record {
            node = node;
            found = ap (slot_at new) here ∙ push.changes.changed;
            before = omega (arith, root.before, push.same_position root.node at);
            edge = root.edge;
            listed =
                subst (λ (es : List Edge). Lists es root.edge) (sym push.edges_are)
                (listed_through_put (is_above edge.label) edge (edges_of (slot_at nodes key)) root.edge listed);
            begins_it = root.begins_it;
          })

      rooted_at_key :
          (e : Edge) (pred : ℕ) → e.pred ≡ Some pred → Lists (edges_of (slot_at nodes key)) e ⊎ (edge ≡ e)
          → IsRooted new pred node.position e.label
      rooted_at_key e pred to_pred (inl before) =
          let was = of_slot nodes key (slot_at nodes key) refl e before in
          subst (λ (p : ℕ). IsRooted new pred p e.label) (sym (push.same_position was.node was.found))
          (through pred was.node.position e.label (push.graph.rooted key was.node e pred was.found was.listed to_pred))
      rooted_at_key e pred to_pred (inr last) =
          let room = push.has_room pred (ap (λ (x : Edge). x.pred) last ∙ to_pred) in
          subst (λ (l : List ℕ). IsRooted new pred node.position l) (ap (λ (x : Edge). x.label) last)
          (through pred node.position edge.label (record {
            node = room.node;
            found = room.found;
            before = room.before;
            edge = room.edge;
            listed = room.listed;
            begins_it = room.begins_it;
          }))

      counted_by :
          (other : ℕ) (e : Edge) → Stands nodes other e ⊎ ((other ≡ key) × (edge ≡ e))
          → (0 < e.count) × (successors new other e.label ≤ e.count)
      counted_by other e (inl before) =
          let was = push.graph.counted other e before in
          elim (cases_Bool (is_successor other e.label edge)) [
            | inl is ↦
                let both = and_parts _ _ is in
                let room = push.has_room other (leads_to-is other edge.pred both.0) in
                let n : before.node ≡ room.node = same_value nodes other other before.node room.node refl before.found room.found in
                let listed : Lists before.node.edges room.edge = subst (λ (x : Node). Lists x.edges room.edge) (sym n) room.listed in
                let one : e ≡ room.edge =
                one_edge before.node.edges e room.edge edge.label (push.graph.prefix_free other before.node before.found) before.listed listed both.1
                room.begins_it in (
                  was.0,
                  omega (
                    arith,
                    successors-push other e.label,
                    ap {B = ℕ} (λ b. cond b 1 0) is,
                    room.free,
                    ap (λ (x : Edge). successors nodes other x.label) one,
                    ap (λ (x : Edge). x.count) one,
                  ),
                )
            | inr other_edge ↦ (was.0, omega (arith, was.1, successors-push other e.label, ap {B = ℕ} (λ b. cond b 1 0) other_edge))
          ]
      counted_by other e (inr last) =
          let fails : is_successor key edge.label edge ≡ false = false_from_ne_true _ not_itself in (
            omega (arith, push.positive, ap (λ (x : Edge). x.count) last.1),
            omega (
              arith,
              push.positive,
              successors-push key edge.label,
              none_yet,
              ap {B = ℕ} (λ b. cond b 1 0) fails,
              ap (λ k. successors new k e.label) last.0,
              ap (λ (x : Edge). successors new key x.label) last.1,
              ap (λ (x : Edge). x.count) last.1,
            ),
          )
