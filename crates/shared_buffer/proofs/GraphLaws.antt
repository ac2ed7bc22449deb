-- The counted graph of nodes, through each change of a buffer.
use Rattle.std.proofs.Common.{◌≡◌, ℕ, ◌+◌, ◌<◌, ◌≤◌, ◌⊎◌, true, cond, List, length, Option, Some, None, refl, ap, sym, ◌∙◌, subst, inl, inr, arith, count_by}
use Rattle.std.specs.Prelude.{◌&&◌}
use Rattle.std.specs.List.{sum_by}
use Rattle.std.proofs.lemmas.Bool.{cases_eq, and_from, eqb-true, eq-eqb}
use Rattle.dewey_version.specs.Version.{begins}
use Rattle.dewey_version.proofs.VersionLaws.{begins-refl}
use Rattle.shared_buffer.specs.Lists.{change_first, Lists}
use Rattle.shared_buffer.specs.Slots.{slot_at, Changes}
use Rattle.shared_buffer.specs.Edges.{leads}
use Rattle.shared_buffer.specs.Graph.{Stands, leads_to, is_successor, edges_of, successors, edge_total, IsPrefixFree, IsRooted, IsGraph}
use Rattle.shared_buffer.specs.declared.edges.Edge.{Edge}
use Rattle.shared_buffer.specs.declared.node.Node.{Node}
use Rattle.shared_buffer.proofs.ChangePremises.{Found, Recounts}
use Rattle.shared_buffer.proofs.ListLaws.{IsChanged, listed_after_change, listed_through_change, sum_by-change_first, length-change_first, found_listed}
use Rattle.shared_buffer.proofs.SlotLaws.{changed_cases, unchanged_at, same_value, sum_by-changes, slot-within-sum}
use Rattle.shared_buffer.proofs.EdgeLaws.{one_edge, IsPrefixFree-change, count_by-some}

-- what a slot adds to the successors of an edge
abbrev pub weight : ℕ → List ℕ → Option Node → ℕ
weight key label slot = count_by (is_successor key label) (edges_of slot)

pub leads_to-is : (key : ℕ) (pred : Option ℕ) → leads_to key pred ≡ true → pred ≡ Some key
leads_to-is key None leads_there = absurd (cc)
leads_to-is key (Some pred) leads_there = ap (λ k. Some k) (eqb-true pred key leads_there)

pub is-leads_to : (key : ℕ) (pred : Option ℕ) → pred ≡ Some key → leads_to key pred ≡ true
is-leads_to key None is = absurd (cc)
is-leads_to key (Some pred) is = let e : pred ≡ key = cc in eq-eqb pred key e

-- a change of a slot changes the successors of an edge by what the slot adds
pub successors-changes :
    (nodes new : List (Option Node)) (key : ℕ) (slot : Option Node) → Changes nodes new key slot → (q : ℕ) (label : List ℕ)
    → successors new q label + weight q label (slot_at nodes key) ≡ successors nodes q label + weight q label slot
successors-changes nodes new key slot changes q label = sum_by-changes (weight q label) refl nodes new key slot changes

pub edge_total-changes :
    (nodes new : List (Option Node)) (key : ℕ) (slot : Option Node) → Changes nodes new key slot
    → edge_total new + length (edges_of (slot_at nodes key)) ≡ edge_total nodes + length (edges_of slot)
edge_total-changes nodes new key slot changes = sum_by-changes (λ (s : Option Node). length (edges_of s)) refl nodes new key slot changes

-- an edge that stands on another is one of its successors
pub stands_on :
    (nodes : List (Option Node)) (key : ℕ) (node : Node) (edge : Edge) (pred : ℕ) (label : List ℕ) → slot_at nodes key ≡ Some node
    → Lists node.edges edge → edge.pred ≡ Some pred → begins label edge.label ≡ true → 0 < successors nodes pred label
stands_on nodes key node edge pred label found listed to_pred goes_on =
    let is : is_successor pred label edge ≡ true = and_from _ _ (is-leads_to pred edge.pred to_pred) goes_on in
    let here : weight pred label (slot_at nodes key) ≡ count_by (is_successor pred label) node.edges = ap (weight pred label) found in
    omega (
      arith,
      slot-within-sum (weight pred label) refl nodes key,
      here,
      count_by-some (is_successor pred label) node.edges edge listed is,
    )

-- an edge is rooted through a change that keeps, at the key of its root, an edge of the same label and position
pub keeps_root :
    (nodes new : List (Option Node)) (key : ℕ) (slot : Option Node) → Changes nodes new key slot → (pred position : ℕ)
    (label : List ℕ) (root : IsRooted nodes pred position label) → (pred ≡ key → IsRooted new pred position label)
    → IsRooted new pred position label
keeps_root nodes new key slot changes pred position label root at_key =
    elim (cases_eq pred key) [
      | inl here ↦ at_key here
      | inr differs ↦
          record {
            node = root.node;
            found = unchanged_at nodes new key slot changes pred root.node differs root.found;
            before = root.before;
            edge = root.edge;
            listed = root.listed;
            begins_it = root.begins_it;
          }
    ]

-- the labels of each node are prefix-free
abbrev pub ArePrefixFree : List (Option Node) → Type 0
ArePrefixFree nodes = (key : ℕ) (node : Node) → slot_at nodes key ≡ Some node → IsPrefixFree node.edges

-- the edges of one label on one node are one
pub one_of_label :
    {nodes : List (Option Node)} → ArePrefixFree nodes → {key : ℕ} {a b : Edge} → Stands nodes key a → Stands nodes key b
    → a.label ≡ b.label → a ≡ b
one_of_label {nodes} free {key} {a} {b} in_a in_b label =
    let n : in_a.node ≡ in_b.node = same_value nodes key key in_a.node in_b.node refl in_a.found in_b.found in
    one_edge in_b.node.edges a b b.label (free key in_b.node in_b.found)
    (subst (λ (x : Node). Lists x.edges a) n in_a.listed) in_b.listed
    (subst (λ (l : List ℕ). begins l b.label ≡ true) (sym label) (begins-refl b.label)) (begins-refl b.label)

-- what stands on the edge is counted in it
pub counted_enough :
    {nodes : List (Option Node)} {key : ℕ} {version : List ℕ} → IsGraph nodes → (at : Found nodes key version)
    → successors nodes key at.edge.label ≤ at.edge.count
counted_enough {nodes} {key} {version} graph at =
    let listed = found_listed (leads version) at.node.edges at.edge at.found_edge in
    (graph.counted key at.edge (record { node = at.node; found = at.found; listed = listed })).1

-- one edge of a node is counted otherwise
module _ {nodes new : List (Option Node)} {key : ℕ} {version : List ℕ} {f : Edge → Edge} (recount : Recounts nodes new key version f) where
  recount_weight :
      (q : ℕ) (label : List ℕ)
      → sum_by (λ e. cond (is_successor q label e) 1 0) (change_first (leads version) f recount.at.node.edges)
      ≡ sum_by (λ e. cond (is_successor q label e) 1 0) recount.at.node.edges
  recount_weight q label =
      sum_by-change_first (leads version) f (λ e. cond (is_successor q label e) 1 0) recount.at.node.edges
      (λ e. ap {B = ℕ} (λ b. cond b 1 0) (ap (λ p. leads_to q p && begins label (f e).label) (recount.keeps_pred e)
      ∙ ap (λ l. leads_to q e.pred && begins label l) (recount.keeps_label e)))

  -- each edge keeps its successors
  pub successors-recount : (q : ℕ) (label : List ℕ) → successors new q label ≡ successors nodes q label
  successors-recount q label =
      omega (
        arith,
        successors-changes nodes new key _ recount.changes q label,
        ap (weight q label) recount.at.found,
        recount_weight q label,
      )

  pub edge_total-recount : edge_total new ≡ edge_total nodes
  edge_total-recount =
      omega (
        arith,
        edge_total-changes nodes new key _ recount.changes,
        ap (λ (s : Option Node). length (edges_of s)) recount.at.found,
        length-change_first (leads version) f recount.at.node.edges,
      )

  -- it is still counted often enough
  pub IsGraph-recount :
      IsGraph nodes → 0 < (f recount.at.edge).count → successors nodes key recount.at.edge.label ≤ (f recount.at.edge).count → IsGraph new
  IsGraph-recount graph positive enough =
      record {
        has_edge = λ other n there.
            elim (changed_cases nodes new key _ recount.changes other n there) [
              | inl here ↦
                  let e = here.1 in
                  let same : record recount.at.node { edges = change_first (leads version) f recount.at.node.edges } ≡ n = cc in
                  subst (λ (x : Node). 0 < length x.edges) same
                  (omega (arith, length-change_first (leads version) f recount.at.node.edges, graph.has_edge key recount.at.node recount.at.found))
              | inr elsewhere ↦ graph.has_edge other n elsewhere.1
            ];
        prefix_free = λ other n there.
            elim (changed_cases nodes new key _ recount.changes other n there) [
              | inl here ↦
                  let e = here.1 in
                  let same : record recount.at.node { edges = change_first (leads version) f recount.at.node.edges } ≡ n = cc in
                  subst (λ (x : Node). IsPrefixFree x.edges) same
                  (IsPrefixFree-change (leads version) f recount.keeps_label recount.at.node.edges (graph.prefix_free key recount.at.node recount.at.found))
              | inr elsewhere ↦ graph.prefix_free other n elsewhere.1
            ];
        counted = λ other edge stands.
            elim (changed_cases nodes new key _ recount.changes other stands.node stands.found) [
              | inl here ↦
                  let e = here.1 in
                  let same : record recount.at.node { edges = change_first (leads version) f recount.at.node.edges } ≡ stands.node = cc in
                  let listed : Lists (change_first (leads version) f recount.at.node.edges) edge =
                  subst (λ (x : Node). Lists x.edges edge) (sym same) stands.listed in
                  at_key other here.0 edge (listed_after_change (leads version) f recount.at.node.edges edge listed)
              | inr elsewhere ↦
                  let was = graph.counted other edge (record { node = stands.node; found = elsewhere.1; listed = stands.listed }) in
                  (was.0, omega (arith, was.1, successors-recount other edge.label))
            ];
        rooted = λ other n edge pred there listed to_pred.
            elim (changed_cases nodes new key _ recount.changes other n there) [
              | inl here ↦
                  let e = here.1 in
                  let same : record recount.at.node { edges = change_first (leads version) f recount.at.node.edges } ≡ n = cc in
                  let listed' : Lists (change_first (leads version) f recount.at.node.edges) edge =
                  subst (λ (x : Node). Lists x.edges edge) (sym same) listed in
                  subst (λ (x : Node). IsRooted new pred x.position edge.label) same
                  (rooted_at_key edge pred to_pred (listed_after_change (leads version) f recount.at.node.edges edge listed'))
              | inr elsewhere ↦ through pred n.position edge.label (graph.rooted other n edge pred elsewhere.1 listed to_pred)
            ];
      }
    where
      through : (pred position : ℕ) (label : List ℕ) → IsRooted nodes pred position label → IsRooted new pred position label
      through pred position label root =
          keeps_root nodes new key _ recount.changes pred position label root (λ here.
          let m : recount.at.node ≡ root.node = same_value nodes key pred recount.at.node root.node here recount.at.found root.found in
          let listed : Lists recount.at.node.edges root.edge = subst (λ (x : Node). Lists x.edges root.edge) (sym m) root.listed in
          let found' = ap (slot_at new) here ∙ recount.changes.changed in
          let before : recount.at.node.position < position = omega (arith, root.before, ap (λ (x : Node). x.position) m) in
          elim (listed_through_change (leads version) f recount.at.node.edges root.edge listed) [
            | inl kept ↦
                record {
                  node = _;
                  found = found';
                  before = before;
                  edge = root.edge;
                  listed = kept;
                  begins_it = root.begins_it;
                }
            | inr changed ↦
                record {
                  node = _;
                  found = found';
                  before = before;
                  edge = f root.edge;
                  listed = changed.1;
                  begins_it = ap (λ l. begins l label) (recount.keeps_label root.edge) ∙ root.begins_it;
                }
          ])

      rooted_at_key :
          (edge : Edge) (pred : ℕ) → edge.pred ≡ Some pred
          → Lists recount.at.node.edges edge ⊎ IsChanged (leads version) f recount.at.node.edges edge
          → IsRooted new pred recount.at.node.position edge.label
      rooted_at_key edge pred to_pred (inl before) =
          through pred recount.at.node.position edge.label (graph.rooted key recount.at.node edge pred recount.at.found before to_pred)
      rooted_at_key edge pred to_pred (inr changed) =
          let x = changed.was in
          let label : x.label ≡ edge.label = sym (recount.keeps_label x) ∙ ap (λ (e : Edge). e.label) (sym changed.becomes) in
          let to : x.pred ≡ Some pred = sym (recount.keeps_pred x) ∙ ap (λ (e : Edge). e.pred) (sym changed.becomes) ∙ to_pred in
          subst (λ (l : List ℕ). IsRooted new pred recount.at.node.position l) label
          (through pred recount.at.node.position x.label
          (graph.rooted key recount.at.node x pred recount.at.found (found_listed (leads version) recount.at.node.edges x changed.found) to))

      at_key :
          (other : ℕ) → other ≡ key → (edge : Edge)
          → Lists recount.at.node.edges edge ⊎ IsChanged (leads version) f recount.at.node.edges edge
          → (0 < edge.count) × (successors new other edge.label ≤ edge.count)
      at_key other here edge (inl before) =
          let was = graph.counted key edge (record { node = recount.at.node; found = recount.at.found; listed = before }) in
          (was.0, omega (arith, was.1, successors-recount other edge.label, ap (λ k. successors nodes k edge.label) here))
      at_key other here edge (inr changed) =
          let x = changed.was in
          let both : Some x ≡ Some recount.at.edge = sym changed.found ∙ recount.at.found_edge in
          let the_edge : x ≡ recount.at.edge = cc in
          let label : edge.label ≡ x.label = ap (λ (e : Edge). e.label) changed.becomes ∙ recount.keeps_label x in
          let count : edge.count ≡ (f x).count = ap (λ (e : Edge). e.count) changed.becomes in (
            omega (arith, positive, count, ap (λ (e : Edge). (f e).count) the_edge),
            omega (
              arith,
              enough,
              count,
              successors-recount other edge.label,
              ap (λ k. successors nodes k edge.label) here,
              ap (successors nodes key) label,
              ap (λ (e : Edge). (f e).count) the_edge,
              ap (λ (e : Edge). successors nodes key e.label) the_edge,
            ),
          )
