-- A hold comes: one edge of a node is counted otherwise, and all else stays.
use Rattle.std.proofs.Common.{◌≡◌, ◌≢◌, ℕ, ◌⊎◌, true, false, cond, List, [], ◌∷◌, Option, Some, refl, ap, sym, ◌∙◌, subst, inl, inr, arith}
use Rattle.std.proofs.lemmas.Bool.{cases_Bool, cases_eq, and_from, eq-eqb, ne_eqb, false_from_ne_true, and_left, and_right}
use Rattle.dewey_version.specs.Version.{begins}
use Rattle.shared_buffer.specs.Lists.{change_first, remove_first, Lists}
use Rattle.shared_buffer.specs.Slots.{slot_at, Changes}
use Rattle.shared_buffer.specs.Edges.{leads, edge_up}
use Rattle.shared_buffer.specs.Nodes.{node_up}
use Rattle.shared_buffer.specs.Graph.{successors, IsPrefixFree, Stands, IsGraph}
use Rattle.shared_buffer.specs.Exact.{chosen, KeepsNode, KeepsEdge, StoodBefore, AddsOneHold}
use Rattle.shared_buffer.specs.declared.edges.Edge.{Edge}
use Rattle.shared_buffer.specs.declared.node.Node.{Node}
use Rattle.shared_buffer.proofs.ChangePremises.{Found, Recounts}
use Rattle.shared_buffer.proofs.ListLaws.{IsChanged, found_listed, found_passes, listed_through_change, change_yes, change_no, remove_yes, remove_no, find_yes, find_no}
use Rattle.shared_buffer.proofs.SlotLaws.{changed_cases, unchanged_at, same_value}
use Rattle.shared_buffer.proofs.EdgeLaws.{apart_from_common}
use Rattle.shared_buffer.proofs.GraphLaws.{successors-recount}

-- what is left does not lead on with the version
pub not_leading :
    (edges : List Edge) (version : List ℕ) (edge : Edge) → IsPrefixFree edges → Lists (remove_first (leads version) edges) edge
    → leads version edge ≡ false
not_leading [] version edge free listed = absurd listed
not_leading (x ∷ edges) version edge free listed =
    elim (cases_Bool (leads version x)) [
      | inl passes ↦
          let later : Lists edges edge = subst (λ (l : List Edge). Lists l edge) (remove_yes (leads version) x edges passes) listed in
          false_from_ne_true _ (λ also. apart_from_common x.label edges edge version free.0 later passes also)
      | inr fails ↦
          let then' : Lists (x ∷ remove_first (leads version) edges) edge =
          subst (λ (l : List Edge). Lists l edge) (remove_no (leads version) x edges fails) listed in
          elim then' [
            | inl here ↦ ap (leads version) (sym here) ∙ fails
            | inr later ↦ not_leading edges version edge free.1 later
          ]
    ]

-- after a change each edge is one that does not lead on with the version, or is what the found one became
pub after_change :
    (f : Edge → Edge) (edges : List Edge) (version : List ℕ) (edge : Edge) → IsPrefixFree edges
    → Lists (change_first (leads version) f edges) edge
    → (Lists edges edge × (leads version edge ≡ false)) ⊎ IsChanged (leads version) f edges edge
after_change f [] version edge free listed = absurd listed
after_change f (x ∷ edges) version edge free listed =
    elim (cases_Bool (leads version x)) [
      | inl passes ↦
          let then' : Lists (f x ∷ edges) edge = subst (λ (l : List Edge). Lists l edge) (change_yes (leads version) f x edges passes) listed in
          elim then' [
            | inl here ↦ inr (record { was = x; found = find_yes (leads version) x edges passes; becomes = sym here })
            | inr later ↦
                inl (inr later, false_from_ne_true _ (λ also. apart_from_common x.label edges edge version free.0 later passes also))
          ]
      | inr fails ↦
          let then' : Lists (x ∷ change_first (leads version) f edges) edge =
          subst (λ (l : List Edge). Lists l edge) (change_no (leads version) f x edges fails) listed in
          elim then' [
            | inl here ↦ inl (inl here, ap (leads version) (sym here) ∙ fails)
            | inr later ↦
                elim (after_change f edges version edge free.1 later) [
                  | inl before ↦ inl (inr before.0, before.1)
                  | inr changed ↦ inr (record {
                    was = changed.was;
                    found = find_no (leads version) x edges fails ∙ changed.found;
                    becomes = changed.becomes;
                  })
                ]
          ]
    ]

pub chosen_yes :
    (key : ℕ) (version : List ℕ) (other : ℕ) (label : List ℕ) → other ≡ key → begins label version ≡ true
    → chosen key version other label ≡ 1
chosen_yes key version other label same leads_on = ap {B = ℕ} (λ b. cond b 1 0) (and_from _ _ (eq-eqb other key same) leads_on)

pub chosen_elsewhere : (key : ℕ) (version : List ℕ) (other : ℕ) (label : List ℕ) → other ≢ key → chosen key version other label ≡ 0
chosen_elsewhere key version other label differs = ap {B = ℕ} (λ b. cond b 1 0) (and_left _ _ (ne_eqb other key differs))

pub chosen_other : (key : ℕ) (version : List ℕ) (other : ℕ) (label : List ℕ) → begins label version ≡ false → chosen key version other label ≡ 0
chosen_other key version other label fails = ap {B = ℕ} (λ b. cond b 1 0) (and_right _ _ fails)

module _ {nodes new : List (Option Node)} {key : ℕ} {version : List ℕ} {f : Edge → Edge} (recount : Recounts nodes new key version f) where
  pub recount_stays : (other : ℕ) (edge : Edge) → Stands nodes other edge → KeepsEdge new other edge
  recount_stays other edge stands =
      elim (cases_eq other key) [
        | inl here ↦
            let same : recount.at.node ≡ stands.node = same_value nodes key other recount.at.node stands.node here recount.at.found stands.found in
            let listed : Lists recount.at.node.edges edge = subst (λ (x : Node). Lists x.edges edge) (sym same) stands.listed in
            let there = ap (slot_at new) here ∙ recount.changes.changed in
            elim (listed_through_change (leads version) f recount.at.node.edges edge listed) [
              | inl kept ↦ record { kept = edge; stands = record { node = _; found = there; listed = kept }; same_label = refl; same_pred = refl }
              | inr changed ↦
                  record {
                    kept = f edge;
                    stands = record { node = _; found = there; listed = changed.1 };
                    same_label = recount.keeps_label edge;
                    same_pred = recount.keeps_pred edge;
                  }
            ]
        | inr differs ↦
            record {
              kept = edge;
              stands =
                  record {
                    node = stands.node;
                    found = unchanged_at nodes new key _ recount.changes other stands.node differs stands.found;
                    listed =
                        stands.listed;
                  };
              same_label = refl;
              same_pred = refl;
            }
      ]

  pub recount_node_stood : (other : ℕ) (n : Node) → slot_at new other ≡ Some n → KeepsNode nodes other n
  recount_node_stood other n there =
      elim (changed_cases nodes new key _ recount.changes other n there) [
        | inl here ↦
            let same : record recount.at.node { edges = change_first (leads version) f recount.at.node.edges } ≡ n = (let e = here.1 in cc) in
            record {
              kept = recount.at.node;
              found = ap (slot_at nodes) here.0 ∙ recount.at.found;
              same_stage = ap (λ (x : Node). x.stage) same;
              same_state = ap (λ (x : Node). x.state) same;
              same_event = ap (λ (x : Node). x.event) same;
              same_position = ap (λ (x : Node). x.position) same;
            }
        | inr elsewhere ↦ record { kept = n; found = elsewhere.1; same_stage = refl; same_state = refl; same_event = refl; same_position = refl }
      ]

  pub recount_node_stays : (other : ℕ) (n : Node) → slot_at nodes other ≡ Some n → KeepsNode new other n
  recount_node_stays other n there =
      elim (cases_eq other key) [
        | inl here ↦
            let same : recount.at.node ≡ n = same_value nodes key other recount.at.node n here recount.at.found there in
            record {
              kept = record recount.at.node { edges = change_first (leads version) f recount.at.node.edges };
              found = ap (slot_at new) here ∙ recount.changes.changed;
              same_stage = ap (λ (x : Node). x.stage) same;
              same_state = ap (λ (x : Node). x.state) same;
              same_event = ap (λ (x : Node). x.event) same;
              same_position = ap (λ (x : Node). x.position) same;
            }
        | inr differs ↦
            record {
              kept = n;
              found = unchanged_at nodes new key _ recount.changes other n differs there;
              same_stage = refl;
              same_state = refl;
              same_event = refl;
              same_position = refl;
            }
      ]

-- the edge that leads on with a version is counted one higher
module _
    {nodes new : List (Option Node)} {key : ℕ} {version : List ℕ} (graph : IsGraph nodes) (at : Found nodes key version)
    (changes : Changes nodes new key (Some (node_up version at.node))) where
  up_recounts : Recounts nodes new key version edge_up
  up_recounts = record { at = at; keeps_pred = λ e. refl; keeps_label = λ e. refl; changes = changes }

  same_successors : (q : ℕ) (label : List ℕ) → successors new q label ≡ successors nodes q label
  same_successors = successors-recount up_recounts

  pub up_stood : (other : ℕ) (edge : Edge) → Stands new other edge → StoodBefore nodes new other edge (chosen key version other edge.label) 0
  up_stood other edge stands =
      elim (changed_cases nodes new key (Some (node_up version at.node)) changes other stands.node stands.found) [
        | inl here ↦
            let same : node_up version at.node ≡ stands.node = (let e = here.1 in cc) in
            let listed : Lists (change_first (leads version) edge_up at.node.edges) edge = subst (λ (x : Node). Lists x.edges edge) (sym same) stands.listed in
            let at_other : slot_at nodes other ≡ Some at.node = ap (slot_at nodes) here.0 ∙ at.found in
            elim (after_change edge_up at.node.edges version edge (graph.prefix_free key at.node at.found) listed) [
              | inl before ↦
                  record {
                    was = edge;
                    stood = record { node = at.node; found = at_other; listed = before.0 };
                    same_label = refl;
                    same_pred = refl;
                    same_holds = omega (arith, same_successors other edge.label, chosen_other key version other edge.label before.1);
                  }
              | inr changed ↦
                  let x = changed.was in
                  let label : edge.label ≡ x.label = ap (λ (e : Edge). e.label) changed.becomes in
                  let stood : Stands nodes other x =
                  record { node = at.node; found = at_other; listed = found_listed (leads version) at.node.edges x changed.found } in
                  record {
                    was = x;
                    stood = stood;
                    same_label = label;
                    same_pred = ap (λ (e : Edge). e.pred) changed.becomes;
                    same_holds =
                        omega (
                          arith,
                          same_successors other edge.label,
                          ap (successors nodes other) label,
                          ap (λ (e : Edge). e.count) changed.becomes,
                          (graph.counted other x stood).1,
                          chosen_yes key version other edge.label here.0
                              (ap (λ l. begins l version) label ∙ found_passes (leads version) at.node.edges x changed.found),
                        );
                  }
            ]
        | inr elsewhere ↦
            record {
              was = edge;
              stood = record { node = stands.node; found = elsewhere.1; listed = stands.listed };
              same_label = refl;
              same_pred = refl;
              same_holds = omega (arith, same_successors other edge.label, chosen_elsewhere key version other edge.label elsewhere.0);
            }
      ]

  pub AddsOneHold-up : AddsOneHold nodes new key version
  AddsOneHold-up =
      record {
        stood = up_stood;
        stays = recount_stays up_recounts;
        node_stood = recount_node_stood up_recounts;
        node_stays = recount_node_stays up_recounts;
      }
