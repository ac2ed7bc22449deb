-- A put adds one edge with one hold, and leaves every other hold as it was.
use Rattle.std.proofs.Common.{◌≡◌, ℕ, eqb, cond, List, Option, Some, None, refl, ap, sym, ◌∙◌, inl, inr, arith}
use Rattle.std.specs.Prelude.{◌&&◌}
use Rattle.std.proofs.lemmas.Bool.{cases_eq, eq-eqb, ne_eqb}
use Rattle.dewey_version.specs.Version.{begins}
use Rattle.shared_buffer.specs.Slots.{slot_at, Changes}
use Rattle.shared_buffer.specs.Nodes.{node_up}
use Rattle.shared_buffer.specs.Graph.{Stands, IsGraph}
use Rattle.shared_buffer.specs.Exact.{KeepsNode, StoodBefore, AddsOneEdge}
use Rattle.shared_buffer.specs.declared.edges.Edge.{Edge}
use Rattle.shared_buffer.specs.declared.node.Node.{Node}
use Rattle.shared_buffer.proofs.ChangePremises.{Found}
use Rattle.shared_buffer.proofs.PutPremises.{IsCounted, CountsAndPushes}
use Rattle.shared_buffer.proofs.SlotLaws.{changed_cases, unchanged_at}
use Rattle.shared_buffer.proofs.GraphPutLaws.{successors-push, where_it_stood, still_stands, new_edge_stands, nothing_on_new, IsGraph-push}
use Rattle.shared_buffer.proofs.HoldLaws.{AddsOneHold-up}

-- an edge with no predecessor counts nothing
pub IsCounted-none :
    (nodes : List (Option Node)) (label : List ℕ) (count : ℕ)
    → IsCounted nodes nodes (record { pred = None; label = label; count = count })
IsCounted-none nodes label count =
    record {
      stood = λ other e stands. record { was = e; stood = stands; same_label = refl; same_pred = refl; same_holds = refl };
      stays = λ other e stands. record { kept = e; stands = stands; same_label = refl; same_pred = refl };
      node_stood = λ other n there. record { kept = n; found = there; same_stage = refl; same_state = refl; same_event = refl; same_position = refl };
      node_stays = λ other n there. record { kept = n; found = there; same_stage = refl; same_state = refl; same_event = refl; same_position = refl };
    }

swapped : (a b : ℕ) → eqb a b ≡ eqb b a
swapped a b =
    elim (cases_eq a b) [
      | inl same ↦ eq-eqb a b same ∙ sym (eq-eqb b a (sym same))
      | inr differs ↦ ne_eqb a b differs ∙ sym (ne_eqb b a (λ e. differs (sym e)))
    ]

-- an edge with a predecessor counts the edge there that its label goes on from
pub IsCounted-up :
    {nodes new : List (Option Node)} → IsGraph nodes → {pred : ℕ} {label : List ℕ} (count : ℕ) (at : Found nodes pred label)
    → Changes nodes new pred (Some (node_up label at.node))
    → IsCounted nodes new (record { pred = Some pred; label = label; count = count })
IsCounted-up graph {pred} {label} count at changes =
    let up = AddsOneHold-up graph at changes in
    record {
      stood = λ other e stands.
          let was = up.stood other e stands in
          record {
            was = was.was;
            stood = was.stood;
            same_label = was.same_label;
            same_pred = was.same_pred;
            same_holds = omega (arith, was.same_holds, ap {B = ℕ} (λ b. cond (b && begins e.label label) 1 0) (swapped other pred));
          };
      stays = up.stays;
      node_stood = up.node_stood;
      node_stays = up.node_stays;
    }

-- the edge that the new one stands on is counted, and then the new one comes
module _ {nodes middle new : List (Option Node)} {key : ℕ} {node : Node} {edge : Edge} (put : CountsAndPushes nodes middle new key node edge) where
  after : IsGraph new
  after = IsGraph-push put.push

  stood_before : (other : ℕ) (e : Edge) → Stands new other e → Stands middle other e → StoodBefore nodes new other e 0 0
  stood_before other e stands before =
      let was = put.counted.stood other e before in
      record {
        was = was.was;
        stood = was.stood;
        same_label = was.same_label;
        same_pred = was.same_pred;
        same_holds =
            omega (
              arith,
              was.same_holds,
              successors-push put.push other e.label,
              (after.counted other e stands).1,
            );
      }

  node_of_middle : (other : ℕ) (n : Node) → slot_at middle other ≡ Some n → KeepsNode new other n
  node_of_middle other n there =
      elim (cases_eq other key) [
        | inl here ↦
            let same = put.same_node n (ap (slot_at middle) (sym here) ∙ there) in
            record {
              kept = node;
              found = ap (slot_at new) here ∙ put.push.changes.changed;
              same_stage = same.stage;
              same_state = same.state;
              same_event = same.event;
              same_position = same.position;
            }
        | inr differs ↦
            record {
              kept = n;
              found = unchanged_at middle new key (Some node) put.push.changes other n differs there;
              same_stage = refl;
              same_state = refl;
              same_event = refl;
              same_position = refl;
            }
      ]

  pub AddsOneEdge-push : AddsOneEdge nodes new key edge
  AddsOneEdge-push =
      record {
        stands = new_edge_stands put.push;
        one_hold = omega (arith, put.once, nothing_on_new put.push);
        stood = λ other e stands.
            elim (where_it_stood put.push other e stands) [
              | inl before ↦ inr (stood_before other e stands before)
              | inr itself ↦ inl (itself.0, sym itself.1)
            ];
        stays = λ other e stands.
            let kept = put.counted.stays other e stands in
            record {
              kept = kept.kept;
              stands = still_stands put.push other kept.kept kept.stands;
              same_label = kept.same_label;
              same_pred = kept.same_pred;
            };
        node_stood = λ other n there.
            elim (changed_cases middle new key (Some node) put.push.changes other n there) [
              | inl here ↦ inl here.0
              | inr elsewhere ↦ inr (put.counted.node_stood other n elsewhere.1)
            ];
        node_stays = λ other n there.
            let first = put.counted.node_stays other n there in
            let then' = node_of_middle other first.kept first.found in
            record {
              kept = then'.kept;
              found = then'.found;
              same_stage = then'.same_stage ∙ first.same_stage;
              same_state = then'.same_state ∙ first.same_state;
              same_event = then'.same_event ∙ first.same_event;
              same_position = then'.same_position ∙ first.same_position;
            };
      }
