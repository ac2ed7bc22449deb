-- What the tests of conditions say.
use Rattle.std.proofs.Common.{◌≡◌, ◌≢◌, ℕ, ◌+◌, Bool, true, eqb, List, [], ◌∷◌, Option, Some, None, is_some, refl, ap, sym, ◌∙◌, subst, arith}
use Rattle.std.specs.Prelude.{◌↔◌, IsTrue, IsSome, not}
use Rattle.std.specs.List.{list_all, sum_by, count_by}
use Rattle.std.specs.Option.{ForSome}
use Rattle.std.proofs.lemmas.Bool.{and_parts, and_from, not-true, eqb-true}
use Rattle.std.proofs.lemmas.List.Sums.{sum_by-cons}
use Rattle.slab.specs.Slab.{entries_from}
use Rattle.shared_buffer.specs.Slots.{slot_at}
use Rattle.shared_buffer.specs.Edges.{is_apart_from}
use Rattle.shared_buffer.specs.Members.{find_member}
use Rattle.shared_buffer.specs.Content.{rows}
use Rattle.shared_buffer.specs.Put.{CanCarry, CanPut, Fits}
use Rattle.shared_buffer.specs.Graph.{is_successor, successors, IsApartFrom, IsIndexed}
use Rattle.shared_buffer.specs.declared.edges.Edge.{Edge}
use Rattle.shared_buffer.specs.declared.node.Node.{Node}
use Rattle.shared_buffer.specs.declared.node.Entry.{Entry}
use Rattle.shared_buffer.specs.declared.node.Standing.{Standing}
use Rattle.shared_buffer.proofs.BufferLaws.{row_of}
use Rattle.shared_buffer.proofs.SlotLaws.{same_value}
use Rattle.shared_buffer.proofs.GraphLaws.{weight}

pub all-IsApartFrom : (label : List ℕ) (edges : List Edge) → list_all (is_apart_from label) edges ≡ true → IsApartFrom label edges
all-IsApartFrom label [] all = tt
all-IsApartFrom label (edge ∷ edges) all =
    let both = and_parts _ _ all in
    let one = and_parts _ _ both.0 in
    ((not-true _ one.0, not-true _ one.1), all-IsApartFrom label edges both.1)

pub IsApartFrom-all : (label : List ℕ) (edges : List Edge) → IsApartFrom label edges → list_all (is_apart_from label) edges ≡ true
IsApartFrom-all label [] apart = refl
IsApartFrom-all label (edge ∷ edges) apart = and_from _ _ (and_from _ _ (ap not apart.0.0) (ap not apart.0.1)) (IsApartFrom-all label edges apart.1)

-- the entry that stands at the key of an event, as the code has read it
pub record ReadsEvent (entries : List (Option Entry)) (nodes : List (Option Node)) (event : ℕ) (entry : Entry) : Type 0 where
  pub indexed : IsIndexed entries nodes
  pub found : slot_at entries event ≡ Some entry

abbrev pub event_read :
    {entries : List (Option Entry)} {nodes : List (Option Node)} {slot event : ℕ} {entry : Entry} → IsIndexed entries nodes
    → slot ≡ event → slot_at entries slot ≡ Some entry → ReadsEvent entries nodes event entry
event_read {entries} indexed slot_is read = record { indexed = indexed; found = ap (slot_at entries) (sym slot_is) ∙ read }

module _
    {entries : List (Option Entry)} {nodes : List (Option Node)} {event : ℕ} {entry : Entry}
    (reads : ReadsEvent entries nodes event entry) where
  pub member_stands : (state key : ℕ) → find_member entry.members state ≡ Some key → IsSome (slot_at nodes key)
  member_stands state key member = ap is_some (reads.indexed.stands event entry state key reads.found member).found

  row_there : slot_at (rows entries) event ≡ Some entry.row
  row_there = row_of entries event entry reads.found

  member_of :
      (state key : ℕ) (node : Node) → slot_at nodes key ≡ Some node → node.event ≡ event → node.state ≡ state
      → find_member entry.members state ≡ Some key
  member_of state key node there of_event of_state =
      let own = reads.indexed.listed key node there in
      let e : entry ≡ own.entry = same_value entries event node.event entry own.entry of_event reads.found own.found in
      ap (find_member entry.members) (sym of_state) ∙ ap (λ (x : Entry). find_member x.members node.state) e ∙ own.member

  module _ {stage state : ℕ} {pred : Option ℕ} {label : List ℕ} where
    pub CanPut-from :
        ForSome (find_member entry.members state) (λ key. Fits nodes key stage label)
        → ForSome pred (λ key. CanCarry nodes entry.row.position label key)
        → CanPut (record { events = rows entries; nodes = nodes }) stage state event pred label
    CanPut-from fits carries =
        record {
          stands = ap is_some row_there;
          of_stage = λ key node there of_event of_state.
              let fit = fits key (member_of state key node there of_event of_state) in
              let e : node ≡ fit.node = same_value nodes key key node fit.node refl there fit.found in
              ap (λ (x : Node). x.stage) e ∙ fit.of_stage;
          carries = λ key is row at.
              let both : Some entry.row ≡ Some row = sym row_there ∙ at in
              let e : entry.row ≡ row = cc in
              subst (λ (r : Standing). CanCarry nodes r.position label key) e (carries key is);
          apart = λ key node there of_event of_state.
              let fit = fits key (member_of state key node there of_event of_state) in
              let e : node ≡ fit.node = same_value nodes key key node fit.node refl there fit.found in
              subst (λ (x : Node). IsApartFrom label x.edges) (sym e) fit.apart;
        }

    pub CanPut-fits :
        CanPut (record { events = rows entries; nodes = nodes }) stage state event pred label
        → ForSome (find_member entry.members state) (λ key. Fits nodes key stage label)
    CanPut-fits can key member =
        let was = reads.indexed.stands event entry state key reads.found member in
        record {
          node = was.node;
          found = was.found;
          of_stage = can.of_stage key was.node was.found was.of_event was.of_state;
          apart = can.apart key was.node was.found was.of_event was.of_state;
        }

    pub CanPut-carries :
        CanPut (record { events = rows entries; nodes = nodes }) stage state event pred label
        → ForSome pred (λ key. CanCarry nodes entry.row.position label key)
    CanPut-carries can key is = can.carries key is entry.row row_there

-- what is left of a slab's values adds to the successors
abbrev pub weight_of_entry : ℕ → List ℕ → ℕ × Node → ℕ
weight_of_entry key label entry = count_by (is_successor key label) entry.1.edges

pub successors-entries :
    (key : ℕ) (label : List ℕ) (from : ℕ) (nodes : List (Option Node))
    → sum_by (weight_of_entry key label) (entries_from from nodes) ≡ successors nodes key label
successors-entries key label from [] = refl
successors-entries key label from (None ∷ nodes) =
    omega (arith, sum_by-cons (weight key label) None nodes, successors-entries key label (from + 1) nodes)
successors-entries key label from (Some node ∷ nodes) =
    omega (
      arith,
      sum_by-cons (weight key label) (Some node) nodes,
      sum_by-cons (weight_of_entry key label) (from, node) (entries_from (from + 1) nodes),
      successors-entries key label (from + 1) nodes,
    )

-- the test of the node, where there is one
module _ (nodes : List (Option Node)) (node : Option ℕ) (key slot stage : ℕ) (label : List ℕ) (row : Node) where
  fit_of :
      node ≡ Some key → slot ≡ key → slot_at nodes slot ≡ Some row → ForSome node (λ k. Fits nodes k stage label)
      → (row.stage ≡ stage) × IsApartFrom label row.edges
  fit_of is same read fits =
      let fit = fits key is in
      let e : row ≡ fit.node = same_value nodes slot key row fit.node (sym same) read fit.found in
      (ap (λ (x : Node). x.stage) e ∙ fit.of_stage, subst (λ (x : Node). IsApartFrom label x.edges) (sym e) fit.apart)

  pub Fits-yes :
      (apart : Bool) → node ≡ Some key → slot ≡ key → slot_at nodes slot ≡ Some row → row.stage ≡ stage
      → IsTrue apart ↔ IsApartFrom label row.edges → IsTrue apart ↔ ForSome node (λ k. Fits nodes k stage label)
  Fits-yes apart is same read of_stage tested = (
    λ yes k there.
        let both : Some key ≡ Some k = sym is ∙ there in
        let e : key ≡ k = cc in
        record { node = row; found = ap (slot_at nodes) (sym (same ∙ e)) ∙ read; of_stage = of_stage; apart = tested.0 yes },
    λ fits. tested.1 (fit_of is same read fits).1,
  )

  pub Fits-no :
      node ≡ Some key → slot ≡ key → slot_at nodes slot ≡ Some row → row.stage ≢ stage
      → IsTrue (eqb row.stage stage) ↔ ForSome node (λ k. Fits nodes k stage label)
  Fits-no is same read differs = (
    λ yes. absurd (differs (eqb-true row.stage stage yes)),
    λ fits. absurd (differs (fit_of is same read fits).0),
  )
