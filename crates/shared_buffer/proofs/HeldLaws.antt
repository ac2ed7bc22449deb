-- What has a hold after a put, a hold and a release.
use Rattle.std.proofs.Common.{◌≡◌, ℕ, ◌<◌, true, List, Option, refl, ap, sym, ◌∙◌, subst, inl, inr, arith}
use Rattle.dewey_version.specs.Version.{begins}
use Rattle.dewey_version.proofs.VersionLaws.{begins-refl}
use Rattle.shared_buffer.specs.Edges.{leads}
use Rattle.shared_buffer.specs.Graph.{Stands}
use Rattle.shared_buffer.specs.Chain.{holds}
use Rattle.shared_buffer.specs.Chain.IsOnChain.{Last}
use Rattle.shared_buffer.specs.Exact.{AddsOneHold, AddsOneEdge, ReleasesOneHold}
use Rattle.shared_buffer.specs.Release.{HasHold, KeepsHolds, KeepsHoldsBut}
use Rattle.shared_buffer.specs.declared.edges.Edge.{Edge}
use Rattle.shared_buffer.specs.declared.node.Node.{Node}
use Rattle.shared_buffer.proofs.ListLaws.{found_listed, found_passes}
use Rattle.shared_buffer.proofs.EdgeLaws.{found_of_listed}
use Rattle.shared_buffer.proofs.GraphLaws.{ArePrefixFree, one_of_label}
use Rattle.shared_buffer.proofs.HoldLaws.{chosen_yes, chosen_elsewhere}
use Rattle.shared_buffer.proofs.ChangePremises.{Found}

-- an edge that leads on with the version and has a hold
HasHold-of :
    (nodes : List (Option Node)) → ArePrefixFree nodes → (key : ℕ) (edge : Edge) (version : List ℕ) → Stands nodes key edge
    → begins edge.label version ≡ true → 0 < holds nodes key edge → HasHold nodes key version
HasHold-of nodes free key edge version stands goes_on some =
    record {
      node = stands.node;
      found = stands.found;
      edge = edge;
      found_edge = found_of_listed stands.node.edges edge version (free key stands.node stands.found) stands.listed goes_on;
      free = omega (arith, some);
    }

stands_of : (nodes : List (Option Node)) (key : ℕ) (version : List ℕ) (hold : HasHold nodes key version) → Stands nodes key hold.edge
stands_of nodes key version hold =
    record { node = hold.node; found = hold.found; listed = found_listed (leads version) hold.node.edges hold.edge hold.found_edge }

-- the edge of a hold has one
was_holds :
    {old : List (Option Node)} → ArePrefixFree old → (other : ℕ) (version : List ℕ) (hold : HasHold old other version) (was : Edge)
    → Stands old other was → hold.edge.label ≡ was.label → 0 < holds old other was
was_holds {old} free other version hold was stood label =
    let same : hold.edge ≡ was = one_of_label free (stands_of old other version hold) stood label in
    subst (λ (e : Edge). 0 < holds old other e) same (omega (arith, hold.free))

module _ {old new : List (Option Node)} (free_old : ArePrefixFree old) (free_new : ArePrefixFree new) where
  -- an edge that stands with as many holds as before, and a hold before
  kept_hold :
      (other : ℕ) (version : List ℕ) (hold : HasHold old other version) (kept : Edge) → Stands new other kept
      → kept.label ≡ hold.edge.label → 0 < holds new other kept → HasHold new other version
  kept_hold other version hold kept stands label some =
      HasHold-of new free_new other kept version stands
      (ap (λ l. begins l version) label ∙ found_passes (leads version) hold.node.edges hold.edge hold.found_edge) some

  pub KeepsHolds-edge : (key : ℕ) (edge : Edge) → AddsOneEdge old new key edge → KeepsHolds old new
  KeepsHolds-edge key edge adds other version hold =
      let kept = adds.stays other hold.edge (stands_of old other version hold) in
      kept_hold other version hold kept.kept kept.stands kept.same_label
      (elim (adds.stood other kept.kept kept.stands) [
        | inl itself ↦
            omega (
              arith,
              adds.one_hold,
              ap (λ k. holds new k kept.kept) itself.0,
              ap (λ (e : Edge). holds new key e) itself.1,
            )
        | inr before ↦
            omega (
              arith,
              before.same_holds,
              was_holds free_old other version hold before.was before.stood (sym kept.same_label ∙ before.same_label),
            )
      ])

  pub HasHold-edge : (key : ℕ) (edge : Edge) → AddsOneEdge old new key edge → HasHold new key edge.label
  HasHold-edge key edge adds = HasHold-of new free_new key edge edge.label adds.stands (begins-refl edge.label) (omega (arith, adds.one_hold))

  pub KeepsHolds-hold : (key : ℕ) (version : List ℕ) → AddsOneHold old new key version → KeepsHolds old new
  KeepsHolds-hold key version adds other another hold =
      let kept = adds.stays other hold.edge (stands_of old other another hold) in
      let before = adds.stood other kept.kept kept.stands in
      kept_hold other another hold kept.kept kept.stands kept.same_label
      (omega (arith, before.same_holds, was_holds free_old other another hold before.was before.stood (sym kept.same_label ∙ before.same_label)))

  pub HasHold-hold : (key : ℕ) (version : List ℕ) → Found old key version → AddsOneHold old new key version → HasHold new key version
  HasHold-hold key version at adds =
      let goes_on = found_passes (leads version) at.node.edges at.edge at.found_edge in
      let kept =
      adds.stays key at.edge (record { node = at.node; found = at.found; listed = found_listed (leads version) at.node.edges at.edge at.found_edge }) in
      let before = adds.stood key kept.kept kept.stands in
      let leads_on : begins kept.kept.label version ≡ true = ap (λ l. begins l version) kept.same_label ∙ goes_on in
      HasHold-of new free_new key kept.kept version kept.stands leads_on
      (omega (arith, before.same_holds, chosen_yes key version key kept.kept.label refl leads_on))

  pub KeepsHoldsBut-release : (key : ℕ) (version : List ℕ) → ReleasesOneHold old new key version → KeepsHoldsBut key old new
  KeepsHoldsBut-release key version releases other another differs hold =
      let stands = stands_of old other another hold in
      let none = chosen_elsewhere key version other hold.edge.label differs in
      let kept =
      (releases.stays other hold.edge stands).1
      (record { last_key = other; last = hold.edge; chain = Last stands; is_held = omega (arith, hold.free, none) }) in
      let before = releases.stood other kept.kept kept.stands in
      kept_hold other another hold kept.kept kept.stands kept.same_label
      (omega (
        arith,
        before.same_holds,
        chosen_elsewhere key version other kept.kept.label differs,
        was_holds free_old other another hold before.was before.stood (sym kept.same_label ∙ before.same_label),
      ))
