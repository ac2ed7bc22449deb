use Rattle.shared_buffer.specs.Nodes.{node_up}
use Rattle.shared_buffer.proofs.HoldLaws.{AddsOneHold-up}
use Rattle.shared_buffer.proofs.HeldLaws.{HasHold-hold, KeepsHolds-hold}
use Rattle.shared_buffer.proofs.SlotLaws.{in_place}
use Rattle.shared_buffer.proofs.SoundLaws.{Found-from, IsSound-up}
use Rattle.shared_buffer.proofs.buffer.Buffer.hold.Goals as goal

pub invariant_of-self : goal.invariant_of-self
invariant_of-self c =
    let nodes = c.self.inside.nodes.slots in
    let at = Found-from nodes c.args.node c.args.version.now (rw (← c.self.view_is) at c.requires.leads) in
    rw c.count_up.ensures
    (IsSound-up c.self.invariant at)

pub returns-clause-holds : goal.returns-clause-holds
returns-clause-holds c =
    let nodes = c.self.inside.nodes.slots in
    let version = c.args.version.now in
    let at = Found-from nodes c.args.node version (rw (← c.self.view_is) at c.requires.leads) in
    rw (← c.self.view_is, c.count_up.ensures)
    (AddsOneHold-up c.self.invariant.graph at
    (in_place (node_up version) nodes c.args.node at.node at.found))

pub returns-clause-held : goal.returns-clause-held
returns-clause-held c =
    let nodes = c.self.inside.nodes.slots in
    let version = c.args.version.now in
    let at = Found-from nodes c.args.node version (rw (← c.self.view_is) at c.requires.leads) in
    (HasHold-hold c.self.invariant.graph.prefix_free c.facts.ensures.prefix_free c.args.node version at
    (rw c.count_up.ensures
    (AddsOneHold-up c.self.invariant.graph at
    (in_place (node_up version) nodes c.args.node at.node at.found))))

pub returns-clause-keeps : goal.returns-clause-keeps
returns-clause-keeps c =
    let nodes = c.self.inside.nodes.slots in
    let version = c.args.version.now in
    let at = Found-from nodes c.args.node version (rw (← c.self.view_is) at c.requires.leads) in
    rw (← c.self.view_is)
    (KeepsHolds-hold c.self.invariant.graph.prefix_free c.facts.ensures.prefix_free c.args.node version
    (rw c.count_up.ensures
    (AddsOneHold-up c.self.invariant.graph at
    (in_place (node_up version) nodes c.args.node at.node at.found))))
