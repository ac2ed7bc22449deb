use Rattle.shared_buffer.proofs.ExactLaws.{ReleasesOneHold-from}
use Rattle.shared_buffer.proofs.HeldLaws.{KeepsHoldsBut-release}
use Rattle.shared_buffer.proofs.RunLaws.{Awaits-first, Awaits-step, used_before_step, KeepsEvents-trans, edges_if-falls}
use Rattle.shared_buffer.proofs.buffer.Buffer.release.Goals as goal

pub loop-next-init : goal.loop-next-init
loop-next-init c =
    let first = c.release_one-next in
    record {
      events = first.ensures.events;
      nodes =
          Awaits-first c.args.version.now c.args.self.now.nodes first.new.self.nodes c.args.node first.result
          first.ensures.ends first.ensures.goes_on first.ensures.hold;
    }

pub loop-next-preserved : goal.loop-next-preserved
loop-next-preserved c =
    let version = c.args.version.now in
    let before = c.loop-next.self in
    let key = c.in-Some.key in
    let step = c.release_one-next-in-Some in
    let waits = rw c.in-Some.is at c.loop-next.invariant.nodes in
    record {
      events =
          KeepsEvents-trans c.args.self.now.events before.events step.new.self.events before.nodes step.new.self.nodes
          c.loop-next.invariant.events step.ensures.events
          (used_before_step version before.nodes step.new.self.nodes key step.result step.ensures.ends step.ensures.goes_on);
      nodes =
          Awaits-step version c.args.self.now.nodes before.nodes step.new.self.nodes c.args.node key step.result waits.1
          (Awaits-first version before.nodes step.new.self.nodes key step.result step.ensures.ends step.ensures.goes_on step.ensures.hold);
    }

pub loop-next-smaller : goal.loop-next-smaller
loop-next-smaller c =
    let step = c.release_one-next-in-Some in
    rw c.in-Some.is (edges_if-falls c.loop-next.self.nodes step.new.self.nodes c.in-Some.key step.result step.ensures.fewer)

pub returns-clause-exact : goal.returns-clause-exact
returns-clause-exact c =
    let done = rw c.in_default.is at c.loop-next.invariant.nodes in
    rw (← c.self.view_is)
    (ReleasesOneHold-from c.args.version.now c.loop-next.self.nodes c.self.inside.nodes.slots c.args.node c.self.invariant.graph
    (rw (← c.self.view_is) at c.requires) (rw (← c.self.view_is) at done))

pub returns-clause-keeps : goal.returns-clause-keeps
returns-clause-keeps c =
    let done = rw c.in_default.is at c.loop-next.invariant.nodes in
    rw (← c.self.view_is)
    (KeepsHoldsBut-release c.self.invariant.graph.prefix_free c.facts.ensures.prefix_free c.args.node c.args.version.now
    (ReleasesOneHold-from c.args.version.now c.loop-next.self.nodes c.self.inside.nodes.slots c.args.node c.self.invariant.graph
    (rw (← c.self.view_is) at c.requires) (rw (← c.self.view_is) at done)))
