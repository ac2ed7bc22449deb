use Rattle.std.proofs.Common.{sym, arith}
use Rattle.shared_buffer.proofs.PutPremises.{asked, OnNode, WithNode}
use Rattle.shared_buffer.proofs.PutLaws.{node_stands, node_apart, placed_leads, placed_room, placed_adds, on_node, pushed_sound, pushed_puts, with_node, filled_sound, filled_puts}
use Rattle.shared_buffer.proofs.HeldLaws.{HasHold-edge, KeepsHolds-edge}
use Rattle.shared_buffer.proofs.buffer.Buffer.put.Goals as goal

pub insert_edge-requires-clause-stands : goal.insert_edge-requires-clause-stands
insert_edge-requires-clause-stands c =
    let can = rw (← c.self.view_is) at c.requires in
    let put = asked c.self.invariant can c.slot.ensures c.index-entry.ensures in
    node_stands put c.in-Some.node (sym c.in-Some.ensures)

pub insert_edge-requires-clause-apart : goal.insert_edge-requires-clause-apart
insert_edge-requires-clause-apart c =
    let can = rw (← c.self.view_is) at c.requires in
    let put = asked c.self.invariant can c.slot.ensures c.index-entry.ensures in
    node_apart put c.in-Some.node (sym c.in-Some.ensures) c.in_ok-copy.field-0 c.in_ok-copy.ensures.same

pub count_pred-requires-clause-leads : goal.count_pred-requires-clause-leads
count_pred-requires-clause-leads c =
    let can = rw (← c.self.view_is) at c.requires in
    let put = asked c.self.invariant can c.slot.ensures c.index-entry.ensures in
    let on : OnNode put =
    record {
      key = c.in-Some.node;
      member = sym c.in-Some.ensures;
      copy = c.in_ok-copy.field-0;
      copied = c.in_ok-copy.ensures.same;
      pushed = c.insert_edge.new.nodes.slots;
      pushed_is = c.in_ok-insert_edge-in-Some.ensures.ok;
    } in
    placed_leads put (on_node put on)

pub count_pred-requires-clause-room : goal.count_pred-requires-clause-room
count_pred-requires-clause-room c =
    let can = rw (← c.self.view_is) at c.requires in
    let put = asked c.self.invariant can c.slot.ensures c.index-entry.ensures in
    let on : OnNode put =
    record {
      key = c.in-Some.node;
      member = sym c.in-Some.ensures;
      copy = c.in_ok-copy.field-0;
      copied = c.in_ok-copy.ensures.same;
      pushed = c.insert_edge.new.nodes.slots;
      pushed_is = c.in_ok-insert_edge-in-Some.ensures.ok;
    } in
    placed_room put (on_node put on)

pub invariant_of-self-in-Some : goal.invariant_of-self-in-Some
invariant_of-self-in-Some c =
    let can = rw (← c.self.view_is) at c.requires in
    let put = asked c.self.invariant can c.slot.ensures c.index-entry.ensures in
    let on : OnNode put =
    record {
      key = c.in-Some.node;
      member = sym c.in-Some.ensures;
      copy = c.in_ok-copy.field-0;
      copied = c.in_ok-copy.ensures.same;
      pushed = c.insert_edge.new.nodes.slots;
      pushed_is = c.in_ok-insert_edge-in-Some.ensures.ok;
    } in
    pushed_sound put on c.count_pred.new.nodes.slots c.count_pred.ensures (omega arith)

pub returns-in_ok-insert_edge-in-Some-clause-ok : goal.returns-in_ok-insert_edge-in-Some-clause-ok
returns-in_ok-insert_edge-in-Some-clause-ok c =
    let can = rw (← c.self.view_is) at c.requires in
    let put = asked c.self.invariant can c.slot.ensures c.index-entry.ensures in
    let on : OnNode put =
    record {
      key = c.in-Some.node;
      member = sym c.in-Some.ensures;
      copy = c.in_ok-copy.field-0;
      copied = c.in_ok-copy.ensures.same;
      pushed = c.insert_edge.new.nodes.slots;
      pushed_is = c.in_ok-insert_edge-in-Some.ensures.ok;
    } in
    rw (← c.self.view_is) (pushed_puts put on c.count_pred.new.nodes.slots c.count_pred.ensures)

pub count_pred-requires-in-None-clause-leads : goal.count_pred-requires-in-None-clause-leads
count_pred-requires-in-None-clause-leads c =
    let can = rw (← c.self.view_is) at c.requires in
    let put = asked c.self.invariant can c.slot.ensures c.index-entry.ensures in
    let new : WithNode put =
    record {
      absent = sym c.in-None.ensures;
      key = c.in_ok-node-in-None.node;
      reserved = c.reserve_node.new.nodes.slots;
      reserved_is = c.in_ok-node-in-None.ensures.same;
      vacant = c.in_ok-node-in-None.ensures.vacant;
      copy = c.in_ok-copy.field-0;
      copied = c.in_ok-copy.ensures.same;
      edges = c.in_ok-edges-in-None.edges;
      single = c.in_ok-edges-in-None.ensures;
      filled = c.fill_node.new.nodes.slots;
      fill = c.fill_node.ensures;
    } in
    placed_leads put (with_node put new)

pub count_pred-requires-in-None-clause-room : goal.count_pred-requires-in-None-clause-room
count_pred-requires-in-None-clause-room c =
    let can = rw (← c.self.view_is) at c.requires in
    let put = asked c.self.invariant can c.slot.ensures c.index-entry.ensures in
    let new : WithNode put =
    record {
      absent = sym c.in-None.ensures;
      key = c.in_ok-node-in-None.node;
      reserved = c.reserve_node.new.nodes.slots;
      reserved_is = c.in_ok-node-in-None.ensures.same;
      vacant = c.in_ok-node-in-None.ensures.vacant;
      copy = c.in_ok-copy.field-0;
      copied = c.in_ok-copy.ensures.same;
      edges = c.in_ok-edges-in-None.edges;
      single = c.in_ok-edges-in-None.ensures;
      filled = c.fill_node.new.nodes.slots;
      fill = c.fill_node.ensures;
    } in
    placed_room put (with_node put new)

pub invariant_of-self-in-None : goal.invariant_of-self-in-None
invariant_of-self-in-None c =
    let can = rw (← c.self.view_is) at c.requires in
    let put = asked c.self.invariant can c.slot.ensures c.index-entry.ensures in
    let new : WithNode put =
    record {
      absent = sym c.in-None.ensures;
      key = c.in_ok-node-in-None.node;
      reserved = c.reserve_node.new.nodes.slots;
      reserved_is = c.in_ok-node-in-None.ensures.same;
      vacant = c.in_ok-node-in-None.ensures.vacant;
      copy = c.in_ok-copy.field-0;
      copied = c.in_ok-copy.ensures.same;
      edges = c.in_ok-edges-in-None.edges;
      single = c.in_ok-edges-in-None.ensures;
      filled = c.fill_node.new.nodes.slots;
      fill = c.fill_node.ensures;
    } in
    filled_sound put new c.push_member.new.entries.slots c.in_ok-push_member-in-None.ensures.ok
    c.count_pred-in-None.new.nodes.slots c.count_pred-in-None.ensures (omega arith)

pub returns-in_ok-push_member-in-None-clause-ok : goal.returns-in_ok-push_member-in-None-clause-ok
returns-in_ok-push_member-in-None-clause-ok c =
    let can = rw (← c.self.view_is) at c.requires in
    let put = asked c.self.invariant can c.slot.ensures c.index-entry.ensures in
    let new : WithNode put =
    record {
      absent = sym c.in-None.ensures;
      key = c.in_ok-node-in-None.node;
      reserved = c.reserve_node.new.nodes.slots;
      reserved_is = c.in_ok-node-in-None.ensures.same;
      vacant = c.in_ok-node-in-None.ensures.vacant;
      copy = c.in_ok-copy.field-0;
      copied = c.in_ok-copy.ensures.same;
      edges = c.in_ok-edges-in-None.edges;
      single = c.in_ok-edges-in-None.ensures;
      filled = c.fill_node.new.nodes.slots;
      fill = c.fill_node.ensures;
    } in
    rw (← c.self.view_is)
    (filled_puts put new c.push_member.new.entries.slots c.in_ok-push_member-in-None.ensures.ok
    c.count_pred-in-None.new.nodes.slots c.count_pred-in-None.ensures)

pub returns-in_ok-insert_edge-in-Some-clause-holds : goal.returns-in_ok-insert_edge-in-Some-clause-holds
returns-in_ok-insert_edge-in-Some-clause-holds c =
    let can = rw (← c.self.view_is) at c.requires in
    let put = asked c.self.invariant can c.slot.ensures c.index-entry.ensures in
    let on : OnNode put =
    record {
      key = c.in-Some.node;
      member = sym c.in-Some.ensures;
      copy = c.in_ok-copy.field-0;
      copied = c.in_ok-copy.ensures.same;
      pushed = c.insert_edge.new.nodes.slots;
      pushed_is = c.in_ok-insert_edge-in-Some.ensures.ok;
    } in
    rw (← c.self.view_is) (placed_adds put (on_node put on) c.count_pred.new.nodes.slots c.count_pred.ensures)

pub returns-in_ok-push_member-in-None-clause-holds : goal.returns-in_ok-push_member-in-None-clause-holds
returns-in_ok-push_member-in-None-clause-holds c =
    let can = rw (← c.self.view_is) at c.requires in
    let put = asked c.self.invariant can c.slot.ensures c.index-entry.ensures in
    let new : WithNode put =
    record {
      absent = sym c.in-None.ensures;
      key = c.in_ok-node-in-None.node;
      reserved = c.reserve_node.new.nodes.slots;
      reserved_is = c.in_ok-node-in-None.ensures.same;
      vacant = c.in_ok-node-in-None.ensures.vacant;
      copy = c.in_ok-copy.field-0;
      copied = c.in_ok-copy.ensures.same;
      edges = c.in_ok-edges-in-None.edges;
      single = c.in_ok-edges-in-None.ensures;
      filled = c.fill_node.new.nodes.slots;
      fill = c.fill_node.ensures;
    } in
    rw (← c.self.view_is)
    (placed_adds put (with_node put new) c.count_pred-in-None.new.nodes.slots c.count_pred-in-None.ensures)

pub returns-in_ok-insert_edge-in-Some-clause-held : goal.returns-in_ok-insert_edge-in-Some-clause-held
returns-in_ok-insert_edge-in-Some-clause-held c =
    let can = rw (← c.self.view_is) at c.requires in
    let put = asked c.self.invariant can c.slot.ensures c.index-entry.ensures in
    let on : OnNode put =
    record {
      key = c.in-Some.node;
      member = sym c.in-Some.ensures;
      copy = c.in_ok-copy.field-0;
      copied = c.in_ok-copy.ensures.same;
      pushed = c.insert_edge.new.nodes.slots;
      pushed_is = c.in_ok-insert_edge-in-Some.ensures.ok;
    } in
    HasHold-edge c.self.invariant.graph.prefix_free c.facts-in-Some.ensures.prefix_free
    c.in-Some.node _ (placed_adds put (on_node put on) c.count_pred.new.nodes.slots c.count_pred.ensures)

pub returns-in_ok-insert_edge-in-Some-clause-keeps : goal.returns-in_ok-insert_edge-in-Some-clause-keeps
returns-in_ok-insert_edge-in-Some-clause-keeps c =
    let can = rw (← c.self.view_is) at c.requires in
    let put = asked c.self.invariant can c.slot.ensures c.index-entry.ensures in
    let on : OnNode put =
    record {
      key = c.in-Some.node;
      member = sym c.in-Some.ensures;
      copy = c.in_ok-copy.field-0;
      copied = c.in_ok-copy.ensures.same;
      pushed = c.insert_edge.new.nodes.slots;
      pushed_is = c.in_ok-insert_edge-in-Some.ensures.ok;
    } in
    rw (← c.self.view_is)
    (KeepsHolds-edge c.self.invariant.graph.prefix_free c.facts-in-Some.ensures.prefix_free
    c.in-Some.node _ (placed_adds put (on_node put on) c.count_pred.new.nodes.slots c.count_pred.ensures))

pub returns-in_ok-push_member-in-None-clause-held : goal.returns-in_ok-push_member-in-None-clause-held
returns-in_ok-push_member-in-None-clause-held c =
    let can = rw (← c.self.view_is) at c.requires in
    let put = asked c.self.invariant can c.slot.ensures c.index-entry.ensures in
    let new : WithNode put =
    record {
      absent = sym c.in-None.ensures;
      key = c.in_ok-node-in-None.node;
      reserved = c.reserve_node.new.nodes.slots;
      reserved_is = c.in_ok-node-in-None.ensures.same;
      vacant = c.in_ok-node-in-None.ensures.vacant;
      copy = c.in_ok-copy.field-0;
      copied = c.in_ok-copy.ensures.same;
      edges = c.in_ok-edges-in-None.edges;
      single = c.in_ok-edges-in-None.ensures;
      filled = c.fill_node.new.nodes.slots;
      fill = c.fill_node.ensures;
    } in
    HasHold-edge c.self.invariant.graph.prefix_free
    c.facts-in-None.ensures.prefix_free c.in_ok-node-in-None.node _
    (placed_adds put (with_node put new) c.count_pred-in-None.new.nodes.slots c.count_pred-in-None.ensures)

pub returns-in_ok-push_member-in-None-clause-keeps : goal.returns-in_ok-push_member-in-None-clause-keeps
returns-in_ok-push_member-in-None-clause-keeps c =
    let can = rw (← c.self.view_is) at c.requires in
    let put = asked c.self.invariant can c.slot.ensures c.index-entry.ensures in
    let new : WithNode put =
    record {
      absent = sym c.in-None.ensures;
      key = c.in_ok-node-in-None.node;
      reserved = c.reserve_node.new.nodes.slots;
      reserved_is = c.in_ok-node-in-None.ensures.same;
      vacant = c.in_ok-node-in-None.ensures.vacant;
      copy = c.in_ok-copy.field-0;
      copied = c.in_ok-copy.ensures.same;
      edges = c.in_ok-edges-in-None.edges;
      single = c.in_ok-edges-in-None.ensures;
      filled = c.fill_node.new.nodes.slots;
      fill = c.fill_node.ensures;
    } in
    rw (← c.self.view_is)
    (KeepsHolds-edge c.self.invariant.graph.prefix_free
    c.facts-in-None.ensures.prefix_free c.in_ok-node-in-None.node _
    (placed_adds put (with_node put new) c.count_pred-in-None.new.nodes.slots c.count_pred-in-None.ensures))
