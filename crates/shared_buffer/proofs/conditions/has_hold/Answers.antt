use Rattle.std.proofs.Common.{sym}
use Rattle.shared_buffer.proofs.ChangePremises.{Found, read_found}
use Rattle.shared_buffer.proofs.ReleaseLaws.{hold_is_free}
use Rattle.shared_buffer.proofs.GraphLaws.{counted_enough}
use Rattle.shared_buffer.proofs.conditions.has_hold.Goals as goal

pub is_counted_more-requires : goal.is_counted_more-requires
is_counted_more-requires c =
    let at : Found c.args.nodes.now.slots c.args.node c.args.version.now =
    read_found c.slot.ensures (sym c.in-Some.ensures) (sym c.in-Some-get.ensures) in
    counted_enough c.requires at

pub returns-in-Some-get : goal.returns-in-Some-get
returns-in-Some-get c =
    let nodes = c.args.nodes.now.slots in
    let at : Found nodes c.args.node c.args.version.now =
    read_found c.slot.ensures (sym c.in-Some.ensures) (sym c.in-Some-get.ensures) in (
      λ yes.
          record {
            node = at.node;
            found = at.found;
            edge = at.edge;
            found_edge = at.found_edge;
            free = c.is_counted_more.ensures.0 yes;
          },
      λ hold. c.is_counted_more.ensures.1 (hold_is_free hold at),
    )
