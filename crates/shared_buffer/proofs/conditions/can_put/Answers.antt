use Rattle.std.proofs.Common.{◌≡◌, true, false, sym, ◌∙◌}
use Rattle.shared_buffer.proofs.ConditionLaws.{event_read, member_stands, CanPut-from, CanPut-fits, CanPut-carries}
use Rattle.shared_buffer.proofs.conditions.can_put.Goals as goal

pub fits_node-requires : goal.fits_node-requires
fits_node-requires c =
    λ key found.
    member_stands (event_read c.requires c.slot.ensures (sym c.in-Some.ensures)) c.args.state key (sym c.find.ensures ∙ found)

pub returns-then-fits_node : goal.returns-then-fits_node
returns-then-fits_node c =
    let reads = event_read c.requires c.slot.ensures (sym c.in-Some.ensures) in
    let fits = rw c.find.ensures at (c.fits_node.ensures.0 c.if-fits_node.true) in (
      λ yes. CanPut-from reads fits (c.is_carried.ensures.0 yes),
      λ can. c.is_carried.ensures.1 (CanPut-carries reads can),
    )

pub returns-else-fits_node : goal.returns-else-fits_node
returns-else-fits_node c =
    let reads = event_read c.requires c.slot.ensures (sym c.in-Some.ensures) in (
      λ yes. let bad : true ≡ false = sym yes ∙ c.if-fits_node.false in absurd (cc),
      λ can. c.fits_node.ensures.1 (rw c.find.ensures (CanPut-fits reads can)),
    )
