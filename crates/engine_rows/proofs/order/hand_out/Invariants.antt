use Rattle.std.proofs.Common.{◌≡◌, ◌++◌, map, length}
use Rattle.watermark_order.specs.Order.{ready, settled}
use Rattle.engine_rows.specs.declared.order.Told.TheVariants as told_of
use Rattle.engine_rows.proofs.order.hand_out.Given as goal

abbrev pub invariant-loop-event : goal.invariant-loop-event
invariant-loop-event l =
    record {
      rows :
          l.told.items ++ map (λ event. told_of.Row event.row) (ready l.order) ≡ l.initial.told.items
          ++ map (λ event. told_of.Row event.row) (ready l.initial.order);
      order : settled l.order ≡ settled l.initial.order;
    }

abbrev pub decreases-loop-event : goal.decreases-loop-event
decreases-loop-event l = length l.order.waiting
