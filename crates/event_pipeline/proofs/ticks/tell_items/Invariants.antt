-- The items so far were told.
use Rattle.std.proofs.Common.{take, map}
use Rattle.event_pipeline.specs.Telling.{AreTold}
use Rattle.event_pipeline.specs.Told.{item_told}
use Rattle.event_pipeline.proofs.ticks.tell_items.Given as goal

abbrev pub invariant-loop-item : goal.invariant-loop-item
invariant-loop-item g l = AreTold (g.O.Outputs.tells l.plan) (l.initial.outputs, l.initial.to) (l.outputs, l.to)
    (map item_told (take l.item-index l.item-items))
