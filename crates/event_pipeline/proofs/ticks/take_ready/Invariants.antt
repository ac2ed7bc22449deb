-- The events that were handed over, with the sizes after them shown and their items told, and those that are still ready.
use Rattle.std.proofs.Common.{◌≡◌, ◌++◌, ℤ, List, Some, length, map}
use Rattle.std.specs.Prelude.{Ok}
use Rattle.cep_event.specs.declared.event.Event.{Event}
use Rattle.cep_event.specs.declared.record.Moment.TheVariants.{At}
use Rattle.cep_plan.specs.Tick.{Tick, event_tick}
use Rattle.cep_engine.specs.State.{StandsFor, IsNotBefore}
use Rattle.watermark_order.specs.Order.{ready, settled}
use Rattle.event_pipeline.specs.Running.{CanTake, taken_and_waiting}
use Rattle.sharing_laws.specs.Sizes.{sizes_from}
use Rattle.event_pipeline.specs.Shown.{Shows}
use Rattle.event_pipeline.specs.Ticks.{HasTaken}
use Rattle.event_pipeline.proofs.ticks.take_ready.Given as goal

abbrev pub invariant-loop-event : goal.invariant-loop-event
invariant-loop-event g l =
    record {
      settles : settled l.order ≡ settled l.initial.order;
      plan : l.engine.plan ≡ l.initial.engine.plan;
      takes : CanTake l.order.waiting l.engine;
      kept : taken_and_waiting l.order.waiting l.engine ≡ taken_and_waiting l.initial.order.waiting l.initial.engine;
      last : (time : ℤ) → l.initial.order.mark ≡ Some (At time) → IsNotBefore l.initial.engine.last time → IsNotBefore l.engine.last time;
      taken :
          (ticks : List Tick) → StandsFor ticks l.initial.engine
          → (handed : List Event) × (ready l.initial.order ≡ handed ++ ready l.order)
          × HasTaken (g.O.Outputs.tells l.initial.engine.plan) l.initial.engine.plan ticks (map event_tick handed) l.engine (l.initial.outputs, l.initial.to)
          (l.outputs, l.to)
          × Shows (g.G.Gauge.seen l.initial.gauge) (g.G.Gauge.seen l.gauge) (sizes_from l.initial.engine.plan ticks (map event_tick handed)) (Ok l.greatest);
    }

abbrev pub decreases-loop-event : goal.decreases-loop-event
decreases-loop-event g l = length l.order.waiting
