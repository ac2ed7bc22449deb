use Rattle.std.proofs.Common.{refl}
use Rattle.std.specs.Prelude.{Err}
use Rattle.event_pipeline.specs.declared.outputs.TellFault.TheVariants.{NoMemory}
use Rattle.sharing_laws.specs.Sizes.{sizes_after}
use Rattle.event_pipeline.proofs.ShownLaws.{shows-one, shows-none}
use Rattle.event_pipeline.proofs.ticks.show.Goals as goal

pub returns-in-Ok-clause-shown : goal.returns-in-Ok-clause-shown
returns-in-Ok-clause-shown g c = λ ticks stands.
    shows-one _ _ _ (sizes_after c.args.engine.now.plan ticks) c.held.result c.in-Ok.ensures.ok c.held.ensures.counts (c.held.ensures.sizes ticks stands)

pub returns-in-Err-clause-shown : goal.returns-in-Err-clause-shown
returns-in-Err-clause-shown g c = λ ticks stands. shows-none _ _ _ NoMemory (Err NoMemory) c.in-Err.ensures.err refl
