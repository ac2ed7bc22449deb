use Rattle.std.proofs.Common.{refl, sym, ◌∙◌, ap, subst, ◌≤◌, length, ◌∷◌, ◌++◌, [], to_z-of_z}
use Rattle.std.specs.Prelude.{All, ◌<◌, ◌^◌, Err}
use Rattle.std.proofs.lemmas.Result.{err_from_is_err_and}
use Rattle.cep_event.specs.declared.record.Moment.TheVariants.{At}
use Rattle.cep_plan.specs.declared.plan.Plan.{Plan}
use Rattle.cep_plan.specs.Skipping.{list_in}
use Rattle.cep_plan.specs.Tick.{mark_tick}
use Rattle.cep_plan.specs.Keys.{kept_at}
use Rattle.cep_engine.specs.State.{StandsFor}
use Rattle.event_pipeline.specs.declared.outputs.TellFault.TheVariants.{NoMemory}
use Rattle.sharing_laws.specs.Sizes.{sizes_after, sizes_from}
use Rattle.event_pipeline.specs.Shown.{Shows}
use Rattle.event_pipeline.proofs.ShortLaws.{mark-short}
use Rattle.event_pipeline.proofs.ShownLaws.{shows-none}
use Rattle.event_pipeline.proofs.TickLaws.{takes-one, takes-none, same-fault}
use Rattle.event_pipeline.proofs.ticks.take_mark.Goals as goal

pub tick_taken-requires-clause-few : goal.tick_taken-requires-clause-few
tick_taken-requires-clause-few g c = subst (λ (p : Plan). length p.stages ≤ 65536) (sym c.mark_items.ensures.plan) c.requires.ready.few

pub tick_taken-requires-clause-short : goal.tick_taken-requires-clause-short
tick_taken-requires-clause-short g c =
    let ticks = c.requires.stands.0 in
    subst (All (λ item. length (list_in item) < 2 ^ 32)) (sym ((c.in_ok-items.ensures.taken ticks c.requires.stands.1).1
    ∙ ap (λ t. kept_at c.args.engine.now.plan ticks (mark_tick (At t))) (to_z-of_z c.ranges.time)))
    (mark-short c.args.engine.now.plan ticks (At c.args.time) c.args.engine.now c.requires.stands.1 c.requires.room)

pub returns-clause-taken : goal.returns-clause-taken
returns-clause-taken g c = λ ticks stands.
    let told = c.in_ok-items.ensures.taken ticks stands in
    let time = to_z-of_z c.ranges.time in
    takes-one g.O.Outputs.tells g.O.Outputs.stops c.mark_items.new.engine.plan c.args.engine.now.plan ticks
    (mark_tick (At c.args.time)) c.mark_items.new.engine (c.args.outputs.now, c.args.to.now) (c.tick_taken.new.outputs, c.tick_taken.new.to)
    c.in_ok-items.items c.tick_taken.result c.mark_items.ensures.plan (subst
    (λ t. StandsFor (ticks ++ mark_tick (At t) ∷ []) c.mark_items.new.engine) time told.0)
    (told.1 ∙ ap (λ t. kept_at c.args.engine.now.plan ticks (mark_tick (At t))) time) c.tick_taken.ensures.told

pub returns-in_err-items-clause-taken : goal.returns-in_err-items-clause-taken
returns-in_err-items-clause-taken g c = λ ticks stands.
    let p = err_from_is_err_and c.from_residual.result c.from_residual.ensures.1 in
    takes-none (g.O.Outputs.tells c.args.engine.now.plan) (g.O.Outputs.stops c.args.engine.now.plan) c.args.engine.now.plan ticks
    (mark_tick (At c.args.time) ∷ []) c.mark_items.new.engine (c.args.outputs.now, c.args.to.now) c.from_residual.result
    (p.1 ∙ ap (λ e. Err e) (p.2 ∙ same-fault c.in_err-items.field-0.0 NoMemory c.in_err-items.ensures.fault))

pub returns-clause-shown : goal.returns-clause-shown
returns-clause-shown g c = λ ticks stands.
    let told = c.in_ok-items.ensures.taken ticks stands in
    let time = to_z-of_z c.ranges.time in
    let now = subst (λ t. StandsFor (ticks ++ mark_tick (At t) ∷ []) c.mark_items.new.engine) time told.0 in
    subst (λ (p : Plan). Shows (g.G.Gauge.seen c.args.gauge.now) (g.G.Gauge.seen c.tick_taken.new.gauge)
    (sizes_after p (ticks ++ mark_tick (At c.args.time) ∷ []) ∷ []) c.tick_taken.result) c.mark_items.ensures.plan
    (c.tick_taken.ensures.shown (ticks ++ mark_tick (At c.args.time) ∷ []) now)

pub returns-in_err-items-clause-shown : goal.returns-in_err-items-clause-shown
returns-in_err-items-clause-shown g c = λ ticks stands.
    let p = err_from_is_err_and c.from_residual.result c.from_residual.ensures.1 in
    shows-none _ _ (sizes_from c.args.engine.now.plan ticks (mark_tick (At c.args.time) ∷ [])) p.0 c.from_residual.result refl p.1
