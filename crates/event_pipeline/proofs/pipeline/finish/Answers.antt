use Rattle.std.proofs.Common.{sym, ◌∙◌, ap, subst, ◌<◌, ◌^◌, ◌++◌, length, map}
use Rattle.std.specs.Prelude.{All}
use Rattle.cep_event.specs.declared.record.Moment.TheVariants.{End}
use Rattle.cep_plan.specs.Keys.{kept_at}
use Rattle.cep_plan.specs.Skipping.{list_in}
use Rattle.cep_plan.specs.Tick.{mark_tick}
use Rattle.event_pipeline.specs.Telling.{Tells}
use Rattle.event_pipeline.specs.Told.{item_told}
use Rattle.event_pipeline.proofs.ShortLaws.{mark-short}
use Rattle.event_pipeline.proofs.TellLaws.{cut-first}
use Rattle.event_pipeline.proofs.pipeline.finish.Goals as goal

pub tell_items-requires-clause-short : goal.tell_items-requires-clause-short
tell_items-requires-clause-short g c =
    let ticks = c.requires.stands.0 in
    let all = c.in-Ok.ensures.items ticks c.requires.stands.1 in
    subst (All (λ item. length (list_in item) < 2 ^ 32)) (sym (all ∙ ap (λ l. l ++ kept_at c.args.engine.plan ticks (mark_tick End)) c.requires.ready.drained))
    (mark-short c.args.engine.plan ticks End c.args.engine c.requires.stands.1 c.requires.room)

pub returns-in-Ok : goal.returns-in-Ok
returns-in-Ok g c = λ ticks stands.
    let all = c.in-Ok.ensures.items ticks stands in
    let items = all ∙ ap (λ l. l ++ kept_at c.args.engine.plan ticks (mark_tick End)) c.requires.ready.drained in
    subst (λ l. Tells (g.O.Outputs.tells c.args.engine.plan) (g.O.Outputs.stops c.args.engine.plan) (c.args.outputs.now, c.args.to.now)
    (c.tell_items.new.outputs, c.tell_items.new.to) (map item_told l) c.tell_items.result) items
    (subst (λ p. Tells (g.O.Outputs.tells p) (g.O.Outputs.stops p) (c.args.outputs.now, c.args.to.now) (c.tell_items.new.outputs, c.tell_items.new.to)
    (map item_told c.in-Ok.items) c.tell_items.result) c.in-Ok.ensures.plan c.tell_items.ensures)

pub returns-in-Err-NoMemory : goal.returns-in-Err-NoMemory
returns-in-Err-NoMemory g c = λ ticks stands.
    cut-first (g.O.Outputs.tells c.args.engine.plan) (g.O.Outputs.stops c.args.engine.plan) (c.args.outputs.now, c.args.to.now)
    (map item_told (kept_at c.args.engine.plan ticks (mark_tick End)))
