use Rattle.std.proofs.Common.{◌≤◌, sym, ◌∙◌, ap, subst, length, map}
use Rattle.std.specs.Prelude.{Ok, Err}
use Rattle.std.proofs.lemmas.Result.{err_from_is_err_and}
use Rattle.cep_plan.specs.declared.plan.Plan.{Plan}
use Rattle.event_pipeline.specs.declared.outputs.TellFault.TheVariants.{NoMemory}
use Rattle.event_pipeline.specs.Telling.{StopsAmong, Tells}
use Rattle.event_pipeline.specs.Told.{item_told}
use Rattle.event_pipeline.proofs.ShownLaws.{shows-whole, shows-err}
use Rattle.event_pipeline.proofs.TellLaws.{told-none, tells-err}
use Rattle.event_pipeline.proofs.TickLaws.{same-fault}
use Rattle.event_pipeline.proofs.ticks.tick_taken.Goals as goal

pub tell_items-requires-clause-few : goal.tell_items-requires-clause-few
tell_items-requires-clause-few g c = subst (λ (p : Plan). length p.stages ≤ 65536) (sym c.plan.ensures) c.requires.few

pub returns-clause-told : goal.returns-clause-told
returns-clause-told g c =
    subst (λ (p : Plan). Tells (g.O.Outputs.tells p) (g.O.Outputs.stops p) (c.args.outputs.now, c.args.to.now) (c.tell_items.new.outputs, c.tell_items.new.to)
    (map item_told c.args.items) (Ok c.in_ok-held.held)) c.plan.ensures c.in_ok-tell_items.ensures

pub returns-in_err-held-clause-told : goal.returns-in_err-held-clause-told
returns-in_err-held-clause-told g c =
    let p = err_from_is_err_and c.from_residual.result c.from_residual.ensures.1 in
    told-none (g.O.Outputs.tells c.args.engine.now.plan) (g.O.Outputs.stops c.args.engine.now.plan) (c.args.outputs.now, c.args.to.now)
    (map item_told c.args.items) c.from_residual.result
    (p.1 ∙ ap (λ e. Err e) (p.2 ∙ same-fault c.in_err-held.field-0.0 NoMemory c.in_err-held.ensures.fault))

pub returns-in_err-held-clause-shown : goal.returns-in_err-held-clause-shown
returns-in_err-held-clause-shown g c = λ ticks stands.
    let p = err_from_is_err_and c.from_residual.result c.from_residual.ensures.1 in
    shows-err _ _ _ c.in_err-held.field-0.0 p.0 c.from_residual.result (c.in_err-held.ensures.shown ticks stands) p.1

pub returns-in_err-tell_items-clause-told : goal.returns-in_err-tell_items-clause-told
returns-in_err-tell_items-clause-told g c =
    let p = err_from_is_err_and c.from_residual-in_err-tell_items.result c.from_residual-in_err-tell_items.ensures.1 in
    tells-err (g.O.Outputs.tells c.args.engine.now.plan) (g.O.Outputs.stops c.args.engine.now.plan) (c.args.outputs.now, c.args.to.now)
    (c.tell_items.new.outputs, c.tell_items.new.to) (map item_told c.args.items) c.in_err-tell_items.field-0.0 c.from_residual-in_err-tell_items.result
    (subst (λ (p : Plan). StopsAmong (g.O.Outputs.tells p) (g.O.Outputs.stops p) c.in_err-tell_items.field-0.0 (c.args.outputs.now, c.args.to.now)
    (c.tell_items.new.outputs, c.tell_items.new.to) (map item_told c.args.items)) c.plan.ensures c.in_err-tell_items.ensures)
    (p.1 ∙ ap (λ e. Err e) p.2)

pub returns-in_err-tell_items-clause-shown : goal.returns-in_err-tell_items-clause-shown
returns-in_err-tell_items-clause-shown g c = λ ticks stands.
    let p = err_from_is_err_and c.from_residual-in_err-tell_items.result c.from_residual-in_err-tell_items.ensures.1 in
    shows-whole _ _ _ p.0 c.from_residual-in_err-tell_items.result (c.in_ok-held.ensures.shown ticks stands).0 p.1
