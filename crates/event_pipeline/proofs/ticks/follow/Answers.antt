use Rattle.std.proofs.Common.{◌++◌, ◌∷◌, [], subst, sym, ap, ◌∙◌, rules, to_z-of_z, SFits, w64}
use Rattle.std.specs.Prelude.{Ok}
use Rattle.cep_plan.specs.EventTime.{arrived, marked, ticks_after}
use Rattle.sharing_laws.specs.Sizes.{sizes_from}
use Rattle.event_pipeline.specs.Shown.{Shows}
use Rattle.event_pipeline.specs.Ticks.{Meets}
use Rattle.event_pipeline.proofs.RecordLaws.{met-nothing}
use Rattle.event_pipeline.proofs.ShownLaws.{shows-nothing}
use Rattle.event_pipeline.proofs.ticks.follow.Goals as goal

pub returns-in-Some-clause-met : goal.returns-in-Some-clause-met
returns-in-Some-clause-met g c = λ lag before event ticks is stands.
    let fits : SFits w64 c.in-Some.time = search rules in
    subst (λ l. Meets (g.O.Outputs.tells c.args.engine.now.plan) (g.O.Outputs.stops c.args.engine.now.plan) c.args.engine.now.plan lag
    (before ++ arrived event ∷ []) l ticks c.rise.new.order c.rise.new.engine (c.args.outputs.now, c.args.to.now)
    (c.rise.new.outputs, c.rise.new.to) c.rise.result)
    (ap (λ t. marked t ∷ []) (to_z-of_z fits) ∙ c.in-Some.ensures.behind lag before event is)
    (c.rise.ensures.met lag (before ++ arrived event ∷ []) ticks is stands)

pub returns-in-None-clause-met : goal.returns-in-None-clause-met
returns-in-None-clause-met g c = λ lag before event ticks is stands.
    met-nothing (g.O.Outputs.tells c.args.engine.now.plan) c.args.engine.now.plan lag
    (before ++ arrived event ∷ []) ticks c.args.order.now c.args.engine.now (c.args.outputs.now, c.args.to.now) _
    (sym (c.in-None.ensures.behind lag before event is)) is stands

pub returns-in-Some-clause-shown : goal.returns-in-Some-clause-shown
returns-in-Some-clause-shown g c = λ lag before event ticks is stands.
    let fits : SFits w64 c.in-Some.time = search rules in
    subst (λ l. Shows (g.G.Gauge.seen c.args.gauge.now) (g.G.Gauge.seen c.rise.new.gauge)
    (sizes_from c.args.engine.now.plan ticks (ticks_after (before ++ arrived event ∷ []) l)) c.rise.result)
    (ap (λ t. marked t ∷ []) (to_z-of_z fits) ∙ c.in-Some.ensures.behind lag before event is)
    (c.rise.ensures.shown lag (before ++ arrived event ∷ []) ticks is stands)

pub returns-in-None-clause-shown : goal.returns-in-None-clause-shown
returns-in-None-clause-shown g c = λ lag before event ticks is stands.
    subst (λ l. Shows (g.G.Gauge.seen c.args.gauge.now) (g.G.Gauge.seen c.args.gauge.now)
    (sizes_from c.args.engine.now.plan ticks (ticks_after (before ++ arrived event ∷ []) l)) (Ok 0))
    (c.in-None.ensures.behind lag before event is) (shows-nothing (g.G.Gauge.seen c.args.gauge.now))
