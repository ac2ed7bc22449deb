use Rattle.std.proofs.Common.{sym, ◌∙◌}
use Rattle.event_pipeline.specs.Ticks.{told_late}
use Rattle.event_pipeline.proofs.TellLaws.{late-told, not-late, cut-first}
use Rattle.event_pipeline.proofs.ticks.arrive.Goals as goal

pub returns-in-Ok-Late-clause-told : goal.returns-in-Ok-Late-clause-told
returns-in-Ok-Late-clause-told g c = λ plan lag arrivals is.
    let answer = sym c.in-Ok-Late.field-0-is ∙ c.in-Ok-Late.ensures.answer lag arrivals is in
    late-told (g.O.Outputs.tells plan) (g.O.Outputs.stops plan) arrivals c.args.event c.in-Ok-Late.row (c.args.outputs.now, c.args.to.now)
    (c.late.new.self, c.late.new.to) c.late.result answer (c.late.ensures plan)

pub returns-in-Ok-Kept-clause-told : goal.returns-in-Ok-Kept-clause-told
returns-in-Ok-Kept-clause-told g c = λ plan lag arrivals is.
    not-late (g.O.Outputs.tells plan) arrivals c.args.event (c.args.outputs.now, c.args.to.now)
    (sym c.in-Ok-Kept.field-0-is ∙ c.in-Ok-Kept.ensures.answer lag arrivals is)

pub returns-in-Err-clause-told : goal.returns-in-Err-clause-told
returns-in-Err-clause-told g c = λ plan lag arrivals is.
    cut-first (g.O.Outputs.tells plan) (g.O.Outputs.stops plan) (c.args.outputs.now, c.args.to.now) (told_late arrivals c.args.event)
