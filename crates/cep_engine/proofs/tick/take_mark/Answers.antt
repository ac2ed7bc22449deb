use Rattle.cep_plan.specs.Keys.{kept_of}
use Rattle.cep_plan.specs.Tick.{events_of, last_time}
use Rattle.cep_engine.proofs.EventLaws.{kept_at-mark, PartsStand-mark}
use Rattle.cep_engine.proofs.tick.take_mark.Goals as goal

pub returns-clause-items : goal.returns-clause-items
returns-clause-items c = λ ticks parts.
    let plan = c.args.plan.now in
    kept_at-mark plan ticks c.args.now c.in_ok-items.items (c.in_ok-items.ensures.items (events_of ticks) (kept_of plan ticks) (last_time ticks) parts)

pub returns-clause-parts : goal.returns-clause-parts
returns-clause-parts c = λ ticks parts later.
    let plan = c.args.plan.now in
    let told = c.in_ok-items.ensures in
    PartsStand-mark plan ticks c.args.now c.in_ok-items.items c.take_moment.new.runs c.take_moment.new.buffer c.take_moment.new.limits
    (told.items (events_of ticks) (kept_of plan ticks) (last_time ticks) parts)
    (told.parts (events_of ticks) (kept_of plan ticks) (last_time ticks) parts later)
