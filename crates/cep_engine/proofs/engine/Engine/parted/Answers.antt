use Rattle.std.proofs.Common.{sym, ◌∙◌, ap, subst, ◌++◌}
use Rattle.cep_event.specs.declared.record.Moment.TheVariants.{End}
use Rattle.cep_plan.specs.Keys.{kept_at}
use Rattle.cep_plan.specs.Tick.{mark_tick}
use Rattle.cep_engine.specs.Standing.{PartsStand}
use Rattle.cep_engine.proofs.engine.Engine.parted.Goals as goal

pub returns-clause-items : goal.returns-clause-items
returns-clause-items c = λ ticks stands.
    let parts = subst (λ v. PartsStand v.plan ticks v.runs v.buffer v.limits) (sym c.engine.view_is) stands.parts in
    c.in_ok-append.ensures.ok ∙ ap (λ r. c.engine.inside.items ++ r) (c.in_ok-made.ensures.items ticks parts)
    ∙ ap (λ v. v.items ++ kept_at v.plan ticks (mark_tick End)) c.engine.view_is
