use Rattle.std.proofs.Common.{sym, ◌∙◌, ap, subst, rules}
use Rattle.sharing_laws.specs.Sharing.{SharesExactly}
use Rattle.sharing_laws.specs.Sizes.{sizes_after}
use Rattle.cep_engine.specs.State.{StandsFor}
use Rattle.cep_engine.proofs.SharingLaws.{parts_share}
use Rattle.cep_engine.proofs.engine.Engine.held.Goals as goal

pub returns-clause-sizes : goal.returns-clause-sizes
returns-clause-sizes c = λ ticks stands.
    let inside = subst (StandsFor ticks) (sym c.self.view_is) stands in
    (search rules)
    ∙ (parts_share c.self.inside.plan ticks c.self.inside.runs c.self.inside.buffer c.self.inside.limits inside.parts c.facts.ensures).sizes
    ∙ ap (λ v. sizes_after v.plan ticks) c.self.view_is

pub returns-clause-shares : goal.returns-clause-shares
returns-clause-shares c = λ ticks stands.
    let inside = subst (StandsFor ticks) (sym c.self.view_is) stands in
    subst (λ v. SharesExactly v.plan ticks v.runs v.buffer) c.self.view_is
    (parts_share c.self.inside.plan ticks c.self.inside.runs c.self.inside.buffer c.self.inside.limits inside.parts c.facts.ensures)
