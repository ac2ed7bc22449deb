use Rattle.run_step.proofs.PinLaws.{KeepsPins-released}
use Rattle.cep_engine.proofs.TipLaws.{tip_hold, tip_released}
use Rattle.cep_engine.proofs.tips.release_tip.Goals as goal

pub release-requires : goal.release-requires
release-requires c =
    let some = c.requires in
    tip_hold some.plan some.events some.holder some.held c.args.tip.now c.args.buffer.now c.facts.ensures some.is

pub returns-clause-held : goal.returns-clause-held
returns-clause-held c = λ plan events holder held is.
    tip_released plan events holder held c.args.tip.now c.args.buffer.now c.facts.ensures is _ c.release.ensures.consistent c.release.ensures.exact
    c.release.ensures.events

pub returns-clause-pins : goal.returns-clause-pins
returns-clause-pins c = KeepsPins-released c.args.buffer.now _ c.release.ensures.events
