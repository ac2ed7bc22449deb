use Rattle.std.proofs.Common.{refl}
use Rattle.run_step.proofs.ShowLaws.{show_has, show_full, show_not}
use Rattle.run_step.proofs.PinLaws.{KeepsPins-refl, KeepsPins-released}
use Rattle.run_step.proofs.begun.show.Goals as goal

pub release-requires : goal.release-requires
release-requires c =
    let some = c.requires in
    show_has some.plan some.events some.holder some.held c.args.one c.args.buffer.now some.can c.facts.ensures

pub returns-then-full-clause-shown : goal.returns-then-full-clause-shown
returns-then-full-clause-shown c = λ plan events holder held can.
    show_full plan events holder held c.args.one c.args.buffer.now can c.args.full c.if-full.true c.args.tips.now c.push.new.self _
    c.in_ok-push.ensures.ok refl refl

pub returns-clause-shown : goal.returns-clause-shown
returns-clause-shown c = λ plan events holder held can.
    show_not plan events holder held c.args.one c.args.buffer.now can c.args.full c.if-full.false c.args.tips.now c.release.new.self
    c.release.ensures.consistent c.release.ensures.exact c.release.ensures.events

pub returns-then-full-clause-pins : goal.returns-then-full-clause-pins
returns-then-full-clause-pins c = KeepsPins-refl c.args.buffer.now

pub returns-clause-pins : goal.returns-clause-pins
returns-clause-pins c = KeepsPins-released c.args.buffer.now c.release.new.self c.release.ensures.events
