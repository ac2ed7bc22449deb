use Rattle.run_step.proofs.PuttingLaws.{end_has, end_after}
use Rattle.run_step.proofs.PinLaws.{KeepsPins-released}
use Rattle.run_step.proofs.put.end_run.Goals as goal

pub release-requires : goal.release-requires
release-requires c =
    let some = c.requires in
    end_has some.plan some.events some.holder some.held c.args.run.now c.args.buffer.now some.can c.facts.ensures

pub returns-clause-held : goal.returns-clause-held
returns-clause-held c = λ plan events holder held can.
    end_after plan events holder held c.args.run.now c.args.buffer.now _ can c.release.ensures.consistent c.release.ensures.exact c.release.ensures.events

pub returns-clause-pins : goal.returns-clause-pins
returns-clause-pins c = KeepsPins-released c.args.buffer.now c.release.new.self c.release.ensures.events
