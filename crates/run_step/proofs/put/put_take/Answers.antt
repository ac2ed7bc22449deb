use Rattle.std.proofs.Common.{refl, arith, rules, w64, SFits, to_z-of_z}
use Rattle.run_step.proofs.PuttingLaws.{put_has, put_after}
use Rattle.run_step.proofs.PinLaws.{KeepsPins-same}
use Rattle.run_step.proofs.put.put_take.Goals as goal

pub put-requires : goal.put-requires
put-requires c =
    let some = c.requires in
    put_has some.plan some.events some.position c.args.event some.waiter some.waiters some.held c.args.buffer.now some.can c.facts.ensures
    c.args.take some.take_is
    (omega (arith, c.facts.ensures.few))

pub returns-clause-put : goal.returns-clause-put
returns-clause-put c = λ plan events position waiter waiters held can is.
    let told = c.in_ok-node.ensures in
    let fits : SFits w64 c.args.take.start_ts = search rules in
    put_after plan events position c.args.event waiter waiters held c.args.buffer.now can c.facts.ensures c.args.take is c.put.new.self
    c.put.ensures.consistent c.in_ok-node.node told.ok told.holds _
    refl refl refl refl refl (to_z-of_z fits) refl refl

pub returns-clause-pins : goal.returns-clause-pins
returns-clause-pins c = KeepsPins-same c.args.buffer.now c.put.new.self c.in_ok-node.ensures.ok.events
