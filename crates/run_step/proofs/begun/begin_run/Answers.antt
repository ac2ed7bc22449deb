use Rattle.std.proofs.Common.{refl, ap, arith, rules, w64, SFits, to_z-of_z}
use Rattle.run_step.proofs.BeginLaws.{begin_can, begin_after}
use Rattle.run_step.proofs.PinLaws.{KeepsPins-same}
use Rattle.run_step.proofs.begun.begin_run.Goals as goal

pub hold-requires : goal.hold-requires
hold-requires c =
    let some = c.requires in
    begin_can some.plan some.events some.holder some.held c.args.one.now c.args.stage
    (record { state = c.args.one.now.state; number = c.args.number }) c.args.buffer.now some.can c.facts.ensures
    (omega (arith, c.facts.ensures.few))

pub returns-clause-begun : goal.returns-clause-begun
returns-clause-begun c = λ plan events holder held can.
    let fits : SFits w64 c.args.one.now.start_ts = search rules in
    begin_after plan events holder held c.args.one.now c.args.stage (record { state = c.args.one.now.state; number = c.args.number })
    c.args.buffer.now can c.facts.ensures
    c.hold.new.self c.hold.ensures.consistent (ap (λ b. b.events) c.hold.ensures.counted) c.hold.ensures.holds _ refl refl refl
    c.in_ok-version.ensures.same refl refl refl (to_z-of_z fits) refl c.in_ok-sums.ensures.same

pub returns-clause-pins : goal.returns-clause-pins
returns-clause-pins c = KeepsPins-same c.args.buffer.now c.hold.new.self (ap (λ b. b.events) c.hold.ensures.counted)
