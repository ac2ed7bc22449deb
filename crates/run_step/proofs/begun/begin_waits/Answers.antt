use Rattle.std.proofs.Common.{refl, sym, ap, subst, arith, ◌+◌, ℕ, List}
use Rattle.nfa_compile.specs.declared.nfa.Wait.{Wait}
use Rattle.run_step.specs.Beginning.{CanBeginSome, HasBegunWaits}
use Rattle.run_step.proofs.WaitsLaws.{waits_short, waits_none, waits_some, waits_turn, take-all}
use Rattle.run_step.proofs.PinLaws.{KeepsPins-refl, KeepsPins-trans}
use Rattle.run_step.proofs.begun.begin_waits.Goals as goal

pub loop-wait-init : goal.loop-wait-init
loop-wait-init c = record {
  counted = refl;
  begun = λ plan events holder held can. waits_none plan events holder held c.args.one.now c.args.waits.now c.args.buffer.now can c.args.fresh.now.items;
  pins = KeepsPins-refl c.args.buffer.now;
}

pub begin_run-requires : goal.begin_run-requires
begin_run-requires c =
    let some = c.requires in
    subst (λ (n : ℕ). CanBeginSome c.args.one.now c.wait-item.result.stage (record { state = c.args.one.now.state; number = n }) c.loop-wait.buffer)
    (sym c.loop-wait.invariant.counted)
    (waits_some some.plan some.events some.holder some.held c.args.one.now c.args.waits.now c.args.buffer.now some.can c.loop-wait.wait-index
    c.wait-item.result c.loop-wait-test.true c.wait-item.is
    c.args.fresh.now.items c.loop-wait.fresh.items c.loop-wait.buffer (c.loop-wait.invariant.begun some.plan some.events some.holder some.held some.can))

pub overflow_add-number : goal.overflow_add-number
overflow_add-number c =
    let some = c.requires in
    let short = waits_short some.plan some.events some.holder some.held c.args.one.now c.args.waits.now c.args.buffer.now some.can in
    record { fits = omega (arith, short, c.loop-wait-test.true, c.loop-wait.invariant.counted) }

pub loop-wait-preserved : goal.loop-wait-preserved
loop-wait-preserved c = record {
  counted = ap (λ n. n + 1) c.loop-wait.invariant.counted;
  begun = λ plan events holder held can.
      waits_turn plan events holder held c.args.one.now c.args.waits.now c.args.buffer.now can c.loop-wait.wait-index c.wait-item.result
      c.loop-wait-test.true c.wait-item.is c.args.fresh.now.items c.loop-wait.fresh.items c.loop-wait.buffer
      (c.loop-wait.invariant.begun plan events holder held can) c.loop-wait.number c.loop-wait.invariant.counted c.in_ok-begin_run.field-0
      c.begin_run.new.buffer c.in_ok-begin_run.ensures.begun c.push.new.self.items c.in_ok-push.ensures.items;
  pins = KeepsPins-trans c.args.buffer.now c.loop-wait.buffer c.begin_run.new.buffer c.loop-wait.invariant.pins c.in_ok-begin_run.ensures.pins;
}

pub returns-clause-begun : goal.returns-clause-begun
returns-clause-begun c = λ plan events holder held can.
    let all = take-all c.args.waits.now c.loop-wait.wait-index (omega (arith, c.loop-wait-test.false)) in
    subst (λ (l : List Wait). HasBegunWaits plan events holder held l c.args.fresh.now.items c.loop-wait.fresh.items c.loop-wait.buffer) all
    (c.loop-wait.invariant.begun plan events holder held can)

pub returns-clause-pins : goal.returns-clause-pins
returns-clause-pins c = c.loop-wait.invariant.pins
