use Rattle.std.proofs.Common.{ap, subst, arith, ◌-◌, drop, length, List}
use Rattle.run_step.specs.declared.runs.Run.{Run}
use Rattle.run_step.specs.Putting.{Ending}
use Rattle.run_step.proofs.EndingLaws.{ends_one, ends_all, some_ends}
use Rattle.run_step.proofs.CutLaws.{window, take-none}
use Rattle.run_step.proofs.PinLaws.{KeepsPins-refl, KeepsPins-trans}
use Rattle.run_step.proofs.group.end_between.Goals as goal

pub loop-place-init : goal.loop-place-init
loop-place-init c = record {
  ending = λ plan events holders held can. record { holders = holders; can = can };
  pins = KeepsPins-refl c.args.buffer.now;
}

pub end_run-requires : goal.end_run-requires
end_run-requires c =
    let some = c.requires.can in
    let next = window c.args.runs.now.items c.loop-place.place c.args.end c.index.result.now c.loop-place-test.true c.requires.bound c.index.ensures in
    some_ends some.plan some.events some.held c.index.result.now _ c.loop-place.buffer
    (subst (λ (l : List Run). Ending some.plan some.events some.held l c.loop-place.buffer) next
    (c.loop-place.invariant.ending some.plan some.events some.holders some.held some.can))

pub loop-place-preserved : goal.loop-place-preserved
loop-place-preserved c = record {
  ending = λ plan events holders held can.
      let next = window c.args.runs.now.items c.loop-place.place c.args.end c.index.result.now c.loop-place-test.true c.requires.bound c.index.ensures in
      let one = ends_one plan events held c.index.result.now _ c.loop-place.buffer
      (subst (λ (l : List Run). Ending plan events held l c.loop-place.buffer) next (c.loop-place.invariant.ending plan events holders held can)) in
      one.after c.end_run.new.buffer (c.end_run.ensures.held plan events one.holder one.before one.can);
  pins = KeepsPins-trans c.args.buffer.now c.loop-place.buffer c.end_run.new.buffer c.loop-place.invariant.pins c.end_run.ensures.pins;
}

pub returns-clause-held : goal.returns-clause-held
returns-clause-held c = λ plan events holders held can.
    ends_all plan events held _ c.loop-place.buffer
    (ap length (take-none (drop c.loop-place.place c.args.runs.now.items) (c.args.end - c.loop-place.place)
    (omega (arith, c.loop-place-test.false)))) (c.loop-place.invariant.ending plan events holders held can)

pub returns-clause-pins : goal.returns-clause-pins
returns-clause-pins c = c.loop-place.invariant.pins
