use Rattle.std.proofs.Common.{◌∙◌, ap, subst, arith, length, List}
use Rattle.run_step.specs.declared.runs.Run.{Run}
use Rattle.run_step.specs.Putting.{Ending}
use Rattle.run_step.proofs.EndingLaws.{ends_one, ends_all, some_ends}
use Rattle.run_step.proofs.PinLaws.{KeepsPins-trans}
use Rattle.run_step.proofs.put.end_runs.Goals as goal

pub finish-requires : goal.finish-requires
finish-requires c =
    let some = c.requires in
    let ending = c.loop-run.invariant.ending some.plan some.events some.holders some.held some.can in
    some_ends some.plan some.events some.held c.in-Some.run' c.next.new.self.rest.items c.loop-run.buffer
    (subst (λ (l : List Run). Ending some.plan some.events some.held l c.loop-run.buffer) c.in-Some.ensures.steps.0 ending)

pub loop-run-preserved : goal.loop-run-preserved
loop-run-preserved c = record {
  counted = let more = ap length c.in-Some.ensures.steps.0 in omega (arith, more, c.in-Some.ensures.steps.1, c.loop-run.invariant.counted);
  ending = λ plan events holders held can.
      let one = ends_one plan events held c.in-Some.run' c.next.new.self.rest.items c.loop-run.buffer
      (subst (λ (l : List Run). Ending plan events held l c.loop-run.buffer) c.in-Some.ensures.steps.0
      (c.loop-run.invariant.ending plan events holders held can)) in
      one.after c.finish.new.buffer (c.finish.ensures.held plan events one.holder one.before one.can);
  pins = KeepsPins-trans c.args.buffer.now c.loop-run.buffer c.finish.new.buffer c.loop-run.invariant.pins c.finish.ensures.pins;
}

pub returns-clause-held : goal.returns-clause-held
returns-clause-held c = λ plan events holders held can.
    ends_all plan events held c.loop-run.run-iterator.rest.items c.loop-run.buffer (c.loop-run.invariant.counted ∙ c.in-None.ensures.steps.0)
    (c.loop-run.invariant.ending plan events holders held can)

pub returns-clause-pins : goal.returns-clause-pins
returns-clause-pins c = c.loop-run.invariant.pins
