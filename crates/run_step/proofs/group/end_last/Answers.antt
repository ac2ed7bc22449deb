use Rattle.std.proofs.Common.{ap, rules, ◌<◌, ◌≤◌, ◌==◌, drop, length}
use Rattle.std.specs.Prelude.{filter}
use Rattle.run_step.specs.declared.runs.Run.{Run}
use Rattle.run_step.proofs.EndingLaws.{ends_all}
use Rattle.run_step.proofs.CutLaws.{ends_part, part_some, next-passing, none-passing}
use Rattle.run_step.proofs.PinLaws.{KeepsPins-refl, KeepsPins-trans}
use Rattle.run_step.proofs.group.end_last.Goals as goal

pub loop-place-init : goal.loop-place-init
loop-place-init c = record {
  ending = λ plan events holders held can. record { holders = holders; can = can };
  pins = KeepsPins-refl c.args.buffer.now;
}

pub end_at-requires : goal.end_at-requires
end_at-requires c =
    let some = c.requires in
    let within : c.loop-place.place < length c.args.runs.now.items = search rules in
    part_some some.plan some.events some.held _ _ _ c.loop-place.buffer
    (next-passing (λ (run : Run). run.last.position == c.args.last) c.args.runs.now.items c.loop-place.place c.index.result.now within c.index.ensures)
    (c.loop-place.invariant.ending some.plan some.events some.holders some.held some.can)

pub loop-place-preserved : goal.loop-place-preserved
loop-place-preserved c = record {
  ending = λ plan events holders held can.
      let within : c.loop-place.place < length c.args.runs.now.items = search rules in
      let part = ends_part plan events held _ _ _ c.loop-place.buffer
      (next-passing (λ (run : Run). run.last.position == c.args.last) c.args.runs.now.items c.loop-place.place c.index.result.now within c.index.ensures)
      (c.loop-place.invariant.ending plan events holders held can) in
      part.after c.end_at.new.buffer (c.end_at.ensures.held plan events part.holders part.before part.can);
  pins = KeepsPins-trans c.args.buffer.now c.loop-place.buffer c.end_at.new.buffer c.loop-place.invariant.pins c.end_at.ensures.pins;
}

pub returns-clause-held : goal.returns-clause-held
returns-clause-held c = λ plan events holders held can.
    let all : length c.args.runs.now.items ≤ c.loop-place.place = search rules in
    ends_all plan events held (filter (λ (run : Run). run.last.position == c.args.last) (drop c.loop-place.place c.args.runs.now.items)) c.loop-place.buffer
    (ap length (none-passing (λ (run : Run). run.last.position == c.args.last) c.args.runs.now.items c.loop-place.place all))
    (c.loop-place.invariant.ending plan events holders held can)

pub returns-clause-pins : goal.returns-clause-pins
returns-clause-pins c = c.loop-place.invariant.pins
