use Rattle.std.proofs.Common.{refl, ap, rules, ◌<◌, ◌≤◌, length, drop}
use Rattle.run_step.specs.Content.{is_in_due}
use Rattle.run_step.proofs.EndingLaws.{ends_all}
use Rattle.run_step.proofs.CutLaws.{cut_of, kill_some, kill_turn, kill_set, kill_none, kill_runs}
use Rattle.run_step.proofs.PinLaws.{KeepsPins-refl, KeepsPins-trans}
use Rattle.run_step.proofs.groups.expire_groups.Goals as goal

pub loop-place-init : goal.loop-place-init
loop-place-init c = record {
  groups = refl;
  ending = λ plan events holders held can. record { holders = holders; can = can };
  pins = KeepsPins-refl c.args.buffer.now;
}

pub expire-requires : goal.expire-requires
expire-requires c =
    let some = c.requires in
    let within : c.loop-place.place < length c.args.groups.now.items = search rules in
    kill_some (is_in_due c.args.due) c.args.groups.now.items c.loop-place.groups.items c.loop-place.place c.index_mut.result.now
    c.loop-place.invariant.groups within c.index_mut.ensures.value
    some.plan some.events some.held c.loop-place.buffer (c.loop-place.invariant.ending some.plan some.events some.holders some.held some.can)

pub loop-place-preserved : goal.loop-place-preserved
loop-place-preserved c =
    let within : c.loop-place.place < length c.args.groups.now.items = search rules in
    record {
      groups =
          kill_set (is_in_due c.args.due) c.args.groups.now.items c.loop-place.groups.items c.loop-place.place c.index_mut.result.now
          c.loop-place.invariant.groups within c.index_mut.ensures.value c.expire.new.self c.expire.ensures.runs;
      ending = λ plan events holders held can.
          kill_turn (is_in_due c.args.due) c.args.groups.now.items c.loop-place.groups.items c.loop-place.place c.index_mut.result.now
          c.loop-place.invariant.groups within c.index_mut.ensures.value
          plan events held c.loop-place.buffer c.expire.new.buffer (c.loop-place.invariant.ending plan events holders held can) c.expire.ensures.held;
      pins = KeepsPins-trans c.args.buffer.now c.loop-place.buffer c.expire.new.buffer c.loop-place.invariant.pins c.expire.ensures.pins;
    }

pub returns-clause-runs : goal.returns-clause-runs
returns-clause-runs c =
    let all : length c.args.groups.now.items ≤ c.loop-place.place = search rules in
    kill_runs (is_in_due c.args.due) c.args.groups.now.items c.loop-place.groups.items c.loop-place.place all c.loop-place.invariant.groups

pub returns-clause-held : goal.returns-clause-held
returns-clause-held c = λ plan events holders held can.
    let all : length c.args.groups.now.items ≤ c.loop-place.place = search rules in
    ends_all plan events held (cut_of (is_in_due c.args.due) (drop c.loop-place.place c.args.groups.now.items)) c.loop-place.buffer
    (ap length (kill_none (is_in_due c.args.due) c.args.groups.now.items c.loop-place.place all)) (c.loop-place.invariant.ending plan events holders held can)

pub returns-clause-pins : goal.returns-clause-pins
returns-clause-pins c = c.loop-place.invariant.pins
