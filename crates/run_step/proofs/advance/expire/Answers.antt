use Rattle.std.proofs.Common.{ap}
use Rattle.run_step.specs.Content.{Content, in_groups}
use Rattle.run_step.proofs.KillLaws.{due_cut, kill-some, kill-all, kill-now}
use Rattle.run_step.proofs.advance.expire.Goals as goal

pub expire_groups-requires : goal.expire_groups-requires
expire_groups-requires c =
    let some = c.requires in
    let how = some.somehow in
    kill-some some.plan how.events how.scope how.tips c.args.runs.now c.args.buffer.now how.stands (due_cut some.plan how.events how.scope c.args.due)
    (in_groups c.runs.inside.groups.items) (ap (λ (v : Content). v.runs) c.runs.view_is)

pub returns-clause-stands : goal.returns-clause-stands
returns-clause-stands c = λ plan events scope tips stands.
    kill-all plan events scope tips c.args.runs.now c.args.buffer.now stands (due_cut plan events scope c.args.due)
    (in_groups c.runs.inside.groups.items) c.expire_groups.new.buffer _
    (record {
      runs_are = ap (λ (v : Content). v.runs) c.runs.view_is;
      told = c.expire_groups.ensures.held;
      left_runs = c.expire_groups.ensures.runs;
      left_bumps = ap (λ (v : Content). v.bumps) c.runs.view_is;
      left_position = ap (λ (v : Content). v.position) c.runs.view_is;
      left_empty = ap (λ (v : Content). v.empty) c.runs.view_is;
    })

pub returns-clause-now : goal.returns-clause-now
returns-clause-now c = λ plan events scope tips before.
    kill-now plan events scope tips c.args.runs.now c.args.buffer.now before.stands before.none_ahead (due_cut plan events scope c.args.due)
    (in_groups c.runs.inside.groups.items) c.expire_groups.new.buffer _
    (record {
      runs_are = ap (λ (v : Content). v.runs) c.runs.view_is;
      told = c.expire_groups.ensures.held;
      left_runs = c.expire_groups.ensures.runs;
      left_bumps = ap (λ (v : Content). v.bumps) c.runs.view_is;
      left_position = ap (λ (v : Content). v.position) c.runs.view_is;
      left_empty = ap (λ (v : Content). v.empty) c.runs.view_is;
    })

pub returns-clause-position : goal.returns-clause-position
returns-clause-position c = ap (λ (v : Content). v.position) c.runs.view_is

pub returns-clause-pins : goal.returns-clause-pins
returns-clause-pins c = c.expire_groups.ensures.pins
