use Rattle.std.proofs.Common.{refl, ap, subst}
use Rattle.cep_event.specs.declared.event.Event.{Event}
use Rattle.run_step.specs.Content.{Content}
use Rattle.run_step.specs.Stepping.{PassedTo}
use Rattle.run_step.specs.Content.{in_groups}
use Rattle.run_step.proofs.WholePassLaws.{firsts_can, groups_can, whole_passed}
use Rattle.run_step.proofs.advance.passed.Goals as goal

pub begin-requires : goal.begin-requires
begin-requires c =
    let some = c.requires.stands in
    record {
      events = some.events;
      can =
          firsts_can c.args.plan.now some.events some.waiters c.args.nfa.now c.args.runs.now some.can c.runs.inside.position c.as_slice.result.now
          c.runs.inside.bumps.items c.runs.inside.empty (ap (λ (v : Content). v.position) c.runs.view_is) c.as_slice.ensures
          (ap (λ (v : Content). v.bumps) c.runs.view_is) (ap (λ (v : Content). v.empty) c.runs.view_is);
    }

pub pass_groups-requires : goal.pass_groups-requires
pass_groups-requires c =
    let some = c.requires.stands in
    record {
      events = some.events;
      waiters = some.waiters;
      can =
          groups_can c.args.plan.now some.events some.waiters c.args.nfa.now c.args.runs.now some.can c.runs.inside.position
          (in_groups c.runs.inside.groups.items) (ap (λ (v : Content). v.position) c.runs.view_is) (ap (λ (v : Content). v.runs) c.runs.view_is)
          c.requires.room;
    }

pub returns : goal.returns
returns c = λ events waiters row found can.
    let p = ap (λ (v : Content). v.position) c.runs.view_is in
    let firsts = c.in_ok-begin.ensures events (firsts_can c.args.plan.now events waiters c.args.nfa.now c.args.runs.now can c.runs.inside.position c.as_slice.result.now c.runs.inside.bumps.items c.runs.inside.empty p c.as_slice.ensures (ap (λ (v : Content). v.bumps) c.runs.view_is) (ap (λ (v : Content). v.empty) c.runs.view_is)) in
    let groups = c.in_ok-pass_groups.ensures events waiters (groups_can c.args.plan.now events waiters c.args.nfa.now c.args.runs.now can c.runs.inside.position (in_groups c.runs.inside.groups.items) p (ap (λ (v : Content). v.runs) c.runs.view_is) c.requires.room) in
    let made = whole_passed c.args.plan.now events waiters c.args.nfa.now c.args.runs.now can c.event-row.result.now c.begin.new.bumps.items c.new-passing.result.takes.items c.begin.new.takes.items c.new-passing.ensures.takes firsts
    (record { takes = c.begin.new.takes; ended = c.new-passing.result.ended }) c.pass_groups.new.passing refl c.new-passing.ensures.ended
    (in_groups c.pass_groups.new.groups.items) groups c.runs.inside.position c.runs.inside.empty p (ap (λ (v : Content). v.empty) c.runs.view_is)
    in
    subst (λ (e : Event). PassedTo c.args.plan.now events e waiters c.args.runs.now
    (record {
      runs = in_groups c.pass_groups.new.groups.items;
      bumps = c.begin.new.bumps.items;
      position = c.runs.inside.position;
      empty =
          c.runs.inside.empty;
    }) c.pass_groups.new.passing.takes.items c.pass_groups.new.passing.ended.items) (c.event-row.ensures row found) made
