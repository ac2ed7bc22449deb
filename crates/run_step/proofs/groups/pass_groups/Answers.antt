use Rattle.std.proofs.Common.{refl, ◌∙◌, rules, arith, ◌+◌, ◌<◌, ◌≤◌, length, length-set}
use Rattle.std.proofs.lemmas.List.{drop-set-lt}
use Rattle.std.proofs.lemmas.Grind.{drop_more_same}
use Rattle.run_step.proofs.GroupsPassLaws.{groups_none, group_some, groups_turn, groups_all}
use Rattle.run_step.proofs.groups.pass_groups.Goals as goal

pub loop-place-init : goal.loop-place-init
loop-place-init c = record {
  sized = refl;
  rest = refl;
  passed =
      λ events waiters can. groups_none c.args.plan.now events c.args.event.now c.args.position c.args.nfa.now waiters c.args.groups.now.items can
      c.args.passing.now;
}

pub pass-requires : goal.pass-requires
pass-requires c =
    let some = c.requires in
    let within : c.loop-place.place < length c.args.groups.now.items = search rules in
    group_some c.args.plan.now some.events c.args.event.now c.args.position c.args.nfa.now some.waiters c.args.groups.now.items some.can
    c.loop-place.groups.items c.loop-place.place c.index_mut.result.now c.loop-place.invariant.sized c.loop-place.invariant.rest within
    c.index_mut.ensures.value
    c.args.passing.now c.loop-place.passing (c.loop-place.invariant.passed some.events some.waiters some.can)

pub loop-place-preserved : goal.loop-place-preserved
loop-place-preserved c =
    let within : c.loop-place.place < length c.args.groups.now.items = search rules in
    record {
      sized = length-set c.loop-place.groups.items c.loop-place.place c.pass.new.self ∙ c.loop-place.invariant.sized;
      rest = drop-set-lt (c.loop-place.place + 1) c.loop-place.groups.items c.loop-place.place c.pass.new.self (omega arith)
          ∙ drop_more_same c.loop-place.groups.items c.args.groups.now.items c.loop-place.place c.loop-place.invariant.rest;
      passed = λ events waiters can.
          groups_turn c.args.plan.now events c.args.event.now c.args.position c.args.nfa.now waiters c.args.groups.now.items can
          c.loop-place.groups.items c.loop-place.place c.index_mut.result.now c.loop-place.invariant.sized c.loop-place.invariant.rest within
          c.index_mut.ensures.value
          c.args.passing.now c.loop-place.passing (c.loop-place.invariant.passed events waiters can) c.pass.new.self c.pass.new.passing
          c.in_ok-pass.ensures.stage c.in_ok-pass.ensures.passed;
    }

pub returns : goal.returns
returns c = λ events waiters can.
    let all : length c.args.groups.now.items ≤ c.loop-place.place = search rules in
    groups_all c.args.plan.now events c.args.event.now c.args.position c.args.nfa.now waiters c.args.groups.now.items can c.loop-place.groups.items
    c.loop-place.place c.loop-place.invariant.sized all c.args.passing.now c.loop-place.passing (c.loop-place.invariant.passed events waiters can)
