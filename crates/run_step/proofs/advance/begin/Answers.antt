use Rattle.std.proofs.Common.{sym, ◌∙◌, rules, w64, SFits, to_z-of_z, []}
use Rattle.live_laws.specs.Survival.{takes}
use Rattle.run_step.proofs.FirstLaws.{firsts_none, first_some, firsts_turn, firsts_all}
use Rattle.run_step.proofs.SumsLaws.{first-keeps}
use Rattle.run_step.proofs.advance.begin.Goals as goal

pub loop-number-init : goal.loop-number-init
loop-number-init c =
    λ events can. firsts_none c.args.plan.now events c.args.event.now c.args.position c.args.waits.now c.args.bumps.now.items c.args.empty.now can
    c.args.takes.now.items

pub judged_list-fate-requires : goal.judged_list-fate-requires
judged_list-fate-requires c = c.requires.can.empty_is.asked

pub note_first-requires : goal.note_first-requires
note_first-requires c =
    let some = c.requires in
    first_some c.args.plan.now some.events c.args.event.now c.args.position c.args.waits.now c.args.bumps.now.items c.args.empty.now some.can
    c.loop-number.number c.index-waits-number.result c.loop-number.bumps.items c.args.takes.now.items c.loop-number.takes.items
    (c.loop-number.invariant some.events some.can) c.loop-number-test.true c.index-waits-number.is c.index.result.now c.index.ensures

pub loop-number-preserved : goal.loop-number-preserved
loop-number-preserved c = λ events can.
    let fits : SFits w64 c.args.event.now.ts = search rules in
    firsts_turn c.args.plan.now events c.args.event.now c.args.position c.args.waits.now c.args.bumps.now.items c.args.empty.now can
    c.loop-number.number c.index-waits-number.result c.loop-number.bumps.items c.args.takes.now.items c.loop-number.takes.items
    (c.loop-number.invariant events can) c.loop-number-test.true c.index-waits-number.is c.index.result.now c.index.ensures
    c.judged_list-fate.result.taken
    (c.judged_list-fate.ensures.taken [] (first-keeps c.args.plan.now c.args.event.now c.args.empty.now can.empty_is _ (to_z-of_z fits))
    ∙ (λ i. takes c.args.plan.now [] (sym c.index-waits-number.is i).stage c.args.event.now c.args.position))
    c.in_ok-bumps.field-0 c.note_first.new.takes.items c.in_ok-bumps.ensures

pub returns : goal.returns
returns c = λ events can.
    firsts_all c.args.plan.now events c.args.event.now c.args.position c.args.waits.now c.args.bumps.now.items c.args.empty.now can
    c.loop-number.number c.loop-number.bumps.items c.args.takes.now.items c.loop-number.takes.items c.loop-number-test.false
    (c.loop-number.invariant events can)
