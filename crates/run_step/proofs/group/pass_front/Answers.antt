use Rattle.std.proofs.Common.{◌≡◌, refl, sym, ◌∙◌, rules, ◌<◌, ◌+◌, arith, Bool, true, false, not, length, length-set}
use Rattle.std.proofs.lemmas.List.{drop-set-lt}
use Rattle.std.proofs.lemmas.Grind.{drop_more_same}
use Rattle.run_step.proofs.OrderLaws.{ordered-set}
use Rattle.run_step.proofs.GroupPassLaws.{passed_none, front_asked, front_note, front_done}
use Rattle.run_step.proofs.OfferLaws.{asked-offered, takes-offered, survives-offered}
use Rattle.run_step.proofs.group.pass_front.Goals as goal

not-false : (b : Bool) → not b ≡ false → b ≡ true
not-false true e = refl
not-false false e = sym e

pub loop-place-init : goal.loop-place-init
loop-place-init c = record {
  sized = refl;
  rest = refl;
  order = λ ordered. ordered;
  passed = λ events waiters can. passed_none c.args.plan.now events c.args.event.now c.args.at.now.stage c.args.passing.now;
}

pub judged-fate-requires : goal.judged-fate-requires
judged-fate-requires c =
    let some = c.requires.can in
    let within : c.loop-place.place < length c.args.runs.now.items = search rules in
    asked-offered c.args.plan.now c.args.event.now c.args.at.now c.requires.plan c.requires.event c.index_mut-run.result.now
    (front_asked c.args.plan.now some.events c.args.event.now c.args.at.now.stage c.args.position c.args.nfa.now some.waiters c.args.runs.now.items some.can
    c.loop-place.runs.items c.loop-place.place c.index_mut-run.result.now c.loop-place.invariant.sized c.loop-place.invariant.rest within
    c.index_mut-run.ensures.value)

pub note_take-requires : goal.note_take-requires
note_take-requires c =
    let taken = takes-offered c.args.plan.now c.args.event.now c.args.at.now c.requires.plan c.requires.event c.index_mut-run.result.now
    c.args.position c.judged-fate.result.taken c.judged-fate.ensures.taken in
    let some = c.requires.can in
    let within : c.loop-place.place < length c.args.runs.now.items = search rules in
    front_note c.args.plan.now some.events c.args.event.now c.args.at.now.stage c.args.position c.args.nfa.now some.waiters c.args.runs.now.items some.can
    c.loop-place.runs.items c.loop-place.place c.index_mut-run.result.now c.loop-place.invariant.sized c.loop-place.invariant.rest within
    c.index_mut-run.ensures.value
    c.judged-fate.result.taken taken

pub loop-place-preserved : goal.loop-place-preserved
loop-place-preserved c =
    let taken = takes-offered c.args.plan.now c.args.event.now c.args.at.now c.requires.plan c.requires.event c.index_mut-run.result.now
    c.args.position c.judged-fate.result.taken c.judged-fate.ensures.taken in
    let lives = survives-offered c.args.plan.now c.args.event.now c.args.at.now c.requires.plan c.requires.event c.index_mut-run.result.now
    c.args.position c.judged-fate.result.lives c.judged-fate.ensures.lives in
    let within : c.loop-place.place < length c.args.runs.now.items = search rules in
    record {
      sized = length-set c.loop-place.runs.items c.loop-place.place c.note_take.new.run ∙ c.loop-place.invariant.sized;
      rest = drop-set-lt (c.loop-place.place + 1) c.loop-place.runs.items c.loop-place.place c.note_take.new.run (omega arith)
          ∙ drop_more_same c.loop-place.runs.items c.args.runs.now.items c.loop-place.place c.loop-place.invariant.rest;
      order =
          λ ordered. ordered-set c.loop-place.runs.items c.loop-place.place c.index_mut-run.result.now c.note_take.new.run
          c.index_mut-run.ensures.value c.note_take.ensures.start (c.loop-place.invariant.order ordered);
      passed = λ events waiters can.
          front_done c.args.plan.now events c.args.event.now c.args.at.now.stage c.args.position c.args.nfa.now waiters c.args.runs.now.items can
          c.loop-place.runs.items c.loop-place.place c.index_mut-run.result.now c.loop-place.invariant.sized c.loop-place.invariant.rest within
          c.index_mut-run.ensures.value
          c.judged-fate.result.taken c.judged-fate.result.lives taken lives
          (not-false c.judged-fate.result.lives c.if-not-fate.false) c.note_take.new.run c.args.passing.now c.loop-place.passing
          c.note_take.new.passing
          c.in_ok-note_take.ensures.noted c.note_take.ensures.ended (c.loop-place.invariant.passed events waiters can);
    }
