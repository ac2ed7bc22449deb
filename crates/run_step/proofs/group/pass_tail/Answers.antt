use Rattle.std.proofs.Common.{◌≡◌, refl, sym, ◌∙◌, ap, subst, arith, rules, length, List, ◌++◌}
use Rattle.run_step.specs.declared.runs.Run.{Run}
use Rattle.run_step.specs.Content.{IsOrdered}
use Rattle.run_step.specs.Noting.{PassingTail}
use Rattle.run_step.proofs.OrderLaws.{ordered-front, ordered-same}
use Rattle.run_step.proofs.GroupPassLaws.{tail_none, turn_asked, turn_note, turn_done, tail_all}
use Rattle.run_step.proofs.OfferLaws.{asked-offered, takes-offered, survives-offered}
use Rattle.run_step.proofs.group.pass_tail.Goals as goal

pub loop-run-init : goal.loop-run-init
loop-run-init c =
    let same : c.into_iter-run-iterator.result.rest.items ≡ c.args.tail.items = search rules in
    let counted : length c.into_iter-run-iterator.result.rest.items ≡ c.into_iter-run-iterator.result.rest.len = search rules in
    record {
      counted = counted;
      order = λ ordered. subst (λ (l : List Run). IsOrdered (c.args.runs.now.items ++ l)) (sym same) ordered;
      passed = λ events waiters can.
          subst (λ (l : List Run). PassingTail c.args.plan.now events c.args.event.now c.args.at.now.stage waiters l c.args.runs.now.items
          c.args.runs.now.items c.args.passing.now c.args.passing.now) (sym same)
          (tail_none c.args.plan.now events c.args.event.now c.args.at.now.stage c.args.position c.args.nfa.now waiters c.args.tail.items can
          c.args.runs.now.items c.args.passing.now);
    }

pub judged-fate-requires : goal.judged-fate-requires
judged-fate-requires c =
    let some = c.requires.can in
    asked-offered c.args.plan.now c.args.event.now c.args.at.now c.requires.plan c.requires.event c.in-Some.run'
    (turn_asked c.args.plan.now some.events c.args.event.now c.args.at.now.stage c.args.position c.args.nfa.now some.waiters c.args.tail.items some.can
    c.in-Some.run' c.next.new.self.rest.items c.loop-run.run-iterator.rest.items c.args.runs.now.items c.loop-run.runs.items c.args.passing.now
    c.loop-run.passing
    c.in-Some.ensures.steps.0 (c.loop-run.invariant.passed some.events some.waiters some.can))

pub note_take-requires : goal.note_take-requires
note_take-requires c =
    let taken = takes-offered c.args.plan.now c.args.event.now c.args.at.now c.requires.plan c.requires.event c.in-Some.run'
    c.args.position c.judged-fate.result.taken c.judged-fate.ensures.taken in
    let some = c.requires.can in
    turn_note c.args.plan.now some.events c.args.event.now c.args.at.now.stage c.args.position c.args.nfa.now some.waiters c.args.tail.items some.can
    c.in-Some.run' c.next.new.self.rest.items c.loop-run.run-iterator.rest.items c.args.runs.now.items c.loop-run.runs.items c.args.passing.now
    c.loop-run.passing
    c.in-Some.ensures.steps.0 (c.loop-run.invariant.passed some.events some.waiters some.can) c.judged-fate.result.taken taken

pub returns-in_err-note_take-clause-order : goal.returns-in_err-note_take-clause-order
returns-in_err-note_take-clause-order c = λ ordered. ordered-front c.loop-run.runs.items c.loop-run.run-iterator.rest.items (c.loop-run.invariant.order ordered)

pub loop-run-preserved : goal.loop-run-preserved
loop-run-preserved c =
    let taken = takes-offered c.args.plan.now c.args.event.now c.args.at.now c.requires.plan c.requires.event c.in-Some.run'
    c.args.position c.judged-fate.result.taken c.judged-fate.ensures.taken in
    let lives = survives-offered c.args.plan.now c.args.event.now c.args.at.now c.requires.plan c.requires.event c.in-Some.run'
    c.args.position c.judged-fate.result.lives c.judged-fate.ensures.lives in
    record {
      counted = let more = ap length c.in-Some.ensures.steps.0 in omega (arith, more, c.in-Some.ensures.steps.1, c.loop-run.invariant.counted);
      order = λ ordered.
          let before = subst (λ (l : List Run). IsOrdered (c.loop-run.runs.items ++ l)) c.in-Some.ensures.steps.0 (c.loop-run.invariant.order ordered) in
          c.keep_or_end.ensures.order c.next.new.self.rest.items
          (ordered-same c.loop-run.runs.items c.next.new.self.rest.items c.in-Some.run' c.note_take.new.run c.note_take.ensures.start before);
      passed = λ events waiters can.
          turn_done c.args.plan.now events c.args.event.now c.args.at.now.stage c.args.position c.args.nfa.now waiters c.args.tail.items can c.in-Some.run'
          c.next.new.self.rest.items c.loop-run.run-iterator.rest.items c.args.runs.now.items c.loop-run.runs.items c.args.passing.now
          c.loop-run.passing
          c.in-Some.ensures.steps.0 (c.loop-run.invariant.passed events waiters can) c.judged-fate.result.taken c.judged-fate.result.lives
          taken lives c.note_take.new.run c.note_take.new.passing _
          c.in_ok-note_take.ensures.noted c.note_take.ensures.ended refl c.in_ok-keep_or_end.ensures.ended c.keep_or_end.new.runs.items
          c.in_ok-keep_or_end.ensures.kept;
    }

pub returns-in_err-keep_or_end-clause-order : goal.returns-in_err-keep_or_end-clause-order
returns-in_err-keep_or_end-clause-order c = λ ordered.
    let before = subst (λ (l : List Run). IsOrdered (c.loop-run.runs.items ++ l)) c.in-Some.ensures.steps.0 (c.loop-run.invariant.order ordered) in
    ordered-front c.keep_or_end.new.runs.items c.next.new.self.rest.items
    (c.keep_or_end.ensures.order c.next.new.self.rest.items
    (ordered-same c.loop-run.runs.items c.next.new.self.rest.items c.in-Some.run' c.note_take.new.run c.note_take.ensures.start before))

pub returns-clause-order : goal.returns-clause-order
returns-clause-order c = λ ordered. ordered-front c.loop-run.runs.items c.loop-run.run-iterator.rest.items (c.loop-run.invariant.order ordered)

pub returns-clause-passed : goal.returns-clause-passed
returns-clause-passed c = λ events waiters front can are.
    tail_all c.args.plan.now events c.args.event.now c.args.at.now.stage c.args.position c.args.nfa.now waiters c.args.tail.items can
    c.loop-run.run-iterator.rest.items c.args.runs.now.items c.loop-run.runs.items c.args.passing.now c.loop-run.passing
    (c.loop-run.invariant.counted ∙ c.in-None.ensures.steps.0) (c.loop-run.invariant.passed events waiters can) front are
