use Rattle.std.proofs.Common.{refl, sym, ◌∙◌}
use Rattle.run_step.proofs.SumsLaws.{taken_inside}
use Rattle.run_step.proofs.PassLaws.{noted_none, noted_one, bump_fits}
use Rattle.run_step.proofs.passed.note_take.Goals as goal

pub returns-then-not-taken-clause-noted : goal.returns-then-not-taken-clause-noted
returns-then-not-taken-clause-noted c = λ events waiter can.
    let plan = c.args.plan.now in
    noted_none plan events c.args.event.now c.args.position waiter c.args.run.now c.args.nfa.now c.args.taken can c.if-not-taken.true
    c.args.passing.now.takes.items

pub overflow_add-run : goal.overflow_add-run
overflow_add-run c =
    let some = c.requires in
    record { fits = bump_fits c.args.plan.now some.events c.args.event.now c.args.position some.waiter c.args.run.now c.args.nfa.now c.args.taken some.can }

pub returns-clause-noted : goal.returns-clause-noted
returns-clause-noted c = λ events waiter can.
    let plan = c.args.plan.now in
    noted_one plan events c.args.event.now c.args.position waiter c.args.run.now c.args.nfa.now c.args.taken can c.if-not-taken.false
    c.args.passing.now.takes.items c.push.new.self.items c.in_ok-noted.noted
    (c.in_ok-noted.ensures events waiter can.can
    (taken_inside plan events c.args.event.now waiter
    (sym can.taken_is ∙ c.if-not-taken.false))) c.in_ok-push.ensures.items _ refl refl refl refl refl refl refl refl refl
