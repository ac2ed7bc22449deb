use Rattle.std.proofs.Common.{sym, ◌∙◌, arith, rules, ◌<◌, ◌^◌}
use Rattle.run_step.specs.Noting.{first_waiter}
use Rattle.run_step.proofs.SumsLaws.{taken_inside}
use Rattle.run_step.proofs.FirstLaws.{first_bump, first_none, first_one, first_waits}
use Rattle.run_step.proofs.passed.note_first.Goals as goal

pub returns-then-not-taken : goal.returns-then-not-taken
returns-then-not-taken c = λ events stage can is.
    let plan = c.args.plan.now in
    first_none plan events c.args.position c.args.waits.now c.args.number stage c.args.bump c.args.empty.now can c.args.event.now
    (first_waits plan events c.args.position c.args.waits.now c.args.number stage c.args.bump c.args.empty.now can) c.args.taken is
    c.if-not-taken.true c.args.takes.now.items

pub overflow_add-result : goal.overflow_add-result
overflow_add-result c =
    let some = c.requires in
    let small : c.args.position < 2 ^ 32 = search rules in
    record {
      fits =
          omega (
            arith,
            small,
            first_bump c.args.plan.now some.events c.args.position c.args.waits.now c.args.number some.stage c.args.bump
                c.args.empty.now some.can,
          );
    }

pub returns : goal.returns
returns c = λ events stage can is.
    let plan = c.args.plan.now in
    first_one plan events c.args.position c.args.waits.now c.args.number stage c.args.bump c.args.empty.now can c.args.event.now
    (first_waits plan events c.args.position c.args.waits.now c.args.number stage c.args.bump c.args.empty.now can) c.args.taken is
    c.if-not-taken.false c.args.takes.now.items c.push.new.self.items c.in_ok-noted.noted
    (c.in_ok-noted.ensures events stage can
    (taken_inside plan events c.args.event.now (first_waiter stage) (sym is ∙ c.if-not-taken.false))) c.in_ok-push.ensures.items
