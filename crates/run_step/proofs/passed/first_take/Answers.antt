use Rattle.std.proofs.Common.{refl, ◌∙◌, ap, arith, rules, w64, SFits, to_z-of_z, ℕ, List}
use Rattle.run_step.specs.Taking.{label_after}
use Rattle.run_step.proofs.TakeLaws.{got_at}
use Rattle.run_step.proofs.FirstLaws.{first_within, first_few, first_room, first_is}
use Rattle.run_step.proofs.passed.first_take.Goals as goal

pub bounds-waits-number : goal.bounds-waits-number
bounds-waits-number c = let some = c.requires in
    first_within c.args.plan.now some.events c.args.position c.args.waits.now c.args.number some.stage c.args.bump c.args.empty.now some.can

pub label_after-requires-clause-waits : goal.label_after-requires-clause-waits
label_after-requires-clause-waits c = let some = c.requires in
    first_few c.args.plan.now some.events c.args.position c.args.waits.now c.args.number some.stage c.args.bump c.args.empty.now some.can

pub label_after-requires-clause-number : goal.label_after-requires-clause-number
label_after-requires-clause-number c = let some = c.requires in
    omega (
      arith,
      first_within c.args.plan.now some.events c.args.position c.args.waits.now c.args.number some.stage c.args.bump c.args.empty.now
          some.can,
    )

pub digit_after-requires-clause-waits : goal.digit_after-requires-clause-waits
digit_after-requires-clause-waits c = let some = c.requires in
    first_few c.args.plan.now some.events c.args.position c.args.waits.now c.args.number some.stage c.args.bump c.args.empty.now some.can

pub after-requires : goal.after-requires
after-requires c = let some = c.requires in
    first_room c.args.plan.now some.events c.args.position c.args.waits.now c.args.number some.stage c.args.bump c.args.empty.now some.can

pub returns : goal.returns
returns c = λ events stage can known.
    let plan = c.args.plan.now in
    let fits : SFits w64 c.args.event.now.ts = search rules in
    let within = first_within plan events c.args.position c.args.waits.now c.args.number stage c.args.bump c.args.empty.now can in
    let got = got_at c.args.waits.now c.args.number c.index-waits-number.result within c.index-waits-number.is in
    first_is plan events c.args.position c.args.waits.now c.args.number stage c.args.bump c.args.empty.now can known c.args.event.now
    c.index-waits-number.result got _
    refl refl refl
    (c.in_ok-label_after.ensures
    ∙ ap (λ (v : List ℕ). label_after c.args.waits.now c.args.number c.index-waits-number.result v 0 c.args.bump) c.empty-version.ensures)
    c.digit_after.ensures refl (to_z-of_z fits)
    (λ i. record { stage = c.index-waits-number.result.stage; position = c.args.position; ts = to_z-of_z fits i }) c.in_ok-after.ensures.asked c.in_ok-after.ensures.stands
