use Rattle.std.proofs.Common.{sym, ◌∙◌, ap, arith, rules, refl, length, w64, SFits, to_z-of_z, ◌<◌, ◌≡◌}
use Rattle.std.specs.Prelude.{slice_get}
use Rattle.nfa_compile.specs.Automaton.{waits_in}
use Rattle.run_step.specs.Taking.{label_after, digit_after}
use Rattle.run_step.proofs.TakeLaws.{number_within, waits_within, digits_few, sums_room, take_is, got_at}
use Rattle.run_step.proofs.passed.take_of.Goals as goal

pub bounds-waits-number : goal.bounds-waits-number
bounds-waits-number c =
    let some = c.requires in
    omega (
      arith,
      ap length c.waits_at-waits.ensures,
      number_within c.args.plan.now some.events c.args.event.now c.args.position some.waiter
          c.args.run.now c.args.nfa.now some.can,
    )

pub label_after-requires-clause-waits : goal.label_after-requires-clause-waits
label_after-requires-clause-waits c =
    let some = c.requires in
    omega (
      arith,
      ap length c.waits_at-waits.ensures,
      waits_within c.args.plan.now some.events c.args.event.now c.args.position some.waiter
          c.args.run.now c.args.nfa.now some.can,
    )

pub label_after-requires-clause-number : goal.label_after-requires-clause-number
label_after-requires-clause-number c =
    let some = c.requires in
    omega (
      arith,
      ap length c.waits_at-waits.ensures,
      number_within c.args.plan.now some.events c.args.event.now c.args.position some.waiter
          c.args.run.now c.args.nfa.now some.can,
    )

pub label_after-requires-clause-digit : goal.label_after-requires-clause-digit
label_after-requires-clause-digit c =
    let some = c.requires in
    digits_few c.args.plan.now some.events c.args.event.now c.args.position some.waiter c.args.run.now c.args.nfa.now some.can

pub digit_after-requires-clause-waits : goal.digit_after-requires-clause-waits
digit_after-requires-clause-waits c =
    let some = c.requires in
    omega (
      arith,
      ap length c.waits_at-waits.ensures,
      waits_within c.args.plan.now some.events c.args.event.now c.args.position some.waiter
          c.args.run.now c.args.nfa.now some.can,
    )

pub digit_after-requires-clause-digit : goal.digit_after-requires-clause-digit
digit_after-requires-clause-digit c =
    let some = c.requires in
    digits_few c.args.plan.now some.events c.args.event.now c.args.position some.waiter c.args.run.now c.args.nfa.now some.can

pub after-requires : goal.after-requires
after-requires c =
    let some = c.requires in
    sums_room c.args.plan.now some.events c.args.event.now c.args.position some.waiter c.args.run.now c.args.nfa.now some.can

pub returns : goal.returns
returns c = λ events waiter can known.
    let plan = c.args.plan.now in
    let fits : SFits w64 c.args.run.now.start_ts = search rules in
    let now : SFits w64 c.args.event.now.ts = search rules in
    let number = c.args.run.now.wait.number in
    let waits : c.waits_at-waits.result.now ≡ waits_in c.args.nfa.now c.args.run.now.wait.state = c.waits_at-waits.ensures in
    let within : number < length c.waits_at-waits.result.now =
    omega (arith, ap length waits, number_within plan events c.args.event.now c.args.position waiter c.args.run.now c.args.nfa.now can) in
    let found = got_at c.waits_at-waits.result.now number c.index-waits-number.result within c.index-waits-number.is in
    take_is plan events c.args.event.now c.args.position waiter c.args.run.now c.args.nfa.now can known c.index-waits-number.result
    (ap (λ l. slice_get l number) (sym waits) ∙ found) _
    refl refl refl
    (c.in_ok-label_after.ensures
    ∙ ap (λ l. label_after l number c.index-waits-number.result c.args.run.now.version c.args.run.now.next_digit c.args.run.now.bump) waits)
    (c.digit_after.ensures ∙ ap (λ l. digit_after l c.index-waits-number.result c.args.run.now.next_digit) waits)
    refl (to_z-of_z fits)
    (λ i. record { stage = c.index-waits-number.result.stage; position = c.args.position; ts = to_z-of_z now i }) c.in_ok-after.ensures.asked c.in_ok-after.ensures.stands
