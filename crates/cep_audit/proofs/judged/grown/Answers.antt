use Rattle.std.proofs.Common.{◌≡◌, sym, ◌∙◌, ap, ◌+◌, arith, rules, true, false, [], ◌∷◌, ◌++◌, length, length-append, get_or}
use Rattle.cep_plan.specs.Entry.{event_at, taken_at}
use Rattle.cep_audit.specs.Asked.{entry_of}
use Rattle.cep_audit.specs.declared.judged.Chosen.{Chosen}
use Rattle.cep_audit.proofs.GrownLaws.{stops, goes_on, pushed}
use Rattle.cep_audit.proofs.judged.grown.Goals as goal

pub returns-then-not-comes_next : goal.returns-then-not-comes_next
returns-then-not-comes_next c =
    let none : Chosen = record { stage = 0; position = 0 } in
    let shut : c.comes_next.result ≡ false = search rules in
    stops c.args.plan.now c.args.events.now c.args.list.now c.loop-chosen.chosen-index c.loop-chosen-test.true none c.loop-chosen.taken
    c.loop-chosen.invariant.1 c.loop-chosen.invariant.2 (sym c.comes_next.ensures ∙ shut)

pub loop-chosen-preserved : goal.loop-chosen-preserved
loop-chosen-preserved c =
    let none : Chosen = record { stage = 0; position = 0 } in
    let i = c.loop-chosen.chosen-index in
    let next = entry_of (get_or c.args.list.now i none) in
    let taken = c.loop-chosen.taken in
    let goes : c.comes_next.result ≡ true = search rules in
    let event : c.in_ok-event-in-Some.event ≡ event_at c.args.events.now next.position = search rules in
    let more = c.in_ok-push-in-Some.ensures.ok ∙ ap (λ e. taken ++ record { stage = next.stage; position = next.position; event = e } ∷ []) event in
    let one_more = length-append taken (taken_at c.args.events.now next ∷ []) in
    let longer : length c.push.new.self ≡ i + 1 = omega (arith, ap length more, one_more, c.loop-chosen.invariant.0) in (
      longer,
      pushed c.args.plan.now c.args.events.now c.args.list.now i c.loop-chosen-test.true none taken c.loop-chosen.invariant.1 c.loop-chosen.invariant.2
          c.push.new.self more,
      goes_on c.args.plan.now c.args.events.now c.args.list.now i c.loop-chosen-test.true none taken c.loop-chosen.invariant.1 c.loop-chosen.invariant.2
          (sym c.comes_next.ensures ∙ goes),
    )
