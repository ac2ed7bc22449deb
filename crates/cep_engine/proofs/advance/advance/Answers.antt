use Rattle.std.proofs.Common.{subst, arith, ◌++◌, ◌∷◌, [], List, length-append}
use Rattle.std.specs.List.Sorted.{IsPermutation}
use Rattle.cep_plan.specs.declared.item.Taken.{Taken}
use Rattle.cep_engine.proofs.AdvanceLaws.{held_for, can_step, has_event, stands_ahead, still_pinned, can_read, can_free, has_advanced, ok_in_order}
use Rattle.cep_engine.proofs.advance.advance.Goals as goal

pub step-requires-clause-stands : goal.step-requires-clause-stands
step-requires-clause-stands c =
    let some = c.requires.stands in
    can_step c.args.plan.now some.events some.scope c.args.runs.now c.args.buffer.now some.stands c.args.event c.in_ok-key.key
    c.position-position.result c.position-position.ensures
    c.add_event.new.self c.add_event.ensures.nodes c.in_ok-key.ensures.added some.admits

pub step-requires-clause-event : goal.step-requires-clause-event
step-requires-clause-event c =
    let some = c.requires.stands in
    has_event c.args.plan.now some.events some.scope c.args.runs.now c.args.buffer.now some.stands c.args.event c.in_ok-key.key
    c.position-position.result c.position-position.ensures
    c.add_event.new.self c.add_event.ensures.nodes c.in_ok-key.ensures.added

pub settle-requires : goal.settle-requires
settle-requires c =
    let some = c.requires.stands in
    still_pinned c.args.plan.now some.events some.scope c.args.runs.now c.args.buffer.now some.stands c.args.event c.in_ok-key.key
    c.position-position.result c.position-position.ensures
    c.add_event.new.self c.add_event.ensures.nodes c.in_ok-key.ensures.added c.in_ok-tips.tips c.step.new.runs c.step.new.buffer c.in_ok-tips.ensures.pins

pub read_lists-requires : goal.read_lists-requires
read_lists-requires c =
    let some = c.requires.stands in
    let plan = c.args.plan.now in
    let ahead =
    stands_ahead plan some.events some.scope c.args.runs.now c.args.buffer.now some.stands c.args.event c.in_ok-key.key
    c.position-position.result c.position-position.ensures
    c.add_event.new.self c.add_event.ensures.nodes c.in_ok-key.ensures.added in
    let stepped = c.in_ok-tips.ensures.stepped some.events some.scope _ c.in_ok-key.ensures.added.changed some.admits ahead in
    record {
      plan = plan;
      events = some.events ++ c.args.event ∷ [];
      holders = stepped.holders;
      held = _;
      are =
          can_read plan some.events some.scope c.args.runs.now c.args.buffer.now some.stands c.args.event c.in_ok-key.key c.position-position.result
          c.position-position.ensures
          c.add_event.new.self c.add_event.ensures.nodes c.in_ok-key.ensures.added c.in_ok-tips.tips c.step.new.runs c.step.new.buffer
          c.in_ok-tips.ensures.pins stepped
          c.settle.new.self c.settle.ensures.nodes c.settle.ensures.used c.settle.ensures.unused;
    }

pub release_tips-requires : goal.release_tips-requires
release_tips-requires c =
    let some = c.requires.stands in
    let plan = c.args.plan.now in
    let ahead =
    stands_ahead plan some.events some.scope c.args.runs.now c.args.buffer.now some.stands c.args.event c.in_ok-key.key
    c.position-position.result c.position-position.ensures
    c.add_event.new.self c.add_event.ensures.nodes c.in_ok-key.ensures.added in
    let stepped = c.in_ok-tips.ensures.stepped some.events some.scope _ c.in_ok-key.ensures.added.changed some.admits ahead in
    record {
      plan = plan;
      events = some.events ++ c.args.event ∷ [];
      holders = stepped.holders;
      held = held_for stepped.stands;
      are =
          can_free plan some.events some.scope c.args.runs.now c.args.buffer.now some.stands c.args.event c.in_ok-key.key c.position-position.result
          c.position-position.ensures
          c.add_event.new.self c.add_event.ensures.nodes c.in_ok-key.ensures.added c.in_ok-tips.tips c.step.new.runs c.step.new.buffer
          c.in_ok-tips.ensures.pins stepped
          c.settle.new.self c.settle.ensures.nodes c.settle.ensures.used c.settle.ensures.unused;
    }

pub returns-clause-advanced : goal.returns-clause-advanced
returns-clause-advanced c = λ events scope admits runs.
    let plan = c.args.plan.now in
    let ahead =
    stands_ahead plan events scope c.args.runs.now c.args.buffer.now runs c.args.event c.in_ok-key.key
    c.position-position.result c.position-position.ensures
    c.add_event.new.self c.add_event.ensures.nodes c.in_ok-key.ensures.added in
    let stepped = c.in_ok-tips.ensures.stepped events scope _ c.in_ok-key.ensures.added.changed admits ahead in
    let read = c.in_ok-lists.ensures plan (events ++ c.args.event ∷ []) stepped.holders _
    (can_read plan events scope c.args.runs.now c.args.buffer.now runs c.args.event c.in_ok-key.key c.position-position.result c.position-position.ensures
    c.add_event.new.self c.add_event.ensures.nodes c.in_ok-key.ensures.added c.in_ok-tips.tips c.step.new.runs c.step.new.buffer
    c.in_ok-tips.ensures.pins stepped
    c.settle.new.self c.settle.ensures.nodes c.settle.ensures.used c.settle.ensures.unused) in
    let freed = c.release_tips.ensures.held plan (events ++ c.args.event ∷ []) stepped.holders (held_for stepped.stands)
    (can_free plan events scope c.args.runs.now c.args.buffer.now runs c.args.event c.in_ok-key.key c.position-position.result c.position-position.ensures
    c.add_event.new.self c.add_event.ensures.nodes c.in_ok-key.ensures.added c.in_ok-tips.tips c.step.new.runs c.step.new.buffer
    c.in_ok-tips.ensures.pins stepped
    c.settle.new.self c.settle.ensures.nodes c.settle.ensures.used c.settle.ensures.unused) in
    let stands =
    has_advanced plan events scope c.args.runs.now c.args.buffer.now runs c.args.event c.in_ok-key.key
    c.position-position.result c.position-position.ensures
    c.add_event.new.self c.add_event.ensures.nodes c.in_ok-key.ensures.added c.in_ok-tips.tips c.step.new.runs c.step.new.buffer
    c.in_ok-tips.ensures.pins stepped
    c.settle.new.self c.settle.ensures.nodes c.settle.ensures.used c.settle.ensures.unused c.release_tips.new.buffer freed c.release_tips.ensures.pins in
    ok_in_order c.in_order.result c.in_order.ensures.permutation c.in_order.ensures.sorted
    (λ made perm sorted. record {
      matches =
          stepped.matches made (subst (λ (xs : List (List Taken)). IsPermutation xs made) read perm) sorted;
      stands = stands;
    })

pub returns-clause-position : goal.returns-clause-position
returns-clause-position c =
    let some = c.requires.stands in
    let plan = c.args.plan.now in
    let ahead =
    stands_ahead plan some.events some.scope c.args.runs.now c.args.buffer.now some.stands c.args.event c.in_ok-key.key
    c.position-position.result c.position-position.ensures
    c.add_event.new.self c.add_event.ensures.nodes c.in_ok-key.ensures.added in
    let stepped = c.in_ok-tips.ensures.stepped some.events some.scope _ c.in_ok-key.ensures.added.changed some.admits ahead in
    let more = length-append some.events (c.args.event ∷ []) in
    ok_in_order c.in_order.result c.in_order.ensures.permutation c.in_order.ensures.sorted
    (λ made perm sorted. omega (arith, stepped.stands.counted, some.stands.now.stands.counted, more))
