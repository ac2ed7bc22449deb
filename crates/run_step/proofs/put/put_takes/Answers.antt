use Rattle.std.proofs.Common.{◌≡◌, sym, ◌∙◌, ap, subst, arith, rules, length, List, []}
use Rattle.run_step.specs.declared.passing.Take.{Take}
use Rattle.run_step.specs.declared.passing.Grown.{Grown}
use Rattle.run_step.specs.Putting.{PuttingSome}
use Rattle.run_step.proofs.PutsLaws.{puts_begin, puts_one, puts_all, some_puts}
use Rattle.run_step.proofs.PinLaws.{KeepsPins-refl, KeepsPins-trans}
use Rattle.run_step.proofs.put.put_takes.Goals as goal

pub put_take-requires : goal.put_take-requires
put_take-requires c =
    let some = c.requires in
    some_puts some.plan some.events some.position c.args.event some.waiters some.held c.loop-take.grown.items c.in-Some.take
    c.next.new.self.rest.items c.loop-take.buffer
    (subst (λ (l : List Take). PuttingSome some.plan some.events some.position c.args.event some.waiters some.held c.loop-take.grown.items l
    c.loop-take.buffer) c.in-Some.ensures.steps.0
    (c.loop-take.invariant.putting some.plan some.events some.position some.waiters some.held some.can some.takes_are))

pub loop-take-preserved : goal.loop-take-preserved
loop-take-preserved c = record {
  counted = let more = ap length c.in-Some.ensures.steps.0 in omega (arith, more, c.in-Some.ensures.steps.1, c.loop-take.invariant.counted);
  putting = λ plan events position waiters held can are.
      let one = puts_one plan events position c.args.event waiters held c.loop-take.grown.items c.in-Some.take c.next.new.self.rest.items c.loop-take.buffer
      (subst (λ (l : List Take). PuttingSome plan events position c.args.event waiters held c.loop-take.grown.items l c.loop-take.buffer)
      c.in-Some.ensures.steps.0
      (c.loop-take.invariant.putting plan events position waiters held can are)) in
      subst (λ (l : List Grown). PuttingSome plan events position c.args.event waiters held l c.next.new.self.rest.items c.put_take.new.buffer)
      (sym c.in_ok-push.ensures.items)
      (one.after c.in_ok-put_take.field-0 c.put_take.new.buffer
      (c.in_ok-put_take.ensures.put plan events position one.waiter one.rest one.before one.can one.take_is));
  pins = KeepsPins-trans c.args.buffer.now c.loop-take.buffer c.put_take.new.buffer c.loop-take.invariant.pins c.in_ok-put_take.ensures.pins;
}

pub returns-clause-put : goal.returns-clause-put
returns-clause-put c = λ plan events position waiters held can are.
    puts_all plan events position c.args.event waiters held c.loop-take.grown.items c.loop-take.take-iterator.rest.items c.loop-take.buffer
    (c.loop-take.invariant.counted ∙ c.in-None.ensures.steps.0) (c.loop-take.invariant.putting plan events position waiters held can are)

pub loop-take-init : goal.loop-take-init
loop-take-init c =
    let gives = c.into_iter-take-iterator.ensures.into_iter_gives in
    let counted : length c.into_iter-take-iterator.result.rest.items ≡ c.into_iter-take-iterator.result.rest.len = search rules in
    record {
      counted = counted;
      putting = λ plan events position waiters held can are.
          subst (λ (g : List Grown). PuttingSome plan events position c.args.event waiters held g c.into_iter-take-iterator.result.rest.items
          c.args.buffer.now) (sym c.in_ok-grown.ensures.items)
          (subst (λ (l : List Take). PuttingSome plan events position c.args.event waiters held [] l c.args.buffer.now) (sym gives.0)
          (puts_begin plan events position c.args.event waiters held c.args.takes.items c.args.buffer.now can are));
      pins = KeepsPins-refl c.args.buffer.now;
    }

pub returns-clause-pins : goal.returns-clause-pins
returns-clause-pins c = c.loop-take.invariant.pins
