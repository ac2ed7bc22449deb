use Rattle.std.proofs.Common.{◌≡◌, sym, ◌∙◌, ap, subst, arith, rules, length, List, []}
use Rattle.run_step.specs.declared.runs.Tip.{Tip}
use Rattle.run_step.specs.declared.passing.Grown.{Grown}
use Rattle.run_step.specs.declared.begun.Fresh.{Fresh}
use Rattle.run_step.specs.Beginning.{BeginningSome}
use Rattle.run_step.proofs.ShowLaws.{begins_none, waits_asked, turned, begins_all}
use Rattle.run_step.proofs.PinLaws.{KeepsPins-refl, KeepsPins-trans}
use Rattle.run_step.proofs.begun.begin_runs.Goals as goal

pub loop-one-init : goal.loop-one-init
loop-one-init c =
    let gives = c.into_iter-one-iterator.ensures.into_iter_gives in
    let counted : length c.into_iter-one-iterator.result.rest.items ≡ c.into_iter-one-iterator.result.rest.len = search rules in
    record {
      counted = counted;
      begun = λ plan events holders held can.
          subst (λ (f : List Fresh). BeginningSome plan events holders held f c.new-tips.result c.into_iter-one-iterator.result.rest.items
          c.args.buffer.now) (sym c.new-fresh.ensures.items)
          (subst (λ (t : List Tip). BeginningSome plan events holders held [] t c.into_iter-one-iterator.result.rest.items c.args.buffer.now)
          (sym c.new-tips.ensures)
          (subst (λ (g : List Grown). BeginningSome plan events holders held [] [] g c.args.buffer.now) (sym gives.0)
          (begins_none plan events c.args.nfa.now holders held c.args.grown.items c.args.buffer.now can)));
      pins = KeepsPins-refl c.args.buffer.now;
    }

pub begin_waits-requires : goal.begin_waits-requires
begin_waits-requires c =
    let some = c.requires in
    waits_asked some.plan some.events c.args.nfa.now some.holders some.held c.args.grown.items c.args.buffer.now some.can c.loop-one.fresh.items
    c.loop-one.tips c.in-Some.one c.next.new.self.rest.items c.loop-one.one-iterator.rest.items c.loop-one.buffer
    c.in-Some.ensures.steps.0 (c.loop-one.invariant.begun some.plan some.events some.holders some.held some.can) c.waits_at.result.now c.waits_at.ensures

pub show-requires : goal.show-requires
show-requires c =
    let some = c.requires in
    (turned some.plan some.events c.args.nfa.now some.holders some.held c.args.grown.items c.args.buffer.now some.can c.loop-one.fresh.items
    c.loop-one.tips c.in-Some.one c.next.new.self.rest.items c.loop-one.one-iterator.rest.items c.loop-one.buffer
    c.in-Some.ensures.steps.0 (c.loop-one.invariant.begun some.plan some.events some.holders some.held some.can) c.waits_at.result.now
    c.waits_at.ensures c.begin_waits.new.fresh.items c.begin_waits.new.buffer c.in_ok-begin_waits.ensures.begun).show_asked

pub loop-one-preserved : goal.loop-one-preserved
loop-one-preserved c = record {
  counted = let more = ap length c.in-Some.ensures.steps.0 in omega (arith, more, c.in-Some.ensures.steps.1, c.loop-one.invariant.counted);
  begun = λ plan events holders held can.
      (turned plan events c.args.nfa.now holders held c.args.grown.items c.args.buffer.now can c.loop-one.fresh.items c.loop-one.tips c.in-Some.one
      c.next.new.self.rest.items c.loop-one.one-iterator.rest.items c.loop-one.buffer
      c.in-Some.ensures.steps.0 (c.loop-one.invariant.begun plan events holders held can) c.waits_at.result.now c.waits_at.ensures
      c.begin_waits.new.fresh.items c.begin_waits.new.buffer c.in_ok-begin_waits.ensures.begun).ends
      c.is_full-full.result c.is_full-full.ensures c.show.new.tips c.show.new.buffer c.in_ok-show.ensures.shown;
  pins =
      KeepsPins-trans c.args.buffer.now c.begin_waits.new.buffer c.show.new.buffer
      (KeepsPins-trans c.args.buffer.now c.loop-one.buffer c.begin_waits.new.buffer c.loop-one.invariant.pins c.in_ok-begin_waits.ensures.pins)
      c.in_ok-show.ensures.pins;
}

pub returns-clause-begun : goal.returns-clause-begun
returns-clause-begun c = λ plan events holders held can.
    begins_all plan events c.args.nfa.now holders held c.args.grown.items c.args.buffer.now can c.loop-one.fresh.items c.loop-one.tips
    c.loop-one.one-iterator.rest.items c.loop-one.buffer (c.loop-one.invariant.counted ∙ c.in-None.ensures.steps.0)
    (c.loop-one.invariant.begun plan events holders held can)

pub returns-clause-pins : goal.returns-clause-pins
returns-clause-pins c = c.loop-one.invariant.pins
