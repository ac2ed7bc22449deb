use Rattle.std.proofs.Common.{◌∙◌, ap, subst, arith, length, List}
use Rattle.run_step.specs.declared.runs.Tip.{Tip}
use Rattle.cep_engine.specs.Tips.{Freeing}
use Rattle.cep_engine.proofs.TipLaws.{freed_turn, frees_all, some_frees}
use Rattle.cep_engine.proofs.tips.release_tips.Goals as goal

pub release_tip-requires : goal.release_tip-requires
release_tip-requires c =
    let some = c.requires in
    some_frees some.plan some.events some.held c.in-Some.tip c.next.new.self.rest.items c.loop-tip.buffer
    (subst (λ (l : List Tip). Freeing some.plan some.events some.held l c.loop-tip.buffer) c.in-Some.ensures.steps.0
    (c.loop-tip.invariant.freeing some.plan some.events some.holders some.held some.are))

pub loop-tip-preserved-in-Some : goal.loop-tip-preserved-in-Some
loop-tip-preserved-in-Some c =
    freed_turn c.args.tips c.in-Some.tip c.loop-tip.tip-iterator.rest.items c.next.new.self.rest.items c.args.buffer.now c.loop-tip.buffer
    c.release_tip.new.buffer c.in-Some.ensures.steps.0
    (let more = ap length c.in-Some.ensures.steps.0 in omega (arith, more, c.in-Some.ensures.steps.1, c.loop-tip.invariant.counted))
    c.loop-tip.invariant c.release_tip.ensures.held c.release_tip.ensures.pins

pub loop-tip-preserved : goal.loop-tip-preserved
loop-tip-preserved c =
    freed_turn c.args.tips c.in-Some.tip c.loop-tip.tip-iterator.rest.items c.next.new.self.rest.items c.args.buffer.now c.loop-tip.buffer
    c.release_tip.new.buffer c.in-Some.ensures.steps.0
    (let more = ap length c.in-Some.ensures.steps.0 in omega (arith, more, c.in-Some.ensures.steps.1, c.loop-tip.invariant.counted))
    c.loop-tip.invariant c.release_tip.ensures.held c.release_tip.ensures.pins

pub returns-clause-held : goal.returns-clause-held
returns-clause-held c = λ plan events holders held are.
    frees_all plan events held c.loop-tip.tip-iterator.rest.items c.loop-tip.buffer (c.loop-tip.invariant.counted ∙ c.in-None.ensures.steps.0)
    (c.loop-tip.invariant.freeing plan events holders held are)
