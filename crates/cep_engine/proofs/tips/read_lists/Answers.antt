use Rattle.std.proofs.Common.{◌≡◌, sym, subst, rules, arith, ◌∷◌, [], ◌++◌, List}
use Rattle.run_step.specs.declared.runs.Tip.{Tip}
use Rattle.cep_engine.specs.Tips.{AreHeldTips, AreSomeTips}
use Rattle.cep_engine.proofs.TipLaws.{held_tip_at, some_tip_at, lists_more, lists_all}
use Rattle.cep_engine.proofs.tips.read_lists.Goals as goal

pub read_list-requires : goal.read_list-requires
read_list-requires c =
    let items = c.as_slice-tip-items.result.now in
    let some = subst (λ (ts : List Tip). AreSomeTips ts c.args.buffer.now) (sym c.as_slice-tip-items.ensures) c.requires in
    some_tip_at some.plan some.events some.holders some.held items c.args.buffer.now some.are c.loop-tip.tip-index c.tip-item.result c.tip-item.is
    c.loop-tip-test.true

pub loop-tip-preserved : goal.loop-tip-preserved
loop-tip-preserved c = λ plan events holders held are.
    let items = c.as_slice-tip-items.result.now in
    let all = subst (λ (ts : List Tip). AreHeldTips plan events holders held ts c.args.buffer.now) (sym c.as_slice-tip-items.ensures) are in
    let place = c.loop-tip.tip-index in
    let at = held_tip_at plan events holders held items c.args.buffer.now all place c.tip-item.result c.tip-item.is c.loop-tip-test.true in
    let pushed : c.push.new.self ≡ c.loop-tip.lists ++ c.in_ok-read_list.field-0 ∷ [] = search rules in
    lists_more plan events holders held items c.args.buffer.now all place c.tip-item.result c.tip-item.is c.loop-tip-test.true c.loop-tip.lists
    c.push.new.self c.in_ok-read_list.field-0 pushed
    (c.loop-tip.invariant plan events holders held are) (c.in_ok-read_list.ensures plan events _ held at)

pub returns : goal.returns
returns c = λ plan events holders held are.
    let all = subst (λ (ts : List Tip). AreHeldTips plan events holders held ts c.args.buffer.now) (sym c.as_slice-tip-items.ensures) are in
    lists_all plan events holders c.as_slice-tip-items.result.now c.loop-tip.lists c.loop-tip.tip-index all.tips_are
    (omega (arith, c.loop-tip-test.false)) (c.loop-tip.invariant plan events holders held are)
