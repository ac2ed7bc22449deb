use Rattle.std.proofs.Common.{sym, ◌∙◌, ap, subst, ◌≤◌, None, IfSome}
use Rattle.std.specs.List.{last_or}
use Rattle.cep_plan.specs.Follow.{may_follow_last}
use Rattle.nfa_compile.specs.State.{stages_at, stages_behind}
use Rattle.nfa_compile.proofs.CountLaws.{last_same}
use Rattle.nfa_compile.proofs.reach.comes_next.Goals as goal

pub returns-in-Some : goal.returns-in-Some
returns-in-Some c =
    let plan = c.args.plan.now in
    let state = c.in-Some.state in
    let some_event : 1 ≤ state.count = subst (λ r. IfSome r (λ s. 1 ≤ s.count)) c.in-Some.is c.requires.reached in
    c.comes_after.ensures
    ∙ sym (ap (λ r. may_follow_last plan (stages_behind r) c.args.stage (last_or None (stages_behind r))) c.in-Some.is
    ∙ ap (may_follow_last plan (stages_at state) c.args.stage) (last_same state.stage state.count some_event))
