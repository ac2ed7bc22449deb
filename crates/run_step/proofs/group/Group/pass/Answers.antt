use Rattle.std.proofs.Common.{◌≡◌, sym, ◌∙◌, ap, subst, rules, ◌≤◌, [], ◌∷◌, ◌++◌, length, List, map, drop}
use Rattle.std.proofs.lemmas.List.{take-append-drop}
use Rattle.cep_event.specs.declared.event.Event.{Event}
use Rattle.live_laws.specs.Survival.{survives, takes}
use Rattle.run_judge.specs.Offer.{Offer}
use Rattle.run_step.specs.declared.runs.Run.{Run}
use Rattle.run_step.specs.Content.{Grouped, staged, IsOrdered}
use Rattle.run_step.specs.Runs.{Waiter, AreRunsOf}
use Rattle.run_step.specs.Noting.{CanPassGroup, CanPassGroupSome, GroupPassed}
use Rattle.run_step.proofs.GroupPassLaws.{passed_all, no_runs, tail_can, whole_front, both_parts}
use Rattle.run_step.proofs.group.Group.pass.Goals as goal

pub returns-then-is_empty-clause-passed : goal.returns-then-is_empty-clause-passed
returns-then-is_empty-clause-passed c = λ events waiters can.
    let none : length c.self.inside.runs.items ≡ 0 = search rules in
    let same = ap (λ (v : Grouped). length v.runs) c.self.view_is in
    no_runs c.args.plan.now events c.args.event.now c.args.self.now.stage c.args.position c.args.nfa.now waiters c.args.self.now.runs can
    (sym same ∙ none) c.args.passing.now

pub returns-then-is_untouched-clause-passed : goal.returns-then-is_untouched-clause-passed
returns-then-is_untouched-clause-passed c = λ events waiters can.
    let offered : c.stage_at-at.result ≡ record { plan = c.args.plan.now; stage = c.args.self.now.stage; event = c.args.event.now } =
    c.stage_at-at.ensures ∙ ap (λ (v : Grouped). record { plan = c.args.plan.now; stage = v.stage; event = c.args.event.now }) c.self.view_is in
    passed_all c.args.plan.now events c.args.event.now c.args.self.now.stage waiters c.args.self.now.runs can.waiting can.runs_are
    (λ list position. sym (ap (λ (o : Offer). takes o.plan list o.stage o.event position) offered)
    ∙ c.is_untouched.ensures.taken c.if-is_untouched.true list position)
    (λ list position. sym (ap (λ (o : Offer). survives o.plan list o.stage o.event position) offered)
    ∙ c.is_untouched.ensures.lives c.if-is_untouched.true list position)
    c.args.passing.now

pub pass_tail-requires-clause-can : goal.pass_tail-requires-clause-can
pass_tail-requires-clause-can c =
    let view : record { stage = c.stage_at-at.result.stage; runs = c.self.inside.runs.items } ≡ c.args.self.now =
    ap (λ (o : Offer). record { stage = o.stage; runs = c.self.inside.runs.items }) c.stage_at-at.ensures ∙ c.self.view_is in
    let some = subst (λ (v : Grouped). CanPassGroupSome c.args.plan.now c.args.position v.stage c.args.nfa.now v.runs) (sym view) c.requires in
    record {
      events = some.events;
      waiters = drop c.in_ok-kept.kept some.waiters;
      can =
          tail_can c.args.plan.now some.events c.args.event.now c.stage_at-at.result.stage c.args.position c.args.nfa.now some.waiters
          c.self.inside.runs.items some.can c.in_ok-kept.kept c.in_ok-tail.tail.items (c.in_ok-tail.ensures.tail ∙ c.in_ok-kept.ensures.rest);
    }

pub invariant_of-self-in-Continue-branch-3 : goal.invariant_of-self-in-Continue-branch-3
invariant_of-self-in-Continue-branch-3 c =
    let whole = (λ i. c.in_ok-tail.ensures.items i ++ c.in_ok-tail.ensures.tail i) ∙ take-append-drop c.in_ok-kept.kept c.pass_front.new.runs.items in
    c.pass_tail.ensures.order (subst IsOrdered (sym whole) (c.pass_front.ensures.order c.self.invariant))

pub invariant_of-self-in_err-pass_tail : goal.invariant_of-self-in_err-pass_tail
invariant_of-self-in_err-pass_tail c =
    let whole = (λ i. c.in_ok-tail.ensures.items i ++ c.in_ok-tail.ensures.tail i) ∙ take-append-drop c.in_ok-kept.kept c.pass_front.new.runs.items in
    c.pass_tail.ensures.order (subst IsOrdered (sym whole) (c.pass_front.ensures.order c.self.invariant))

pub returns-in_ok-pass_tail-clause-passed : goal.returns-in_ok-pass_tail-clause-passed
returns-in_ok-pass_tail-clause-passed c =
    let view : record { stage = c.stage_at-at.result.stage; runs = c.self.inside.runs.items } ≡ c.args.self.now =
    ap (λ (o : Offer). record { stage = o.stage; runs = c.self.inside.runs.items }) c.stage_at-at.ensures ∙ c.self.view_is in
    subst (λ (v : Grouped). (events : List Event) (waiters : List Waiter)
    → CanPassGroup c.args.plan.now events c.args.position v.stage waiters c.args.nfa.now v.runs
    → GroupPassed c.args.plan.now events c.args.event.now v.stage waiters c.pass_tail.new.runs.items c.args.passing.now c.pass_tail.new.passing)
    view
    (λ events waiters can.
    both_parts c.args.plan.now events c.args.event.now c.stage_at-at.result.stage c.args.position c.args.nfa.now waiters c.self.inside.runs.items can
    c.in_ok-kept.kept c.pass_front.new.runs.items c.pass_tail.new.runs.items c.args.passing.now c.pass_front.new.passing c.pass_tail.new.passing
    (c.in_ok-kept.ensures.front events waiters can)
    (λ front are.
    c.in_ok-pass_tail.ensures.passed events (drop c.in_ok-kept.kept waiters) front
    (tail_can c.args.plan.now events c.args.event.now c.stage_at-at.result.stage c.args.position c.args.nfa.now waiters c.self.inside.runs.items can
    c.in_ok-kept.kept c.in_ok-tail.tail.items (c.in_ok-tail.ensures.tail ∙ c.in_ok-kept.ensures.rest))
    (subst (λ (rs : List Run). AreRunsOf c.args.plan.now (events ++ c.args.event.now ∷ []) front (map (staged c.stage_at-at.result.stage) rs))
    (sym c.in_ok-tail.ensures.items) are)))

pub returns-else-kept-len-clause-passed : goal.returns-else-kept-len-clause-passed
returns-else-kept-len-clause-passed c =
    let view : record { stage = c.stage_at-at.result.stage; runs = c.self.inside.runs.items } ≡ c.args.self.now =
    ap (λ (o : Offer). record { stage = o.stage; runs = c.self.inside.runs.items }) c.stage_at-at.ensures ∙ c.self.view_is in
    let all : length c.pass_front.new.runs.items ≤ c.in_ok-kept.kept = search rules in
    subst (λ (v : Grouped). (events : List Event) (waiters : List Waiter)
    → CanPassGroup c.args.plan.now events c.args.position v.stage waiters c.args.nfa.now v.runs
    → GroupPassed c.args.plan.now events c.args.event.now v.stage waiters c.pass_front.new.runs.items c.args.passing.now
    c.pass_front.new.passing) view
    (λ events waiters can.
    whole_front c.args.plan.now events c.args.event.now c.stage_at-at.result.stage c.args.position c.args.nfa.now waiters c.self.inside.runs.items can
    c.in_ok-kept.kept c.pass_front.new.runs.items c.in_ok-kept.ensures.within.1 all c.args.passing.now c.pass_front.new.passing
    (c.in_ok-kept.ensures.front events waiters can))
