use Rattle.std.proofs.Common.{◌≡◌, refl, sym, ◌∙◌, ap, subst, ◌<◌, arith, rules, List, ◌∷◌, length, Some, None}
use Rattle.cep_plan.specs.declared.item.Due.{Due}
use Rattle.time_limit.specs.Limits.{first_due}
use Rattle.due_laws.specs.Due.{dues_of, left_of}
use Rattle.due_laws.proofs.DueLaws.{dues_of-next, left_of-next, dues_of-done}
use Rattle.cep_engine.proofs.TellLaws.{Owes, owes_first, owes_next, told_timeouts, told_closed, stands_after}
use Rattle.cep_engine.proofs.timeouts.due_lists.Goals as goal

pub loop-due-init : goal.loop-due-init
loop-due-init c = record {
  owes = λ plan events scope fit is stands.
      owes_first plan events scope (dues_of c.args.limits.now c.args.now) c.args.runs.now c.args.buffer.now _ _ (search rules) (search rules) stands;
  left = refl;
  position = refl;
  can = c.requires;
}

pub loop-due-smaller : goal.loop-due-smaller
loop-due-smaller c =
    let limits = c.loop-due.limits in
    let due = c.in-Some.due in
    let found : first_due limits c.args.now ≡ Some due = sym c.next_due.ensures.due ∙ c.in-Some.is in
    let same : dues_of limits c.args.now ≡ due ∷ dues_of c.next_due.new.self c.args.now =
    dues_of-next limits c.args.now due found ∙ ap (λ k. due ∷ dues_of k c.args.now) (sym c.next_due.ensures.left) in
    let longer = ap length same in
    let less : length (dues_of c.next_due.new.self c.args.now) < length (dues_of limits c.args.now) = omega (arith, longer) in less

pub loop-due-preserved : goal.loop-due-preserved
loop-due-preserved c =
    let limits = c.loop-due.limits in
    let now = c.args.now in
    let due = c.in-Some.due in
    let next = c.next_due.new.self in
    let told = c.in_ok-tell_due.ensures in
    let found : first_due limits now ≡ Some due = sym c.next_due.ensures.due ∙ c.in-Some.is in
    let same : dues_of limits now ≡ due ∷ dues_of next now = dues_of-next limits now due found ∙ ap (λ k. due ∷ dues_of k now) (sym c.next_due.ensures.left) in
    let can = c.loop-due.invariant.can in
    record {
      owes = λ plan events scope fit is stands.
          let before = subst (λ (ds : List Due). Owes plan events scope (dues_of c.args.limits.now now) c.loop-due.lists.timeouts c.loop-due.lists.closed
          c.loop-due.runs c.loop-due.buffer ds) same (c.loop-due.invariant.owes plan events scope fit is stands) in
          owes_next plan events scope (dues_of c.args.limits.now now) c.loop-due.runs c.tell_due.new.runs c.loop-due.buffer c.tell_due.new.buffer
          c.loop-due.lists.timeouts c.loop-due.lists.closed c.tell_due.new.lists.timeouts c.tell_due.new.lists.closed due (dues_of next now)
          (λ s h. told.timeouts plan events s fit is h) (λ s h. told.closed plan events s fit is h) (λ s h. told.runs plan events s h) before;
      left = c.loop-due.invariant.left ∙ left_of-next limits now ∙ ap (λ k. left_of k now) (sym c.next_due.ensures.left);
      position = told.position ∙ c.loop-due.invariant.position;
      can = record {
        plan = can.plan;
        events = can.events;
        scope = _;
        fit = can.fit;
        automaton = can.automaton;
        stands = told.runs can.plan can.events can.scope can.stands;
      };
    }

pub returns-clause-timeouts : goal.returns-clause-timeouts
returns-clause-timeouts c = λ plan events scope fit is stands.
    let limits = c.loop-due.limits in
    let none : first_due limits c.args.now ≡ None = search rules in
    told_timeouts plan events scope (dues_of c.args.limits.now c.args.now) c.loop-due.runs c.loop-due.buffer c.loop-due.lists.timeouts c.loop-due.lists.closed
    (dues_of limits c.args.now) (c.loop-due.invariant.owes plan events scope fit is stands) (dues_of-done limits c.args.now none).0

pub returns-clause-closed : goal.returns-clause-closed
returns-clause-closed c = λ plan events scope fit is stands.
    let limits = c.loop-due.limits in
    let none : first_due limits c.args.now ≡ None = search rules in
    told_closed plan events scope (dues_of c.args.limits.now c.args.now) c.loop-due.runs c.loop-due.buffer c.loop-due.lists.timeouts c.loop-due.lists.closed
    (dues_of limits c.args.now) (c.loop-due.invariant.owes plan events scope fit is stands) (dues_of-done limits c.args.now none).0

pub returns-clause-runs : goal.returns-clause-runs
returns-clause-runs c = λ plan events scope fit is stands.
    let limits = c.loop-due.limits in
    let none : first_due limits c.args.now ≡ None = search rules in
    stands_after plan events scope (dues_of c.args.limits.now c.args.now) c.loop-due.runs c.loop-due.buffer c.loop-due.lists.timeouts c.loop-due.lists.closed
    (dues_of limits c.args.now) (c.loop-due.invariant.owes plan events scope fit is stands) (dues_of-done limits c.args.now none).0

pub returns-clause-limits : goal.returns-clause-limits
returns-clause-limits c =
    let limits = c.loop-due.limits in
    let none : first_due limits c.args.now ≡ None = search rules in
    let done = dues_of-done limits c.args.now none in
    c.next_due.ensures.left ∙ done.2 ∙ sym (c.loop-due.invariant.left ∙ done.1)
