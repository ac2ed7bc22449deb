use Rattle.std.proofs.Common.{subst, List, []}
use Rattle.std.specs.List.Sorted.{IsPermutation}
use Rattle.cep_plan.specs.declared.item.Taken.{Taken}
use Rattle.live_laws.specs.Starts.{waiting_at}
use Rattle.cep_engine.proofs.AdvanceLaws.{held_for, can_read_shown, ok_in_order}
use Rattle.cep_engine.proofs.advance.waiting_lists.Goals as goal

pub read_lists-requires : goal.read_lists-requires
read_lists-requires c =
    let some = c.requires in
    let shown = c.in_ok-tips.ensures.shown some.plan some.events some.scope [] some.fit some.automaton some.stands.now.stands in
    record {
      plan = some.plan;
      events = some.events;
      holders = shown.holders;
      held = held_for some.stands.now.stands;
      are = can_read_shown some.plan some.events some.scope c.args.runs.now c.args.buffer.now some.stands
          (waiting_at some.plan some.events some.scope c.args.due) c.in_ok-tips.tips shown;
    }

pub returns : goal.returns
returns c = λ plan events scope fit is stands.
    let shown = c.in_ok-tips.ensures.shown plan events scope [] fit is stands.now.stands in
    let read = c.in_ok-lists.ensures plan events shown.holders (held_for stands.now.stands)
    (can_read_shown plan events scope c.args.runs.now c.args.buffer.now stands (waiting_at plan events scope c.args.due) c.in_ok-tips.tips shown) in
    ok_in_order c.in_order.result c.in_order.ensures.permutation c.in_order.ensures.sorted
    (λ made perm sorted. shown.lists made (subst (λ (xs : List (List Taken)). IsPermutation xs made) read perm) sorted)
