use Rattle.std.proofs.Common.{◌≡◌, ◌^◌, ◌<◌, sym, ◌∙◌, subst, arith, true, not, length, ◌++◌, List, map, Some}
use Rattle.std.specs.Prelude.{int_le}
use Rattle.cep_plan.specs.declared.item.Item.{Item}
use Rattle.cep_plan.specs.declared.item.Item.TheVariants.{Match, Timeout}
use Rattle.live_laws.specs.Starts.{is_start_alive, open_scope}
use Rattle.live_laws.proofs.MemberLaws.{Each-filter}
use Rattle.time_limit.specs.declared.queue.Place.{Place}
use Rattle.time_limit.specs.Limits.{is_over}
use Rattle.cep_engine.specs.Standing.{PartsAre}
use Rattle.cep_engine.specs.State.{AreKeptBefore}
use Rattle.cep_engine.specs.Reach.{AreInStartOrder}
use Rattle.cep_engine.proofs.ReachLaws.{closed_in_order}
use Rattle.cep_engine.proofs.TickLaws.{parts_killed, parts_due, due_timeouts, due_closed, closed_small, closed_below, kept_due}
use Rattle.cep_engine.proofs.tick.take_moment.Goals as goal

pub kill_runs-requires : goal.kill_runs-requires
kill_runs-requires c =
    let plan = c.args.plan.now in
    let some = c.requires.stands in
    let scope = open_scope plan some.events some.items some.last in
    record {
      plan = plan;
      events = some.events;
      scope = _;
      stands = c.in_ok-timeouts.ensures.runs plan some.events scope c.requires.plan c.requires.nfa some.parts.runs;
    }

pub returns-clause-items : goal.returns-clause-items
returns-clause-items c = λ events before last parts.
    let plan = c.args.plan.now in
    let now = c.args.now in
    let content = c.args.runs.now in
    let buffer = c.args.buffer.now in
    let saved = c.args.limits.now in
    let scope = open_scope plan events before last in
    let told = c.in_ok-timeouts.ensures in
    let closed = due_closed plan events before last content buffer saved parts now c.in_ok-timeouts.field-0.closed c.in_ok-in_order.field-0
    (told.closed plan events scope c.requires.plan c.requires.nfa parts.runs) c.in_ok-in_order.ensures.permutation c.in_ok-in_order.ensures.sorted in
    let timeouts = due_timeouts plan events before last content buffer saved parts now c.in_ok-timeouts.field-0.timeouts c.in_ok-late.late
    (told.timeouts plan events scope c.requires.plan c.requires.nfa parts.runs) c.in_ok-late.ensures.permutation c.in_ok-late.ensures.sorted in
    let room : length events < 2 ^ 32 = omega (arith, parts.runs.now.stands.counted, c.position.ensures) in
    let small = closed_small plan events before last content buffer saved parts now c.in_ok-in_order.field-0 closed room in
    let order = subst AreInStartOrder (sym closed) (closed_in_order plan events last now (is_start_alive plan.skip before)) in
    let chosen = c.in_ok-ended.ensures.chosen small order in
    c.in_ok-add_matches.ensures
    ∙ (λ i. (c.in_ok-add_timeouts.ensures ∙ (λ j. c.new-items.ensures j ++ map Timeout c.in_ok-late.late)) i ++ map Match c.in_ok-ended.ended)
    ∙ kept_due plan events before last content buffer saved parts now c.in_ok-in_order.field-0 closed c.in_ok-late.late c.in_ok-ended.ended
    timeouts chosen

pub returns-clause-parts : goal.returns-clause-parts
returns-clause-parts c = λ events before last parts later.
    let plan = c.args.plan.now in
    let now = c.args.now in
    let content = c.args.runs.now in
    let buffer = c.args.buffer.now in
    let saved = c.args.limits.now in
    let scope = open_scope plan events before last in
    let told = c.in_ok-timeouts.ensures in
    let closed = due_closed plan events before last content buffer saved parts now c.in_ok-timeouts.field-0.closed c.in_ok-in_order.field-0
    (told.closed plan events scope c.requires.plan c.requires.nfa parts.runs) c.in_ok-in_order.ensures.permutation c.in_ok-in_order.ensures.sorted in
    let room : length events < 2 ^ 32 = omega (arith, parts.runs.now.stands.counted, c.position.ensures) in
    let small = closed_small plan events before last content buffer saved parts now c.in_ok-in_order.field-0 closed room in
    let order = subst AreInStartOrder (sym closed) (closed_in_order plan events last now (is_start_alive plan.skip before)) in
    let chosen = c.in_ok-ended.ensures.chosen small order in
    let found_small = c.in_ok-ended.ensures.small small in
    let below = closed_below plan events before last content buffer saved parts now c.in_ok-in_order.field-0 closed c.in_ok-ended.ended chosen in
    let left = parts_due plan events before last content buffer saved parts now later c.due_lists.new.runs c.due_lists.new.buffer c.due_lists.new.limits
    (told.runs plan events scope c.requires.plan c.requires.nfa parts.runs) told.limits in
    let made : c.add_matches.new.items ≡ map Timeout c.in_ok-late.late ++ map Match c.in_ok-ended.ended =
    c.in_ok-add_matches.ensures
    ∙ (λ i. (c.in_ok-add_timeouts.ensures ∙ (λ j. c.new-items.ensures j ++ map Timeout c.in_ok-late.late)) i ++ map Match c.in_ok-ended.ended) in
    subst (λ (items : List Item). PartsAre plan events (before ++ items) (Some now) c.kill_runs.new.runs c.kill_runs.new.buffer c.drop_killed.new.limits)
    (sym made)
    (parts_killed plan events before (Some now) c.due_lists.new.runs c.due_lists.new.buffer c.due_lists.new.limits left c.in_ok-late.late
    c.in_ok-ended.ended below c.kill_runs.new.runs c.kill_runs.new.buffer c.drop_killed.new.limits
    (c.kill_runs.ensures.runs found_small plan events _ left.runs) (c.drop_killed.ensures.left found_small))

pub returns-clause-behind : goal.returns-clause-behind
returns-clause-behind c = λ position time h.
    let saved = c.args.limits.now in
    let Behind = λ (p : Place). (p.position < position) × (int_le p.ts time ≡ true) in
    c.drop_killed.ensures.behind position time
    (subst (AreKeptBefore position time) (sym c.in_ok-timeouts.ensures.limits) (
      Each-filter Behind (λ p. not (is_over saved.within c.args.now p)) saved.starts h.0,
      Each-filter Behind
          (λ p. not (is_over saved.gap c.args.now p)) saved.lasts h.1,
    ))
