use Rattle.std.proofs.Common.{◌≡◌, sym, ◌∙◌, ap, subst, rules, ◌++◌, to_z, of_z, w64, Some}
use Rattle.std.specs.Prelude.{ℤ, FitsSigned}
use Rattle.std.proofs.lemmas.Int.{to_z-of_z}
use Rattle.cep_event.specs.declared.record.Moment.TheVariants.{At}
use Rattle.cep_plan.specs.History.{due_items}
use Rattle.cep_plan.specs.Keys.{kept_of}
use Rattle.cep_plan.specs.Skipping.{kept_after}
use Rattle.cep_plan.specs.Tick.{events_of, last_time}
use Rattle.cep_engine.specs.Standing.{PartsAre, ComesLater}
use Rattle.cep_engine.specs.State.{AreKeptBefore}
use Rattle.cep_engine.proofs.EventLaws.{kept_at-event, PartsStand-event}
use Rattle.cep_engine.proofs.tick.take_event.Goals as goal

pub take_next-requires-clause-behind : goal.take_next-requires-clause-behind
take_next-requires-clause-behind c =
    subst (λ n. AreKeptBefore n c.args.event.ts c.take_moment.new.limits) (sym c.in_ok-items.ensures.position)
    (c.in_ok-items.ensures.behind c.args.runs.now.position c.args.event.ts c.requires.behind)

pub returns-clause-items : goal.returns-clause-items
returns-clause-items c = λ ticks parts later.
    let plan = c.args.plan.now in
    let event = c.args.event in
    let fits : FitsSigned w64 event.ts = search rules in
    let trip : to_z w64 (of_z w64 event.ts) ≡ event.ts = to_z-of_z w64 event.ts fits in
    let events = events_of ticks in
    let before = kept_of plan ticks in
    let told = c.in_ok-items.ensures in
    let due : c.in_ok-items.items ≡ kept_after plan.skip before (due_items plan events (last_time ticks) (At event.ts)) =
    told.items events before (last_time ticks) parts ∙ ap (λ (t : ℤ). kept_after plan.skip before (due_items plan events (last_time ticks) (At t))) trip in
    let left = subst (λ (t : ℤ). PartsAre plan events (before ++ c.in_ok-items.items) (Some (At t)) c.take_moment.new.runs c.take_moment.new.buffer
    c.take_moment.new.limits) trip
    (told.parts events before (last_time ticks) parts (subst (λ (t : ℤ). ComesLater ticks (At t)) (sym trip) later)) in
    c.in_ok-append.ensures.ok
    ∙ kept_at-event plan ticks event c.in_ok-items.items c.in_ok-matches.matches due
    (c.in_ok-matches.ensures.items events (before ++ c.in_ok-items.items) left)

pub returns-clause-parts : goal.returns-clause-parts
returns-clause-parts c = λ ticks parts later.
    let plan = c.args.plan.now in
    let event = c.args.event in
    let fits : FitsSigned w64 event.ts = search rules in
    let trip : to_z w64 (of_z w64 event.ts) ≡ event.ts = to_z-of_z w64 event.ts fits in
    let events = events_of ticks in
    let before = kept_of plan ticks in
    let told = c.in_ok-items.ensures in
    let due : c.in_ok-items.items ≡ kept_after plan.skip before (due_items plan events (last_time ticks) (At event.ts)) =
    told.items events before (last_time ticks) parts ∙ ap (λ (t : ℤ). kept_after plan.skip before (due_items plan events (last_time ticks) (At t))) trip in
    let left = subst (λ (t : ℤ). PartsAre plan events (before ++ c.in_ok-items.items) (Some (At t)) c.take_moment.new.runs c.take_moment.new.buffer
    c.take_moment.new.limits) trip
    (told.parts events before (last_time ticks) parts (subst (λ (t : ℤ). ComesLater ticks (At t)) (sym trip) later)) in
    PartsStand-event plan ticks event c.in_ok-items.items c.in_ok-matches.matches due
    (c.in_ok-matches.ensures.items events (before ++ c.in_ok-items.items) left) c.take_next.new.runs c.take_next.new.buffer c.take_next.new.limits
    (c.in_ok-matches.ensures.parts events (before ++ c.in_ok-items.items) left)
