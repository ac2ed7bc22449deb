use Rattle.std.proofs.Common.{◌≡◌, ℕ, ◌-◌, ◌^◌, ◌<◌, ◌+◌, sym, ◌∙◌, subst, arith, rules, true, length, [], ◌∷◌, ◌++◌, List, map, to_z, of_z, w64, Some}
use Rattle.std.specs.Prelude.{ℤ, int_le, FitsSigned, Option}
use Rattle.std.proofs.lemmas.Int.{ints, to_z-of_z}
use Rattle.cep_event.specs.declared.record.Moment.TheVariants.{At}
use Rattle.cep_plan.specs.declared.item.Item.{Item}
use Rattle.cep_plan.specs.declared.item.Item.TheVariants.{Match}
use Rattle.cep_plan.proofs.RisingLaws.{Each-append, Each-weaker}
use Rattle.live_laws.specs.Starts.{open_scope}
use Rattle.time_limit.specs.declared.queue.Place.{Place}
use Rattle.time_limit.specs.Limits.{Kept, limited, AreBefore}
use Rattle.cep_engine.specs.Standing.{PartsAre}
use Rattle.cep_engine.specs.State.{AreKeptBefore}
use Rattle.cep_engine.specs.Reach.{AreInStartOrder}
use Rattle.cep_engine.proofs.OpenLaws.{limited-each}
use Rattle.cep_engine.proofs.ReachLaws.{matches_in_order}
use Rattle.cep_engine.proofs.TickLaws.{parts_killed}
use Rattle.cep_engine.proofs.EventLaws.{admits, ready, parts_next, matches_small, matches_below, kept_next}
use Rattle.cep_engine.proofs.tick.take_next.Goals as goal

not_above : (time : ℤ) → int_le time time ≡ true
not_above time = grind (arith, ints)

added_before : (position : ℕ) (time : ℤ) (limit : Option ℕ) (places : List Place) → AreBefore position time places
    → AreBefore (position + 1) time (places ++ limited limit (record { position = position; ts = time } ∷ []))
added_before position time limit places h =
    let Behind = λ (p : Place). (p.position < position + 1) × (int_le p.ts time ≡ true) in
    Each-append Behind places (limited limit (record { position = position; ts = time } ∷ []))
    (Each-weaker (λ (p : Place). (p.position < position) × (int_le p.ts time ≡ true)) Behind (λ p b. (omega (arith, b.0), b.1)) places h)
    (limited-each Behind limit (record { position = position; ts = time } ∷ []) ((omega arith, not_above time), tt))

added_behind : (position : ℕ) (time : ℤ) (saved added : Kept)
    → added ≡ record saved {
      starts = saved.starts ++ limited saved.within (record { position = position; ts = time } ∷ []);
      lasts = saved.lasts ++ limited saved.gap (record { position = position; ts = time } ∷ []);
    }
    → AreKeptBefore position time saved → AreKeptBefore (position + 1) time added
added_behind position time saved added is h =
    subst (AreKeptBefore (position + 1) time) (sym is)
    (added_before position time saved.within saved.starts h.0, added_before position time saved.gap saved.lasts h.1)

pub advance-requires-clause-stands : goal.advance-requires-clause-stands
advance-requires-clause-stands c =
    let plan = c.args.plan.now in
    let event = c.args.event in
    let some = c.requires.stands in
    record {
      events = some.events;
      scope = open_scope plan (some.events ++ event ∷ []) some.items (Some (At event.ts));
      admits = admits plan some.events some.items c.args.runs.now c.args.buffer.now c.args.limits.now event some.parts c.requires.limit;
      stands = ready plan some.events some.items c.args.runs.now c.args.buffer.now c.args.limits.now event some.parts c.requires.limit;
    }

pub kill_runs-requires : goal.kill_runs-requires
kill_runs-requires c =
    let plan = c.args.plan.now in
    let event = c.args.event in
    let some = c.requires.stands in
    let advanced = c.in_ok-lists.ensures.advanced some.events (open_scope plan (some.events ++ event ∷ []) some.items (Some (At event.ts)))
    (admits plan some.events some.items c.args.runs.now c.args.buffer.now c.args.limits.now event some.parts c.requires.limit)
    (ready plan some.events some.items c.args.runs.now c.args.buffer.now c.args.limits.now event some.parts c.requires.limit) in
    record { plan = plan; events = some.events ++ event ∷ []; scope = _; stands = advanced.stands }

pub returns-clause-items : goal.returns-clause-items
returns-clause-items c = λ events before parts.
    let plan = c.args.plan.now in
    let event = c.args.event in
    let content = c.args.runs.now in
    let buffer = c.args.buffer.now in
    let saved = c.args.limits.now in
    let limit = c.requires.limit in
    let advanced = c.in_ok-lists.ensures.advanced events (open_scope plan (events ++ event ∷ []) before (Some (At event.ts)))
    (admits plan events before content buffer saved event parts limit) (ready plan events before content buffer saved event parts limit) in
    let room : length events < 2 ^ 32 - 1 = omega (arith, c.requires.room, parts.runs.now.stands.counted) in
    let small = matches_small plan events before content buffer saved event parts limit c.in_ok-lists.lists advanced.matches room in
    let order = subst AreInStartOrder (sym advanced.matches) (matches_in_order plan events event _) in
    c.in_ok-add_matches.ensures ∙ (λ i. c.new-items.ensures i ++ map Match c.in_ok-found.found)
    ∙ kept_next plan events before content buffer saved event parts limit c.in_ok-lists.lists advanced.matches c.in_ok-found.found
    (c.in_ok-found.ensures.chosen small order)

pub returns-clause-parts : goal.returns-clause-parts
returns-clause-parts c = λ events before parts.
    let plan = c.args.plan.now in
    let event = c.args.event in
    let content = c.args.runs.now in
    let buffer = c.args.buffer.now in
    let saved = c.args.limits.now in
    let limit = c.requires.limit in
    let fits : FitsSigned w64 event.ts = search rules in
    let trip : to_z w64 (of_z w64 event.ts) ≡ event.ts = to_z-of_z w64 event.ts fits in
    let advanced = c.in_ok-lists.ensures.advanced events (open_scope plan (events ++ event ∷ []) before (Some (At event.ts)))
    (admits plan events before content buffer saved event parts limit) (ready plan events before content buffer saved event parts limit) in
    let room : length events < 2 ^ 32 - 1 = omega (arith, c.requires.room, parts.runs.now.stands.counted) in
    let small = matches_small plan events before content buffer saved event parts limit c.in_ok-lists.lists advanced.matches room in
    let order = subst AreInStartOrder (sym advanced.matches) (matches_in_order plan events event _) in
    let chosen = c.in_ok-found.ensures.chosen small order in
    let found_small = c.in_ok-found.ensures.small small in
    let below = matches_below plan events before content buffer saved event parts limit c.in_ok-lists.lists advanced.matches c.in_ok-found.found chosen in
    let at : c.position-position.result ≡ length events = c.position-position.ensures ∙ parts.runs.now.stands.counted in
    let added : c.add.new.self ≡ record saved {
      starts = saved.starts ++ limited saved.within (record { position = length events; ts = event.ts } ∷ []);
      lasts = saved.lasts ++ limited saved.gap (record { position = length events; ts = event.ts } ∷ []);
    } =
    c.in_ok-add.ensures.ok
    ∙ (λ i. record saved {
      starts = saved.starts ++ limited saved.within (record { position = at i; ts = trip i } ∷ []);
      lasts = saved.lasts ++ limited saved.gap (record { position = at i; ts = trip i } ∷ []);
    }) in
    let next = parts_next plan events before content buffer saved event parts limit c.in_ok-lists.lists c.advance.new.runs c.advance.new.buffer c.add.new.self
    advanced added in
    let made : c.add_matches.new.items ≡ map Match c.in_ok-found.found =
    c.in_ok-add_matches.ensures ∙ (λ i. c.new-items.ensures i ++ map Match c.in_ok-found.found) in
    subst (λ (items : List Item). PartsAre plan (events ++ event ∷ []) (before ++ items) (Some (At event.ts)) c.kill_runs.new.runs c.kill_runs.new.buffer
    c.drop_killed.new.limits) (sym made)
    (parts_killed plan (events ++ event ∷ []) before (Some (At event.ts)) c.advance.new.runs c.advance.new.buffer c.add.new.self next [] c.in_ok-found.found
    below c.kill_runs.new.runs c.kill_runs.new.buffer c.drop_killed.new.limits
    (c.kill_runs.ensures.runs found_small plan (events ++ event ∷ []) _ next.runs) (c.drop_killed.ensures.left found_small))

pub returns-clause-behind : goal.returns-clause-behind
returns-clause-behind c =
    let event = c.args.event in
    let saved = c.args.limits.now in
    let fits : FitsSigned w64 event.ts = search rules in
    let trip : to_z w64 (of_z w64 event.ts) ≡ event.ts = to_z-of_z w64 event.ts fits in
    let before = c.args.runs.now.position in
    let added : c.add.new.self ≡ record saved {
      starts = saved.starts ++ limited saved.within (record { position = before; ts = event.ts } ∷ []);
      lasts = saved.lasts ++ limited saved.gap (record { position = before; ts = event.ts } ∷ []);
    } =
    c.in_ok-add.ensures.ok
    ∙ (λ i. record saved {
      starts = saved.starts ++ limited saved.within (record { position = c.position-position.ensures i; ts = trip i } ∷ []);
      lasts = saved.lasts ++ limited saved.gap (record { position = c.position-position.ensures i; ts = trip i } ∷ []);
    }) in
    let next : c.kill_runs.new.runs.position ≡ before + 1 = omega (arith, c.kill_runs.ensures.position, c.in_ok-lists.ensures.position) in
    subst (λ n. AreKeptBefore n event.ts c.drop_killed.new.limits) (sym next)
    (c.drop_killed.ensures.behind (before + 1) event.ts (added_behind before event.ts saved c.add.new.self added c.requires.behind))
