use Rattle.std.proofs.Common.{rules, ◌≡◌, sym, ◌∙◌, ap, subst, ◌+◌, arith, to_z, of_z, w64}
use Rattle.std.specs.Prelude.{Some, [], ◌∷◌, ◌++◌}
use Rattle.cep_plan.specs.Keys.{key_of}
use Rattle.cep_keeper.specs.declared.recent.Tick.TheVariants as tick
use Rattle.cep_keeper.specs.Tallies.{Tallies}
use Rattle.cep_keeper.proofs.CountLaws.{key_count-le}
use Rattle.cep_keeper.proofs.TallyLaws.{position_is, tallies_event}
use Rattle.cep_keeper.proofs.reading.take_event.Goals as goal

pub count_event-requires-clause-own : goal.count_event-requires-clause-own
count_event-requires-clause-own c =
    let s = c.args.reading.now.saved in
    let is = position_is c.args.plan.now c.args.counts.now s.keys s.recent c.args.event c.requires.tallies c.requires.known in
    let le = key_count-le c.args.plan.now (key_of c.args.plan.now c.args.event) s.recent in
    omega (arith, is, le, c.requires.counted, c.requires.room)

pub returns-clause-after : goal.returns-clause-after
returns-clause-after c =
    let s = c.args.reading.now.saved in
    let is = position_is c.args.plan.now c.args.counts.now s.keys s.recent c.args.event c.requires.tallies c.requires.known in
    let recent = c.in_ok-push.ensures ∙ ap (λ n. s.recent ++ tick.Event c.args.event n ∷ []) (c.in_ok-position.ensures.position ∙ is) in
    let trip : to_z w64 (of_z w64 c.args.event.ts) ≡ c.args.event.ts = search rules in
    (λ i. record {
      table = 3;
      events = c.args.reading.now.events + 1;
      time = Some (trip i);
      row = c.args.reading.now.row;
      saved = record { lines = s.lines; mark = s.mark; greatest = s.greatest; keys = s.keys; recent = recent i; pending = s.pending };
    })

pub returns-clause-tallies : goal.returns-clause-tallies
returns-clause-tallies c =
    let s = c.args.reading.now.saved in
    let own = c.in_ok-position.ensures in
    subst (λ ticks. Tallies c.args.plan.now c.count_event.new.self s.keys ticks) (sym c.in_ok-push.ensures)
    (tallies_event c.args.plan.now c.args.counts.now c.count_event.new.self s.keys s.recent c.args.event c.in_ok-position.position c.requires.tallies
    c.requires.known own.events own.own own.others)
