use Rattle.std.proofs.Common.{◌≡◌, sym, ◌∙◌, ap, subst, ◌≤◌, ◌+◌, arith, to_z, of_z, w64}
use Rattle.std.proofs.lemmas.Bool.{and_parts}
use Rattle.cep_keeper.specs.Counted.{event_count}
use Rattle.cep_keeper.specs.Tallies.{Tallies}
use Rattle.cep_plan.specs.Keys.{key_of}
use Rattle.cep_keeper.specs.Rules as spec
use Rattle.cep_keeper.proofs.CountLaws.{on_ok, event_count-event, event_count-mark, event-room, pending-room}
use Rattle.cep_keeper.proofs.TallyLaws.{tallies_mark}
use Rattle.cep_keeper.proofs.reading.take_said.Goals as goal

pub take_pending-requires : goal.take_pending-requires
take_pending-requires c = pending-room c.args.plan.now c.args.reading.now c.in-Pending.event
    (sym (ap (spec.keeps c.args.plan.now c.args.reading.now) c.in-Pending.is) ∙ c.requires.keeps)

pub take_event-requires : goal.take_event-requires
take_event-requires c = record {
  room = event-room c.args.plan.now c.args.reading.now c.in-Event.event (sym (ap (spec.keeps c.args.plan.now c.args.reading.now) c.in-Event.is)
      ∙ c.requires.keeps);
  known = (and_parts _ _ (sym (ap (spec.keeps c.args.plan.now c.args.reading.now) c.in-Event.is) ∙ c.requires.keeps)).1;
  tallies = c.requires.tallies;
  counted = c.requires.counted;
}

pub returns-in-Event-clause-counted : goal.returns-in-Event-clause-counted
returns-in-Event-clause-counted c =
    let more = event_count-event c.args.reading.now.saved.recent c.in-Event.event
    (spec.key_count c.args.plan.now (key_of c.args.plan.now c.in-Event.event) c.args.reading.now.saved.recent) in
    let held : event_count (spec.after_event c.args.plan.now c.args.reading.now c.in-Event.event).saved.recent ≤ c.args.reading.now.events + 1 = omega
    (arith, more, c.requires.counted) in
    on_ok c.take_event.result (λ (e : c.take_event.new.reading ≡ spec.after_event c.args.plan.now c.args.reading.now c.in-Event.event). subst
    (λ r. event_count r.saved.recent ≤ r.events) (sym e) held) c.take_event.ensures.after

pub returns-in-Mark-clause-counted : goal.returns-in-Mark-clause-counted
returns-in-Mark-clause-counted c =
    let time = to_z w64 (of_z w64 c.in-Mark.time) in
    let more = event_count-mark c.args.reading.now.saved.recent time in
    let held : event_count (spec.after_mark c.args.reading.now time).saved.recent ≤ c.args.reading.now.events = omega (arith, more, c.requires.counted) in
    on_ok c.take_mark.result (λ (e : c.take_mark.new.reading ≡ spec.after_mark c.args.reading.now (to_z w64 (of_z w64 c.in-Mark.time))). subst
    (λ r. event_count r.saved.recent ≤ r.events) (sym e) held) c.take_mark.ensures

pub returns-in-Mark-clause-tallies : goal.returns-in-Mark-clause-tallies
returns-in-Mark-clause-tallies c =
    let s = c.args.reading.now.saved in
    let time = to_z w64 (of_z w64 c.in-Mark.time) in
    let held = tallies_mark c.args.plan.now c.args.counts.now s.keys s.recent time c.requires.tallies in
    on_ok c.take_mark.result (λ (e : c.take_mark.new.reading ≡ spec.after_mark c.args.reading.now (to_z w64 (of_z w64 c.in-Mark.time))).
    subst (λ r. Tallies c.args.plan.now c.args.counts.now r.saved.keys r.saved.recent) (sym e) held) c.take_mark.ensures
