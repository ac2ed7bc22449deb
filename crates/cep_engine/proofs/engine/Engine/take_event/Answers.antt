use Rattle.std.proofs.Common.{◌≡◌, sym, ◌∙◌, ap, subst, rules, to_z, of_z, w64, [], ◌∷◌, ◌++◌}
use Rattle.std.specs.Prelude.{ℤ, Some, FitsSigned}
use Rattle.std.proofs.lemmas.Int.{to_z-of_z}
use Rattle.cep_event.specs.declared.record.Moment.TheVariants.{At}
use Rattle.cep_plan.specs.Keys.{kept_at}
use Rattle.cep_plan.specs.Tick.{event_tick}
use Rattle.cep_engine.specs.Standing.{PartsStand}
use Rattle.cep_engine.specs.State.{IsNotBefore, AreKeptBefore}
use Rattle.cep_engine.proofs.OpenLaws.{last_time-push}
use Rattle.sharing_laws.specs.Sharing.{SharesExactly}
use Rattle.cep_engine.proofs.SharingLaws.{parts_share}
use Rattle.cep_engine.proofs.TimeLaws.{comes_later, behind_later}
use Rattle.cep_engine.proofs.engine.Engine.take_event.Goals as goal

pub invariant_of-self-2 : goal.invariant_of-self-2
invariant_of-self-2 c =
    let event = c.args.event in
    let fits : FitsSigned w64 event.ts = search rules in
    let trip : to_z w64 (of_z w64 event.ts) ≡ event.ts = to_z-of_z w64 event.ts fits in
    let some = c.self.invariant.stands (ap (λ v. v.spent) c.self.view_is ∙ c.requires.fresh) in
    let later = comes_later c.self.inside.last some.ticks event.ts some.stands.last
    (subst (λ v. IsNotBefore v.last event.ts) (sym c.self.view_is) c.requires.time) in
    record {
      plan = c.self.invariant.plan;
      nfa = c.self.invariant.nfa;
      room = c.self.invariant.room;
      behind =
          λ _. subst (λ (t : ℤ). AreKeptBefore c.take_event.new.runs.position t c.take_event.new.limits) (sym trip) c.in_ok-made.ensures.behind;
      stands = λ _. record {
        ticks = some.ticks ++ event_tick event ∷ [];
        stands = record {
          parts = c.in_ok-made.ensures.parts some.ticks some.stands.parts later;
          last = ap (λ (t : ℤ). Some (At t)) trip ∙ sym (last_time-push some.ticks (event_tick event));
        };
      };
    }

pub returns-clause-stands : goal.returns-clause-stands
returns-clause-stands c = λ ticks stands.
    let event = c.args.event in
    let fits : FitsSigned w64 event.ts = search rules in
    let trip : to_z w64 (of_z w64 event.ts) ≡ event.ts = to_z-of_z w64 event.ts fits in
    let parts = subst (λ v. PartsStand v.plan ticks v.runs v.buffer v.limits) (sym c.self.view_is) stands.parts in
    let later = comes_later c.args.self.now.last ticks event.ts stands.last c.requires.time in
    record {
      parts = c.in_ok-made.ensures.parts ticks parts later;
      last = ap (λ (t : ℤ). Some (At t)) trip ∙ sym (last_time-push ticks (event_tick event));
    }

pub returns-clause-shares : goal.returns-clause-shares
returns-clause-shares c = λ ticks stands.
    let event = c.args.event in
    let parts = subst (λ v. PartsStand v.plan ticks v.runs v.buffer v.limits) (sym c.self.view_is) stands.parts in
    let later = comes_later c.args.self.now.last ticks event.ts stands.last c.requires.time in
    subst (λ v. SharesExactly v.plan (ticks ++ event_tick event ∷ []) c.take_event.new.runs c.take_event.new.buffer) c.self.view_is
    (parts_share c.self.inside.plan (ticks ++ event_tick event ∷ []) c.take_event.new.runs c.take_event.new.buffer c.take_event.new.limits
    (c.in_ok-made.ensures.parts ticks parts later) c.facts.ensures)

pub take_event-requires-clause-behind : goal.take_event-requires-clause-behind
take_event-requires-clause-behind c =
    behind_later c.self.inside.runs.position c.self.inside.last c.self.inside.limits c.args.event.ts
    (c.self.invariant.behind (ap (λ v. v.spent) c.self.view_is ∙ c.requires.fresh))
    (subst (λ v. IsNotBefore v.last c.args.event.ts) (sym c.self.view_is) c.requires.time)

pub returns-clause-items : goal.returns-clause-items
returns-clause-items c = λ ticks stands.
    let event = c.args.event in
    let parts = subst (λ v. PartsStand v.plan ticks v.runs v.buffer v.limits) (sym c.self.view_is) stands.parts in
    let later = comes_later c.args.self.now.last ticks event.ts stands.last c.requires.time in
    c.in_ok-append.ensures.ok ∙ ap (λ r. c.self.inside.items ++ r) (c.in_ok-made.ensures.items ticks parts later)
    ∙ ap (λ v. v.items ++ kept_at v.plan ticks (event_tick event)) c.self.view_is
