use Rattle.std.proofs.Common.{◌≡◌, sym, ◌∙◌, ap, subst, rules, to_z, of_z, w64, [], ◌∷◌, ◌++◌}
use Rattle.std.specs.Prelude.{ℤ, Some, FitsSigned}
use Rattle.std.proofs.lemmas.Int.{to_z-of_z}
use Rattle.cep_event.specs.declared.record.Moment.TheVariants.{At}
use Rattle.cep_plan.specs.Tick.{mark_tick}
use Rattle.cep_engine.specs.Standing.{PartsStand, ComesLater}
use Rattle.cep_engine.specs.State.{IsNotBefore, AreKeptBefore}
use Rattle.cep_engine.proofs.OpenLaws.{last_time-push}
use Rattle.sharing_laws.specs.Sharing.{SharesExactly}
use Rattle.cep_engine.proofs.SharingLaws.{parts_share}
use Rattle.cep_engine.proofs.TimeLaws.{comes_later, behind_later}
use Rattle.cep_engine.proofs.engine.Engine.take_mark.Goals as goal

pub invariant_of-self-2 : goal.invariant_of-self-2
invariant_of-self-2 c =
    let fits : FitsSigned w64 c.args.time = search rules in
    let time : ℤ = to_z w64 (of_z w64 c.args.time) in
    let trip : time ≡ c.args.time = to_z-of_z w64 c.args.time fits in
    let fresh = ap (λ v. v.spent) c.self.view_is ∙ c.requires.fresh in
    let not_before : IsNotBefore c.self.inside.last time = subst (IsNotBefore c.self.inside.last) (sym trip)
    (subst (λ v. IsNotBefore v.last c.args.time) (sym c.self.view_is) c.requires.time) in
    let behind = behind_later c.self.inside.runs.position c.self.inside.last c.self.inside.limits time (c.self.invariant.behind fresh) not_before in
    let some = c.self.invariant.stands fresh in
    record {
      plan = c.self.invariant.plan;
      nfa = c.self.invariant.nfa;
      room = c.self.invariant.room;
      behind = λ _. subst (λ n. AreKeptBefore n time c.take_mark.new.limits) (sym c.in_ok-made.ensures.position)
          (c.in_ok-made.ensures.behind c.self.inside.runs.position time behind);
      stands = λ _. record {
        ticks = some.ticks ++ mark_tick (At time) ∷ [];
        stands = record {
          parts =
              c.in_ok-made.ensures.parts some.ticks some.stands.parts
              (comes_later c.self.inside.last some.ticks time some.stands.last not_before);
          last = sym (last_time-push some.ticks (mark_tick (At time)));
        };
      };
    }

pub returns-clause-stands : goal.returns-clause-stands
returns-clause-stands c = λ ticks stands.
    let fits : FitsSigned w64 c.args.time = search rules in
    let trip : to_z w64 (of_z w64 c.args.time) ≡ c.args.time = to_z-of_z w64 c.args.time fits in
    let parts = subst (λ v. PartsStand v.plan ticks v.runs v.buffer v.limits) (sym c.self.view_is) stands.parts in
    let later = subst (λ (t : ℤ). ComesLater ticks (At t)) (sym trip) (comes_later c.args.self.now.last ticks c.args.time stands.last c.requires.time) in
    record {
      parts =
          subst (λ (t : ℤ). PartsStand c.self.inside.plan (ticks ++ mark_tick (At t) ∷ []) c.take_mark.new.runs c.take_mark.new.buffer
          c.take_mark.new.limits) trip (c.in_ok-made.ensures.parts ticks parts later);
      last = ap (λ (t : ℤ). Some (At t)) trip ∙ sym (last_time-push ticks (mark_tick (At c.args.time)));
    }

pub returns-clause-shares : goal.returns-clause-shares
returns-clause-shares c = λ ticks stands.
    let fits : FitsSigned w64 c.args.time = search rules in
    let trip : to_z w64 (of_z w64 c.args.time) ≡ c.args.time = to_z-of_z w64 c.args.time fits in
    let parts = subst (λ v. PartsStand v.plan ticks v.runs v.buffer v.limits) (sym c.self.view_is) stands.parts in
    let later = subst (λ (t : ℤ). ComesLater ticks (At t)) (sym trip) (comes_later c.args.self.now.last ticks c.args.time stands.last c.requires.time) in
    let after = subst (λ (t : ℤ). PartsStand c.self.inside.plan (ticks ++ mark_tick
    (At t) ∷ []) c.take_mark.new.runs c.take_mark.new.buffer c.take_mark.new.limits) trip (c.in_ok-made.ensures.parts ticks parts later) in
    subst (λ v. SharesExactly v.plan (ticks ++ mark_tick (At c.args.time) ∷ []) c.take_mark.new.runs c.take_mark.new.buffer) c.self.view_is
    (parts_share c.self.inside.plan (ticks ++ mark_tick (At c.args.time) ∷ []) c.take_mark.new.runs c.take_mark.new.buffer c.take_mark.new.limits
    after c.facts.ensures)
