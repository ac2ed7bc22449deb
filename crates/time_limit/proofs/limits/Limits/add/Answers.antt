use Rattle.std.proofs.Common.{◌≡◌, sym, subst, rules, ◌∷◌, [], ◌++◌}
use Rattle.time_limit.specs.declared.queue.Place.{Place}
use Rattle.time_limit.specs.Limits.{limited, AreInOrder, AreBefore}
use Rattle.time_limit.proofs.LimitLaws.{AreInOrder-keep}
use Rattle.time_limit.proofs.limits.Limits.add.Goals as goal

pub invariant_of-self-2 : goal.invariant_of-self-2
invariant_of-self-2 c =
    let place : Place = record { position = c.args.position; ts = c.args.ts } in
    let starts : c.keep.new.places.items ≡ c.self.inside.starts.items ++ limited c.self.inside.within (place ∷ []) = search rules in
    let lasts : c.keep-2.new.places.items ≡ c.self.inside.lasts.items ++ limited c.self.inside.gap (place ∷ []) = search rules in (
      subst AreInOrder (sym starts) (AreInOrder-keep c.self.inside.within c.self.inside.starts.items place c.self.invariant.0
          (subst (λ k. AreBefore c.args.position c.args.ts k.starts) (sym c.self.view_is) c.requires.starts)),
      subst AreInOrder (sym lasts) (AreInOrder-keep c.self.inside.gap c.self.inside.lasts.items place c.self.invariant.1
          (subst (λ k. AreBefore c.args.position c.args.ts k.lasts) (sym c.self.view_is) c.requires.lasts)),
    )
