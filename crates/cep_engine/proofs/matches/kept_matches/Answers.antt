use Rattle.std.proofs.Common.{◌≡◌, sym, ◌∙◌, ap, true, false, rules, ◌<◌, ◌-◌, ◌^◌, List, ◌∷◌, [], ◌++◌, subst}
use Rattle.std.specs.Prelude.{map}
use Rattle.std.specs.List.{AllByRecursion as Each}
use Rattle.cep_plan.specs.declared.item.Taken.{Taken}
use Rattle.cep_plan.specs.declared.item.Item.TheVariants.{Match}
use Rattle.cep_plan.specs.Skipping.{is_killed}
use Rattle.cep_engine.specs.Small.{AreSmall}
use Rattle.cep_engine.specs.Reach.{StartsNoLater, AreInStartOrder, KillBelow}
use Rattle.cep_engine.proofs.LoopLaws.{kept_after-killed, kept_after-kept, Each-push}
use Rattle.cep_engine.proofs.ReachLaws.{StartBefore, StartBefore-rest, StartBefore-next, killed_below, KillBelow-more, kept_none}
use Rattle.cep_engine.proofs.matches.kept_matches.Goals as goal

abbrev IsSmall : List Taken → Type 0
IsSmall list = Each (λ t. t.position < 2 ^ 32 - 1) list

pub loop-list-init : goal.loop-list-init
loop-list-init c = λ small. kept_none c.args.skip (search rules) (search rules) small

pub loop-list-preserved-in-Continue-1 : goal.loop-list-preserved-in-Continue-1
loop-list-preserved-in-Continue-1 c = λ small.
    let before = c.loop-list.invariant small in
    let list = c.in-Some.list in
    let found = c.loop-list.found in
    let rest : c.loop-list.list-iterator.rest.items ≡ list ∷ c.next.new.self.rest.items = search rules in
    let both = subst AreSmall rest before.1 in
    let pushed : c.push.new.self ≡ found ++ list ∷ [] = search rules in (
      subst AreSmall (sym pushed) (Each-push IsSmall found list before.0 both.0),
      both.1,
      λ order.
          let known = before.2 order in
          let later = subst AreInStartOrder rest known.1 in
          let behind = subst (StartBefore found) rest known.2 in
          let lives : is_killed c.args.skip (map Match found) list ≡ false = killed_below c.args.skip found c.loop-list.reach list known.3
          (StartBefore-next found list c.next.new.self.rest.items behind) ∙ sym c.starts_below.ensures ∙ (search rules) in (
            ap (map Match) pushed ∙ kept_after-kept c.args.skip found c.loop-list.yielded list known.0 lives,
            later.1,
            subst (λ f. StartBefore f c.next.new.self.rest.items) (sym pushed)
                (Each-push (λ m. Each (StartsNoLater m) c.next.new.self.rest.items) found list
                (StartBefore-rest found list c.next.new.self.rest.items behind) later.0),
            subst (λ f. KillBelow c.args.skip f c.farther-reach.result) (sym pushed)
                (subst (KillBelow c.args.skip (found ++ list ∷ [])) (sym c.farther-reach.ensures)
                (KillBelow-more c.args.skip found c.loop-list.reach list c.cut.result known.3 (c.cut.ensures.positions both.0) c.cut.ensures.from)),
          ),
    )

pub loop-list-preserved : goal.loop-list-preserved
loop-list-preserved c = λ small.
    let before = c.loop-list.invariant small in
    let list = c.in-Some.list in
    let found = c.loop-list.found in
    let rest : c.loop-list.list-iterator.rest.items ≡ list ∷ c.next.new.self.rest.items = search rules in
    let both = subst AreSmall rest before.1 in (
      before.0,
      both.1,
      λ order.
          let known = before.2 order in
          let behind = subst (StartBefore found) rest known.2 in
          let dies : is_killed c.args.skip (map Match found) list ≡ true = killed_below c.args.skip found c.loop-list.reach list known.3
          (StartBefore-next found list c.next.new.self.rest.items behind) ∙ sym c.starts_below.ensures ∙ (search rules) in (
            kept_after-killed c.args.skip found c.loop-list.yielded list known.0 dies,
            (subst AreInStartOrder rest known.1).1,
            StartBefore-rest found
                list c.next.new.self.rest.items behind,
            known.3,
          ),
    )
