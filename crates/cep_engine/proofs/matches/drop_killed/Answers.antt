use Rattle.std.proofs.Common.{◌≡◌, refl, true, sym, ◌∙◌, ap, subst, not, arith, ◌<◌, ◌-◌, ◌^◌, List, take}
use Rattle.std.specs.Prelude.{int_le, filter, map}
use Rattle.std.specs.List.{list_any, AllByRecursion as Each}
use Rattle.std.proofs.lemmas.List.{take_all}
use Rattle.cep_plan.specs.declared.item.Taken.{Taken}
use Rattle.cep_plan.specs.declared.item.Item.TheVariants.{Match}
use Rattle.cep_plan.specs.Skipping.{kills_start}
use Rattle.live_laws.specs.Starts.{item_kills_start}
use Rattle.live_laws.proofs.MemberLaws.{Each-filter}
use Rattle.time_limit.specs.declared.queue.Place.{Place}
use Rattle.skip_strategy.specs.Range.{is_in}
use Rattle.cep_engine.specs.State.{AreKeptBefore}
use Rattle.cep_engine.specs.Small.{AreSmall}
use Rattle.cep_engine.proofs.LoopLaws.{filter-more, filter_true, any_match, Each-get}
use Rattle.cep_engine.proofs.matches.drop_killed.Goals as goal

pub loop-list-init : goal.loop-list-init
loop-list-init c = (
  (λ small. λ i. record c.args.limits.now {
    starts =
        sym (filter_true (λ (s : Place). not (list_any (λ list. kills_start c.args.skip list s.position) (take 0 c.as_slice-list-items.result.now)))
        c.args.limits.now.starts (λ s. refl)) i;
  }),
  (λ position time h. h),
)

pub loop-list-preserved : goal.loop-list-preserved
loop-list-preserved c =
    let items = c.as_slice-list-items.result.now in
    let place = c.loop-list.list-index in
    let x = c.list-item.result in
    let Small = λ (l : List Taken). Each (λ (t : Taken). t.position < 2 ^ 32 - 1) l in (
      (λ small.
          let all = subst AreSmall (sym c.as_slice-list-items.ensures) small in
          let here = subst Small (sym c.list-item.is) (Each-get Small items place x c.loop-list-test.true all) in
          let before = c.loop-list.invariant.0 small in
          let more = filter-more (λ list (s : Place). kills_start c.args.skip list s.position)
          (λ s. is_in c.cut.result s.position) c.args.limits.now.starts items place x c.list-item.is c.loop-list-test.true
          (λ s. c.cut.ensures.positions here s.position) in
          c.drop_starts.ensures
          ∙ (λ i. record (before i) {
            starts =
                (ap (λ k. filter (λ (s : Place). not (is_in c.cut.result s.position)) k.starts) before ∙ more) i;
          })),
      (λ position time h.
          let known = c.loop-list.invariant.1 position time h in
          subst (AreKeptBefore position time) (sym c.drop_starts.ensures) (
            Each-filter (λ (s : Place). (s.position < position) × (int_le s.ts time ≡ true)) (λ s. not (is_in c.cut.result s.position))
                c.loop-list.limits.starts known.0,
            known.1,
          )),
    )

pub returns-clause-left : goal.returns-clause-left
returns-clause-left c = λ small.
    let items = c.as_slice-list-items.result.now in
    let test : (s : Place) → list_any (λ list. kills_start c.args.skip list s.position) (take c.loop-list.list-index items)
    ≡ list_any (item_kills_start c.args.skip s.position) (map Match c.args.found.now) =
    λ s. ap (list_any (λ list. kills_start c.args.skip list s.position))
    (take_all c.loop-list.list-index items (omega (arith, c.loop-list-test.false)) ∙ c.as_slice-list-items.ensures)
    ∙ sym (any_match (item_kills_start c.args.skip s.position) c.args.found.now) in
    c.loop-list.invariant.0 small
    ∙ (λ i. record c.args.limits.now { starts = filter (λ (s : Place). not (test s i)) c.args.limits.now.starts })
