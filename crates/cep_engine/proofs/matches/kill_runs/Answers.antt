use Rattle.std.proofs.Common.{refl, sym, ◌∙◌, ap, subst, arith, ◌<◌, ◌-◌, ◌^◌, List}
use Rattle.std.specs.List.{list_any, AllByRecursion as Each}
use Rattle.std.proofs.lemmas.List.{take_all}
use Rattle.cep_plan.specs.declared.item.Taken.{Taken}
use Rattle.cep_plan.specs.declared.item.Item.TheVariants.{Match}
use Rattle.cep_plan.specs.Skipping.{kills_start}
use Rattle.std.specs.Prelude.{map}
use Rattle.live_laws.specs.Starts.{item_kills_start}
use Rattle.skip_strategy.specs.Range.{is_in}
use Rattle.cep_engine.specs.Small.{AreSmall}
use Rattle.cep_engine.proofs.LoopLaws.{RunsStand-more, RunsStand-none, any_match, Each-get}
use Rattle.cep_engine.proofs.RunningLaws.{RunsStand-same, killed_some}
use Rattle.cep_engine.proofs.matches.kill_runs.Goals as goal

pub loop-list-init : goal.loop-list-init
loop-list-init c = (
  (λ small plan events scope stands. RunsStand-none plan events scope c.args.runs.now c.args.buffer.now stands),
  refl,
  c.requires,
)

pub loop-list-preserved : goal.loop-list-preserved
loop-list-preserved c =
    let items = c.as_slice-list-items.result.now in
    let place = c.loop-list.list-index in
    let x = c.list-item.result in
    let Small = λ (l : List Taken). Each (λ (t : Taken). t.position < 2 ^ 32 - 1) l in (
      (λ small plan events scope stands.
          let all = subst AreSmall (sym c.as_slice-list-items.ensures) small in
          let here = subst Small (sym c.list-item.is) (Each-get Small items place x c.loop-list-test.true all) in
          RunsStand-more (λ list p. kills_start c.args.skip list p) plan events scope (is_in c.cut.result) c.kill_range.new.runs
          c.kill_range.new.buffer items place x c.list-item.is c.loop-list-test.true (c.cut.ensures.positions here)
          (c.kill_range.ensures.runs plan events _ (c.loop-list.invariant.0 small plan events scope stands))),
      c.kill_range.ensures.position ∙ c.loop-list.invariant.1,
      killed_some c.loop-list.invariant.2 (c.kill_range.ensures.runs _ _ _ c.loop-list.invariant.2.stands),
    )

pub returns-clause-runs : goal.returns-clause-runs
returns-clause-runs c = λ small plan events scope stands.
    let items = c.as_slice-list-items.result.now in
    RunsStand-same plan events scope _ (λ p. list_any (item_kills_start c.args.skip p) (map Match c.args.found.now)) c.loop-list.runs c.loop-list.buffer
    (λ p. ap (list_any (λ list. kills_start c.args.skip list p))
    (take_all c.loop-list.list-index items (omega (arith, c.loop-list-test.false)) ∙ c.as_slice-list-items.ensures)
    ∙ sym (any_match (item_kills_start c.args.skip p) c.args.found.now))
    (c.loop-list.invariant.0 small plan events scope stands)
