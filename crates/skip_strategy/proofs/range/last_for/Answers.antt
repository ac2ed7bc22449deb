use Rattle.std.proofs.Common.{sym, ◌∙◌, ap, take, [], ◌∷◌, ◌++◌}
use Rattle.std.proofs.lemmas.List.{take_more}
use Rattle.cep_plan.specs.Skipping.{end_of, entries_for}
use Rattle.skip_strategy.specs.Range.{newer}
use Rattle.skip_strategy.proofs.RangeLaws.{newer_behind}
use Rattle.skip_strategy.proofs.range.last_for.Goals as goal

pub loop-taken-preserved : goal.loop-taken-preserved
loop-taken-preserved c =
    let items = c.as_slice-taken-items.result.now in
    let before = take c.loop-taken.taken-index items in
    c.newest-last.ensures ∙ ap (λ last. newer c.args.stage last c.taken-item.result) c.loop-taken.invariant
    ∙ newer_behind c.args.stage before c.taken-item.result
    ∙ ap (λ l. end_of (entries_for c.args.stage l))
    (ap (λ t. before ++ t ∷ []) c.taken-item.is ∙ sym (take_more items c.loop-taken.taken-index c.taken-item.result c.loop-taken-test.true))
