use Rattle.std.proofs.Common.{sym, subst, rules}
use Rattle.std.proofs.lemmas.List.Sorted.{answers_always}
use Rattle.std.specs.List.Sorted.{IsSortedBy}
use Rattle.run_step.specs.Showing.{comes_before}
use Rattle.run_step.proofs.TipLaws.{comes_before-order}
use Rattle.run_step.proofs.shown.in_order.Goals as goal

pub returns-clause-sorted : goal.returns-clause-sorted
returns-clause-sorted c =
    subst (IsSortedBy comes_before) (sym c.from_vec.ensures)
    (c.in_ok-sort_by.ensures.sorted comes_before comes_before-order (answers_always _ _ _ (λ f a r f' called. search rules)))
