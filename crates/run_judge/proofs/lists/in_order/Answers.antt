use Rattle.std.proofs.Common.{sym, subst, rules}
use Rattle.std.proofs.lemmas.List.Sorted.{answers_always}
use Rattle.std.specs.List.Sorted.{IsSortedBy}
use Rattle.live_laws.specs.Starts.{comes_earlier}
use Rattle.live_laws.proofs.OrderLaws.{comes_earlier-order}
use Rattle.run_judge.proofs.lists.in_order.Goals as goal

pub returns-clause-sorted : goal.returns-clause-sorted
returns-clause-sorted c =
    subst (IsSortedBy comes_earlier) (sym c.from_vec.ensures)
    (c.in_ok-sort_by.ensures.sorted comes_earlier comes_earlier-order (answers_always _ _ _ (λ f a r f' called. search rules)))
