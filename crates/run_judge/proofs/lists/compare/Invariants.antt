use Rattle.std.proofs.Common.{◌≡◌, drop}
use Rattle.cep_plan.specs.Entry.{entries_in}
use Rattle.cep_plan.specs.Order.{list_cmp}
use Rattle.run_judge.proofs.lists.compare.Given as goal

abbrev pub invariant-loop-place : goal.invariant-loop-place
invariant-loop-place l = list_cmp (entries_in l.list) (entries_in l.other) ≡ list_cmp (entries_in (drop l.place l.list)) (entries_in (drop l.place l.other))
