-- The lists so far.
use Rattle.std.proofs.Common.{◌≡◌, ◌++◌}
use Rattle.cep_engine.proofs.timeouts.add_lists.Given as goal

abbrev pub invariant-loop-list : goal.invariant-loop-list
invariant-loop-list l = l.lists ≡ l.initial.lists ++ l.yielded
