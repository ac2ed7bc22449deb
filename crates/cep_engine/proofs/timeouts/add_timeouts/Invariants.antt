-- The items so far.
use Rattle.std.proofs.Common.{◌≡◌, ◌++◌, map}
use Rattle.cep_plan.specs.declared.item.Item.TheVariants.{Timeout}
use Rattle.cep_engine.proofs.timeouts.add_timeouts.Given as goal

abbrev pub invariant-loop-list : goal.invariant-loop-list
invariant-loop-list l = l.items ≡ l.initial.items ++ map Timeout l.yielded
