-- The items so far.
use Rattle.std.proofs.Common.{◌≡◌, ◌++◌, map}
use Rattle.cep_plan.specs.declared.item.Item.TheVariants.{Match}
use Rattle.cep_engine.proofs.matches.add_matches.Given as goal

abbrev pub invariant-loop-list : goal.invariant-loop-list
invariant-loop-list l = l.items ≡ l.initial.items ++ map Match l.yielded
