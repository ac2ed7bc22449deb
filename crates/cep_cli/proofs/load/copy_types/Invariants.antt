use Rattle.std.proofs.Common.{◌≡◌, take}
use Rattle.cep_cli.proofs.load.copy_types.Given as goal

abbrev pub invariant-loop-declared : goal.invariant-loop-declared
invariant-loop-declared l = l.made ≡ take l.declared-index l.declared-items
