use Rattle.std.proofs.Common.{◌≡◌, drop}
use Rattle.std.specs.List.{list_all}
use Rattle.nfa_compile.specs.State.{has_bounds}
use Rattle.nfa_compile.proofs.compilable.have_bounds.Given as goal

abbrev pub invariant-loop-stage : goal.invariant-loop-stage
invariant-loop-stage l = list_all has_bounds (drop l.stage-index l.stages) ≡ list_all has_bounds l.stages
