use Rattle.std.proofs.Common.{◌≡◌, ◌≤◌, take}
use Rattle.std.specs.List.{sum_by}
use Rattle.nfa_compile.specs.State.{greatest_count}
use Rattle.nfa_compile.proofs.compilable.have_few_states.Given as goal

abbrev pub invariant-loop-stage : goal.invariant-loop-stage
invariant-loop-stage l = (l.states ≡ sum_by greatest_count (take l.stage-index l.stages)) × (l.states ≤ 1024)
