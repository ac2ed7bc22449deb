use Rattle.std.proofs.Common.{◌≡◌, map}
use Rattle.std.specs.List.{range_with_len, flat_map}
use Rattle.nfa_compile.specs.State.{states_at}
use Rattle.nfa_compile.specs.Automaton.{took_of}
use Rattle.nfa_compile.proofs.compiled.all_states.Given as goal

abbrev pub invariant-loop-stage : goal.invariant-loop-stage
invariant-loop-stage l = l.took ≡ map (took_of l.plan) (flat_map (states_at l.plan) (range_with_len 0 l.stage))
