use Rattle.std.proofs.Common.{◌≡◌, ◌++◌, map}
use Rattle.std.specs.List.{range_with_len}
use Rattle.nfa_compile.specs.Automaton.{took_of}
use Rattle.nfa_compile.proofs.compiled.add_states.Given as goal

abbrev pub invariant-loop-before : goal.invariant-loop-before
invariant-loop-before l = l.took ≡ l.initial.took ++ map (took_of l.plan) (map (λ count. record { stage = l.stage; count = count }) (range_with_len 1 l.before))
