-- None of the waits so far was taken.
use Rattle.std.proofs.Common.{◌≡◌, map, take}
use Rattle.nfa_compile.specs.declared.nfa.Wait.{Wait}
use Rattle.run_step.proofs.runs.RunSet.new.Given as goal

abbrev pub invariant-loop-wait : goal.invariant-loop-wait
invariant-loop-wait l = l.bumps.items ≡ map (λ (w : Wait). 0) (take l._wait-index l._wait-items)
