-- The numbers so far, and what is left.
use Rattle.std.proofs.Common.{◌≡◌, ◌++◌, ◌-◌, length}
use Rattle.std.specs.Prelude.{filter}
use Rattle.std.specs.List.{range_with_len}
use Rattle.nfa_compile.specs.Automaton.{stands_between, negations_between}
use Rattle.nfa_compile.proofs.waiting.negations_between.Given as goal

abbrev pub invariant-loop-place : goal.invariant-loop-place
invariant-loop-place l =
    negations_between l.plan l.last l.stage
    ≡ l.between ++ filter (stands_between l.plan l.last l.stage) (range_with_len l.place (length l.plan.negations - l.place))
