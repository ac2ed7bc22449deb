-- The waits so far, whether all stages between are optional, and how many states there were.
use Rattle.std.proofs.Common.{◌≡◌, map}
use Rattle.std.specs.Prelude.{filter}
use Rattle.std.specs.List.{range_with_len}
use Rattle.cep_plan.specs.Follow.{all_optional, may_follow}
use Rattle.nfa_compile.specs.State.{stages_behind, states_before}
use Rattle.nfa_compile.specs.Passing.{first_behind}
use Rattle.nfa_compile.specs.Automaton.{wait_for}
use Rattle.nfa_compile.proofs.waiting.waits_of.Given as goal

abbrev pub invariant-loop-place : goal.invariant-loop-place
invariant-loop-place l =
    (l.waits ≡ map (wait_for l.plan (stages_behind l.reached)) (filter (may_follow l.plan (stages_behind l.reached)) (range_with_len 0 l.place)))
    × (l.passable ≡ all_optional l.plan (first_behind l.reached) l.place)
    × (l.before ≡ states_before l.plan l.place)
