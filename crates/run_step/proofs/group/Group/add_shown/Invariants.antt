-- The tips of the runs up to the place.
use Rattle.std.proofs.Common.{◌≡◌, ◌++◌, map, take}
use Rattle.std.specs.Prelude.{filter}
use Rattle.run_step.specs.Showing.{is_shown, tip_of}
use Rattle.run_step.proofs.group.Group.add_shown.Given as goal

abbrev pub invariant-loop-place : goal.invariant-loop-place
invariant-loop-place l = l.tips ≡ l.initial.tips ++ map tip_of (filter (is_shown l.nfa l.due) (take l.place l.self-inside.runs.items))
