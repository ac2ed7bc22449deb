-- The tips of the groups so far.
use Rattle.std.proofs.Common.{◌≡◌, take}
use Rattle.std.specs.Prelude.{flat_map}
use Rattle.run_step.specs.Showing.{shown_in}
use Rattle.run_step.proofs.shown.waiting_tips.Given as goal

abbrev pub invariant-loop-group : goal.invariant-loop-group
invariant-loop-group l = l.tips ≡ flat_map (shown_in l.nfa l.due) (take l.group-index l.group-items)
