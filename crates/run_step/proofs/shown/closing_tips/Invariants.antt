-- The tips of the groups so far.
use Rattle.std.proofs.Common.{◌≡◌, take}
use Rattle.std.specs.Prelude.{flat_map}
use Rattle.run_step.specs.Showing.{shown_for}
use Rattle.run_step.proofs.shown.closing_tips.Given as goal

abbrev pub invariant-loop-group : goal.invariant-loop-group
invariant-loop-group l = l.tips ≡ flat_map (shown_for l.nfa l.due l.end) (take l.group-index l.group-items)
