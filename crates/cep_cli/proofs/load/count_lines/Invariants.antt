-- The lines that were handled and counted.
use Rattle.std.proofs.Common.{◌≡◌, ◌++◌, [], ℕ, List, length, Option, false}
use Rattle.cep_plan.specs.declared.plan.Plan.{Plan}
use Rattle.cep_session.specs.Meaning.{sofar}
use Rattle.sharing_laws.specs.Sizes.{greatest_held}
use Rattle.told_list.specs.Grows.{Grows}
use Rattle.cep_cli.specs.Counted.{HasCounted}
use Rattle.cep_cli.specs.Meaning.{sizes_of_lines}
use Rattle.cep_cli.proofs.load.count_lines.Given as goal

abbrev pub invariant-loop-line : goal.invariant-loop-line
invariant-loop-line g l =
    (done : List (List ℕ)) × (l.initial.lines ≡ done ++ l.lines) × (l.row ≡ length done)
    × ((lag : Option ℕ) (plan : Plan) → HasCounted lag plan l.initial.pipeline l.initial.counts [] → HasCounted lag plan l.pipeline l.counts done)
    × ((lag : Option ℕ) (plan : Plan) → HasCounted lag plan l.initial.pipeline l.initial.counts []
    → Grows (g.G.Gauge.seen l.initial.gauge) (g.G.Gauge.seen l.gauge) (sofar (sizes_of_lines false lag plan) done)
    × (l.greatest ≡ greatest_held (sofar (sizes_of_lines false lag plan) done)))

abbrev pub decreases-loop-line : goal.decreases-loop-line
decreases-loop-line g l = length l.lines
