use Rattle.std.proofs.Common.{◌≡◌, ◌≤◌, length}
use Rattle.cep_syntax.specs.declared.depth.TheConstants.{DEEPEST}
use Rattle.cep_syntax.specs.Depth.{too_deep_from}
use Rattle.cep_syntax.proofs.depth.too_deep.Given as goal

abbrev pub invariant-loop-cursor : goal.invariant-loop-cursor
invariant-loop-cursor l = (too_deep_from l.depth l.cursor ≡ too_deep_from 0 l.fn.cursor) × (l.depth ≤ DEEPEST)

abbrev pub decreases-loop-cursor : goal.decreases-loop-cursor
decreases-loop-cursor l = length l.cursor
