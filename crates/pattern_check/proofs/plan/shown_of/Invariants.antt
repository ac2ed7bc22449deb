use Rattle.std.proofs.Common.{◌≡◌, map, take}
use Rattle.pattern_check.specs.Translated.{expr_of}
use Rattle.pattern_check.proofs.plan.shown_of.Given as goal

abbrev pub invariant-loop-expr : goal.invariant-loop-expr
invariant-loop-expr l = l.made ≡ map (expr_of l.fields l.openers) (take l.expr-index l.shown)
