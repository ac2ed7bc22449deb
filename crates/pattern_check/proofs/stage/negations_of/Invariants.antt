use Rattle.std.proofs.Common.{◌≡◌, map, take}
use Rattle.std.specs.List.{filter}
use Rattle.pattern_rules.specs.Bounds.{is_negated}
use Rattle.pattern_check.specs.Plan.{negation_of}
use Rattle.pattern_check.proofs.stage.negations_of.Given as goal

abbrev pub invariant-loop-opener : goal.invariant-loop-opener
invariant-loop-opener l = l.negations ≡ map (negation_of l.fields l.file) (filter (λ o. is_negated o.how) (take l.opener-index l.openers))
