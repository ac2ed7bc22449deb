use Rattle.std.proofs.Common.{◌≡◌, map, take}
use Rattle.std.specs.List.{filter}
use Rattle.pattern_check.specs.Numbers.{is_positive}
use Rattle.pattern_check.specs.Plan.{stage_of}
use Rattle.pattern_check.proofs.stage.stages_of.Given as goal

abbrev pub invariant-loop-opener : goal.invariant-loop-opener
invariant-loop-opener l = l.stages ≡ map (stage_of l.fields l.file) (filter (is_positive) (take l.opener-index l.openers))
