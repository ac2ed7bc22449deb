use Rattle.std.proofs.Common.{◌≡◌, drop}
use Rattle.pattern_rules.specs.First.{first_some}
use Rattle.pattern_rules.specs.Stages.{broken_in_stage}
use Rattle.pattern_rules.proofs.stage.broken_in_stages.Given as goal

abbrev pub invariant-loop-opener : goal.invariant-loop-opener
invariant-loop-opener l =
    first_some (broken_in_stage l.rule l.file.types) (drop l.opener-index l.file.openers)
    ≡ first_some (broken_in_stage l.rule l.file.types) l.file.openers
