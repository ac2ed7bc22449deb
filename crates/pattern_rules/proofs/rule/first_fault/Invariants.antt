use Rattle.std.proofs.Common.{◌≡◌, drop}
use Rattle.pattern_rules.specs.First.{first_some}
use Rattle.pattern_rules.specs.Rules.{fault_by}
use Rattle.pattern_rules.proofs.rule.first_fault.Given as goal

abbrev pub invariant-loop-code : goal.invariant-loop-code
invariant-loop-code l = first_some (fault_by l.file l.fields) (drop l.code-index l.rules) ≡ first_some (fault_by l.file l.fields) l.rules
