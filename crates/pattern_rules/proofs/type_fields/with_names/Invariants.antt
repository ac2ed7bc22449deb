use Rattle.std.proofs.Common.{◌≡◌, ℕ, ◌||◌, List, take}
use Rattle.std.specs.BTreeSet.{contains_text}
use Rattle.pattern_rules.specs.Named.{is_declared}
use Rattle.pattern_rules.proofs.type_fields.with_names.Given as goal

abbrev pub invariant-loop-field : goal.invariant-loop-field
invariant-loop-field l = (q : List ℕ) → contains_text l.made q ≡ (contains_text l.fn.names q || is_declared (take l.field-index l.fields) q)
