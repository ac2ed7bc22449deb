use Rattle.std.proofs.Common.{◌≡◌, ◌≤◌, length, take, fold, []}
use Rattle.std.specs.List.{sum_by}
use Rattle.pattern_rules.specs.Fields.{with_fields}
use Rattle.pattern_rules.proofs.fields.known_fields.Given as goal

abbrev pub invariant-loop-declared : goal.invariant-loop-declared
invariant-loop-declared l = record {
  made : l.fields ≡ fold (λ fields d. with_fields fields d.fields) [] (take l.declared-index l.types);
  few : length l.fields ≤ sum_by (λ d. length d.fields) (take l.declared-index l.types);
}
