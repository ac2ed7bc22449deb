use Rattle.std.proofs.Common.{◌≡◌, ◌≤◌, ◌+◌, length, take, fold}
use Rattle.pattern_rules.specs.Fields.{with_field}
use Rattle.pattern_rules.proofs.fields.add_fields.Given as goal

abbrev pub invariant-loop-declared : goal.invariant-loop-declared
invariant-loop-declared l = record {
  made : l.made ≡ fold with_field l.fn.fields (take l.declared-index l.more);
  few : length l.made ≤ length l.fn.fields + l.declared-index;
}
