use Rattle.std.proofs.Common.{◌≡◌, drop, take, ◌&&◌}
use Rattle.pattern_rules.specs.First.{first_from, place_if}
use Rattle.pattern_rules.specs.Bounds.{is_negated}
use Rattle.pattern_rules.specs.Stages.{ends_optional}
use Rattle.pattern_rules.proofs.stages.not_after_optional.Given as goal

abbrev pub invariant-loop-opener : goal.invariant-loop-opener
invariant-loop-opener l = record {
  behind : l.is_behind ≡ ends_optional (take l.opener-index l.openers);
  rest : first_from (λ k o. place_if (is_negated o.how && ends_optional (take k l.openers)) o.name.place) l.opener-index (drop l.opener-index l.openers)
      ≡ first_from (λ k o. place_if (is_negated o.how && ends_optional (take k l.openers)) o.name.place) 0 l.openers;
}
