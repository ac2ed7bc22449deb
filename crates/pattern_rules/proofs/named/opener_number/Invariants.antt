use Rattle.std.proofs.Common.{◌≡◌, ◌+◌, drop}
use Rattle.std.specs.List.{position_or_len}
use Rattle.std.specs.Str.{bytes_eq}
use Rattle.pattern_rules.proofs.named.opener_number.Given as goal

abbrev pub invariant-loop-number : goal.invariant-loop-number
invariant-loop-number l =
    l.number + position_or_len (λ x. bytes_eq x.name.text l.name) (drop l.number l.openers)
    ≡ position_or_len (λ x. bytes_eq x.name.text l.name) l.openers
