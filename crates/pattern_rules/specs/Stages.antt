-- Rules of stages. That a pattern ends in a negation only where it is a `notFollowedBy` and the time is limited is the manual's, but for the limit
-- between neighbouring events, which is this project's own. So are that no negation stands behind an optional stage, which modifiers may stand
-- together, and the limits of numbers.
use Rattle.std.specs.Prelude.{ℕ, ◌+◌, ◌-◌, Bool, true, false, not, ◌&&◌, nat_lt, List, [], ◌∷◌, take, length, fold, Option, Some, None, if◌then◌else◌}
use Rattle.std.specs.List.{sum_by, slice_get}
use Rattle.cep_reading.specs.declared.name.Name.{Name}
use Rattle.cep_syntax.specs.declared.file.TypeDecl.{TypeDecl}
use Rattle.cep_syntax.specs.declared.file.OpenKind.{OpenKind}
use Rattle.cep_syntax.specs.declared.file.OpenKind.TheVariants as how
use Rattle.cep_syntax.specs.declared.file.Opener.{Opener}
use Rattle.pattern_rules.specs.declared.role.Role.TheVariants as role
use Rattle.pattern_rules.specs.declared.stage.StageRule.{StageRule}
use Rattle.pattern_rules.specs.declared.stage.StageRule.TheVariants as rule
use Rattle.pattern_rules.specs.First.{first_some, first_numbered, place_if}
use Rattle.pattern_rules.specs.Role.{has, first_of, first_again}
use Rattle.pattern_rules.specs.Bounds.{is_negated, states_of}
use Rattle.pattern_rules.specs.Named.{is_type, is_stage}

-- ---- rules of one stage

-- `of` names no declared type
abbrev pub unknown_type : List TypeDecl → Option Name → Option ℕ
unknown_type types None = None
unknown_type types (Some name) = place_if (not (is_type types name.text)) name.place

-- a negation has a modifier other than `where` and `or`
abbrev pub quantifier_on_not : Opener → Option ℕ
quantifier_on_not o = if is_negated o.how then first_of role.NoCondition o.mods else None

-- a stage has a second loop, a second `optional` or a second `until`
abbrev pub twice_quantifier : Opener → Option ℕ
twice_quantifier o = first_again (role.Loop ∷ role.Optional ∷ role.Until ∷ []) o.mods

-- a number of `times` or `timesOrMore` is 0 or over 256, or the second is below the first
abbrev pub bad_times : Opener → Option ℕ
bad_times o = first_of role.BadTimes o.mods

-- a mode of loops on a stage without a loop
abbrev pub mode_without_loop : Opener → Option ℕ
mode_without_loop o = if has role.Loop o.mods then None else first_of role.Mode o.mods

abbrev pub two_modes : Opener → Option ℕ
two_modes o = first_again (role.Mode ∷ []) o.mods

-- `until` on a stage without a loop that has no greatest number
abbrev pub until_without_open_loop : Opener → Option ℕ
until_without_open_loop o = if has role.OpenLoop o.mods then None else first_of role.Until o.mods

abbrev pub broken_in_stage : StageRule → List TypeDecl → Opener → Option ℕ
broken_in_stage rule.UnknownType types o = unknown_type types o.of
broken_in_stage rule.QuantifierOnNot types o = quantifier_on_not o
broken_in_stage rule.TwiceQuantifier types o = twice_quantifier o
broken_in_stage rule.BadTimes types o = bad_times o
broken_in_stage rule.ModeWithoutLoop types o = mode_without_loop o
broken_in_stage rule.TwoModes types o = two_modes o
broken_in_stage rule.UntilWithoutOpenLoop types o = until_without_open_loop o

unfoldable pub broken_in_stages : StageRule → List TypeDecl → List Opener → Option ℕ
broken_in_stages asked types openers = first_some (broken_in_stage asked types) openers

-- ---- rules of the row of stages

-- a stage's name, negated or not, stood before
unfoldable pub twice_stage : List Opener → Option ℕ
twice_stage openers = first_numbered (λ k o. place_if (is_stage (take k openers) o.name.text) o.name.place) openers

-- What may not stand last: `notNext`, and without a limit of time `notFollowedBy` too, since no other event would end its wait.
abbrev pub may_not_end : Bool → OpenKind → Bool
may_not_end is_limited how.NotNext = true
may_not_end is_limited how.NotFollowedBy = not is_limited
may_not_end is_limited _ = false

abbrev pub wrong_end : Bool → Option Opener → Option ℕ
wrong_end is_limited None = None
wrong_end is_limited (Some o) = place_if (may_not_end is_limited o.how) o.name.place

unfoldable pub ends_with_not : Bool → List Opener → Option ℕ
ends_with_not is_limited openers = wrong_end is_limited (slice_get openers (length openers - 1))

-- whether the last positive stage is optional, from whether that before the opener is
abbrev pub behind : Bool → Opener → Bool
behind is_behind o = if is_negated o.how then is_behind else has role.Optional o.mods

-- the last positive stage of these is optional
abbrev pub ends_optional : List Opener → Bool
ends_optional openers = fold behind false openers

-- the last positive stage before a negation is optional
unfoldable pub not_after_optional : List Opener → Option ℕ
not_after_optional openers = first_numbered (λ k o. place_if (is_negated o.how && ends_optional (take k openers)) o.name.place) openers

abbrev pub place_of : Option Opener → Option ℕ
place_of None = None
place_of (Some o) = Some o.name.place

-- there are over 64 stages, negated ones included: the 65th stands at number 64
unfoldable pub too_many_stages : List Opener → Option ℕ
too_many_stages openers = place_of (slice_get openers 64)

-- the sum of states passes 1,024
unfoldable pub too_many_states : List Opener → Option ℕ
too_many_states openers = first_numbered (λ k o. place_if (nat_lt 1024 (sum_by states_of (take k openers) + states_of o)) o.name.place) openers
