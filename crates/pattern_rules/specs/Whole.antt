-- Rules of the whole pattern: its time limits and its skip strategy. The range of the limits is this project's own.
use Rattle.std.specs.Prelude.{ℕ, Bool, false, not, ◌||◌, nat_lt, List, Option, Some, None}
use Rattle.std.specs.List.{slice_get}
use Rattle.std.specs.Option.{is_some}
use Rattle.cep_reading.specs.declared.name.Name.{Name}
use Rattle.cep_syntax.specs.declared.file.Opener.{Opener}
use Rattle.cep_syntax.specs.declared.file.PlacedNumber.{PlacedNumber}
use Rattle.cep_syntax.specs.declared.file.SkipDecl.{SkipDecl}
use Rattle.cep_syntax.specs.declared.file.SkipDecl.TheVariants as skip
use Rattle.cep_syntax.specs.declared.file.File.{File}
use Rattle.pattern_rules.specs.First.{or_else, place_if}
use Rattle.pattern_rules.specs.Bounds.{is_negated}
use Rattle.pattern_rules.specs.Named.{opener_number}
use Rattle.pattern_rules.specs.declared.whole.TheConstants.{GREATEST_LIMIT}

-- the time of a match is limited, as a whole or between neighbouring events
abbrev pub has_limit : File → Bool
has_limit file = is_some file.within || is_some file.within_gap

-- the limit is 0 or over 2 ^ 62
unfoldable pub bad_limit : Option PlacedNumber → Option ℕ
bad_limit None = None
bad_limit (Some n) = place_if (nat_lt n.value 1 || nat_lt GREATEST_LIMIT n.value) n.place

-- one of the limits is; that of the whole pattern stands first
abbrev pub bad_within : File → Option ℕ
bad_within file = or_else (bad_limit file.within) (bad_limit file.within_gap)

abbrev pub is_positive_one : Option Opener → Bool
is_positive_one None = false
is_positive_one (Some o) = not (is_negated o.how)

-- the name is that of no positive stage
abbrev pub bad_skip_name : List Opener → Name → Option ℕ
bad_skip_name openers name = place_if (not (is_positive_one (slice_get openers (opener_number openers name.text)))) name.place

unfoldable pub skip_name : List Opener → Option SkipDecl → Option ℕ
skip_name openers (Some (skip.ToFirst name)) = bad_skip_name openers name
skip_name openers (Some (skip.ToLast name)) = bad_skip_name openers name
skip_name openers _ = None
