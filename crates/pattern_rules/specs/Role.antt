-- What a modifier does in its stage. The quantifiers, the modes of loops and `until` are those of the FlinkCEP chapter of the Flink manual; which of
-- them may stand together is this project's own.
use Rattle.std.specs.Prelude.{ℕ, Bool, true, false, not, ◌&&◌, ◌||◌, nat_lt, List, take, Option, Some, None}
use Rattle.std.specs.List.{list_any}
use Rattle.cep_syntax.specs.declared.file.ModKind.{ModKind}
use Rattle.cep_syntax.specs.declared.file.ModKind.TheVariants as modifier
use Rattle.cep_syntax.specs.declared.file.Modifier.{Modifier}
use Rattle.pattern_rules.specs.declared.role.Role.{Role}
use Rattle.pattern_rules.specs.declared.role.Role.TheVariants as role
use Rattle.pattern_rules.specs.First.{first_some, first_numbered, place_if}

abbrev pub is_condition : ModKind → Bool
is_condition (modifier.Filter join e) = true
is_condition _ = false

abbrev pub is_loop : ModKind → Bool
is_loop (modifier.Times from to) = true
is_loop (modifier.TimesOrMore from) = true
is_loop modifier.OneOrMore = true
is_loop _ = false

-- a loop with no greatest number of events
abbrev pub is_open_loop : ModKind → Bool
is_open_loop (modifier.TimesOrMore from) = true
is_open_loop modifier.OneOrMore = true
is_open_loop _ = false

abbrev pub is_optional : ModKind → Bool
is_optional modifier.Optional = true
is_optional _ = false

abbrev pub is_until : ModKind → Bool
is_until (modifier.Until e) = true
is_until _ = false

abbrev pub is_consecutive : ModKind → Bool
is_consecutive modifier.Consecutive = true
is_consecutive _ = false

abbrev pub is_combining : ModKind → Bool
is_combining modifier.AllowCombinations = true
is_combining _ = false

-- a number of `times` is from 1 to 256
abbrev pub is_bad_number : ℕ → Bool
is_bad_number n = nat_lt n 1 || nat_lt 256 n

abbrev pub are_bad_numbers : ℕ → Option ℕ → Bool
are_bad_numbers from None = is_bad_number from
are_bad_numbers from (Some to) = is_bad_number from || is_bad_number to || nat_lt to from

abbrev pub has_bad_numbers : ModKind → Bool
has_bad_numbers (modifier.Times from to) = are_bad_numbers from to
has_bad_numbers (modifier.TimesOrMore from) = is_bad_number from
has_bad_numbers _ = false

abbrev pub has_role : Role → ModKind → Bool
has_role role.Condition what = is_condition what
has_role role.NoCondition what = not (is_condition what)
has_role role.Loop what = is_loop what
has_role role.OpenLoop what = is_open_loop what
has_role role.Optional what = is_optional what
has_role role.Until what = is_until what
has_role role.Mode what = is_consecutive what || is_combining what
has_role role.Consecutive what = is_consecutive what
has_role role.Combining what = is_combining what
has_role role.BadTimes what = has_bad_numbers what

-- some modifier has the role
abbrev pub has : Role → List Modifier → Bool
has part mods = list_any (λ m. has_role part m.what) mods

-- the place of the first modifier that has the role
abbrev pub first_of : Role → List Modifier → Option ℕ
first_of part mods = first_some (λ m. place_if (has_role part m.what) m.place) mods

-- a modifier has the role and one before it has it too
abbrev pub is_again : List Modifier → Modifier → Role → Bool
is_again before m part = has_role part m.what && has part before

-- the place of the first modifier that has one of the roles as a second one
abbrev pub first_again : List Role → List Modifier → Option ℕ
first_again roles mods = first_numbered (λ k m. place_if (list_any (is_again (take k mods) m) roles) m.place) mods
