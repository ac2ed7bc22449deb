-- How many events a stage takes. The numbers are those of the FlinkCEP chapter of the Flink manual; that a plain stage takes one is too.
use Rattle.std.specs.Prelude.{ℕ, Bool, true, false, List, Option, Some, None, if◌then◌else◌}
use Rattle.std.specs.Option.{unwrap_or}
use Rattle.cep_syntax.specs.declared.file.ModKind.{ModKind}
use Rattle.cep_syntax.specs.declared.file.ModKind.TheVariants as modifier
use Rattle.cep_syntax.specs.declared.file.Modifier.{Modifier}
use Rattle.cep_syntax.specs.declared.file.OpenKind.{OpenKind}
use Rattle.cep_syntax.specs.declared.file.OpenKind.TheVariants as how
use Rattle.cep_syntax.specs.declared.file.Opener.{Opener}
use Rattle.pattern_rules.specs.First.{first_some}

abbrev pub is_negated : OpenKind → Bool
is_negated how.NotNext = true
is_negated how.NotFollowedBy = true
is_negated _ = false

-- the least and the greatest number of events, if there is a greatest
abbrev pub times_of : ℕ → Option ℕ → ℕ × Option ℕ
times_of from None = (from, Some from)
times_of from (Some to) = (from, Some to)

abbrev pub bounds_in : ModKind → Option (ℕ × Option ℕ)
bounds_in (modifier.Times from to) = Some (times_of from to)
bounds_in (modifier.TimesOrMore from) = Some (from, None)
bounds_in modifier.OneOrMore = Some (1, None)
bounds_in _ = None

abbrev pub bounds_of : List Modifier → ℕ × Option ℕ
bounds_of mods = unwrap_or (first_some (λ m. bounds_in m.what) mods) (1, Some 1)

-- a state for each number of events up to the greatest, or to the least where there is no greatest
abbrev pub states_within : ℕ × Option ℕ → ℕ
states_within (least, None) = least
states_within (least, Some greatest) = greatest

-- the states of a stage; a negated one has none
abbrev pub states_of : Opener → ℕ
states_of o = if is_negated o.how then 0 else states_within (bounds_of o.mods)
