-- The bounds of the stages of a plan, where no number of a loop is refused.
use Rattle.std.proofs.Common.{◌≡◌, ℕ, ◌≤◌, Bool, true, false, ◌&&◌, ◌||◌, List, [], ◌∷◌, refl, arith}
use Rattle.std.specs.Prelude.{nat_lt, nat_le, Option, Some, None}
use Rattle.std.specs.Option.{unwrap_or, option_map}
use Rattle.std.proofs.lemmas.Bool.Decides.{nat_tests}
use Rattle.cep_syntax.specs.declared.file.ModKind.{ModKind}
use Rattle.cep_syntax.specs.declared.file.ModKind.TheVariants as modifier
use Rattle.cep_syntax.specs.declared.file.Modifier.{Modifier}
use Rattle.pattern_rules.specs.declared.role.Role.TheVariants as role
use Rattle.pattern_rules.specs.First.{or_else, first_some, place_if}
use Rattle.pattern_rules.specs.Role.{has_bad_numbers, is_bad_number, are_bad_numbers, first_of}
use Rattle.pattern_rules.specs.Bounds.{bounds_in, bounds_of, times_of, states_within}
use Rattle.pattern_check.specs.Numbers.{times}
use Rattle.pattern_check.specs.Checked.{reaches, states_up_to}
use Rattle.pattern_check.proofs.KeptRules.{first_none, second_none}

-- the bounds that a checked plan has
abbrev pub are_bounds : ℕ × Option ℕ → Bool
are_bounds (least, greatest) = nat_le 1 (times least) && (nat_le (times least) 256 && reaches (times least) (option_map times greatest))

abbrev if_bounds : Option (ℕ × Option ℕ) → Bool
if_bounds None = true
if_bounds (Some bounds) = are_bounds bounds

pub not_broken : (b : Bool) (place : ℕ) → place_if b place ≡ None → b ≡ false
not_broken true place e = absurd (cc)
not_broken false place e = refl

one : (n : ℕ) → is_bad_number n ≡ false → are_bounds (n, Some n) ≡ true
one n e = grind (arith, nat_tests)

two : (m n : ℕ) → (is_bad_number m || is_bad_number n || nat_lt n m) ≡ false → are_bounds (m, Some n) ≡ true
two m n e = grind (arith, nat_tests)

open_one : (n : ℕ) → is_bad_number n ≡ false → are_bounds (n, None) ≡ true
open_one n e = grind (arith, nat_tests)

from_times : (from : ℕ) (to : Option ℕ) → are_bad_numbers from to ≡ false → are_bounds (times_of from to) ≡ true
from_times from None e = one from e
from_times from (Some to) e = two from to e

from_modifier : (what : ModKind) → has_bad_numbers what ≡ false → if_bounds (bounds_in what) ≡ true
from_modifier (modifier.Times from to) e = from_times from to e
from_modifier (modifier.TimesOrMore from) e = open_one from e
from_modifier modifier.OneOrMore e = refl
from_modifier (modifier.Filter join x) e = refl
from_modifier (modifier.Until x) e = refl
from_modifier modifier.Optional e = refl
from_modifier modifier.Consecutive e = refl
from_modifier modifier.AllowCombinations e = refl

joined : (a b : Option (ℕ × Option ℕ)) (d : ℕ × Option ℕ) → if_bounds a ≡ true → are_bounds (unwrap_or b d) ≡ true
    → are_bounds (unwrap_or (or_else a b) d) ≡ true
joined None b d e f = f
joined (Some bounds) b d e f = e

bounds_kept : (mods : List Modifier) → first_of role.BadTimes mods ≡ None → are_bounds (unwrap_or (first_some (λ m. bounds_in m.what) mods) (1, Some 1)) ≡ true
bounds_kept [] e = refl
bounds_kept (m ∷ mods) e =
    let here = not_broken (has_bad_numbers m.what) m.place (first_none (place_if (has_bad_numbers m.what) m.place) (first_of role.BadTimes mods) e) in
    let later = bounds_kept mods (second_none (place_if (has_bad_numbers m.what) m.place) (first_of role.BadTimes mods) e) in
    joined (bounds_in m.what) (first_some (λ m. bounds_in m.what) mods) (1, Some 1) (from_modifier m.what here) later

pub are_bounds_of : (mods : List Modifier) → first_of role.BadTimes mods ≡ None → are_bounds (bounds_of mods) ≡ true
are_bounds_of mods e = bounds_kept mods e

pub fewer_states : (bounds : ℕ × Option ℕ) → states_up_to (times bounds.0) (option_map times bounds.1) ≤ states_within bounds
fewer_states (least, None) = omega arith
fewer_states (least, Some greatest) = omega arith
