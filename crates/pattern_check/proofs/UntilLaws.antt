-- `until` stands on a loop without a greatest number of events.
use Rattle.std.proofs.Common.{◌≡◌, ℕ, suc, ◌+◌, ◌<◌, Bool, true, false, cond, ◌&&◌, ◌||◌, List, [], ◌∷◌, length, get_or, take, refl, ap, subst, ◌∙◌, arith}
use Rattle.std.specs.Prelude.{Option, Some, None}
use Rattle.std.specs.List.{list_any}
use Rattle.std.specs.Option.{unwrap_or, option_map}
use Rattle.cep_event.specs.declared.event.Field.{Field}
use Rattle.cep_plan.specs.declared.condition.Cond.{Cond}
use Rattle.cep_syntax.specs.declared.file.ModKind.{ModKind}
use Rattle.cep_syntax.specs.declared.file.ModKind.TheVariants as modifier
use Rattle.cep_syntax.specs.declared.file.Modifier.{Modifier}
use Rattle.cep_syntax.specs.declared.file.Opener.{Opener}
use Rattle.pattern_rules.specs.declared.role.Role.{Role}
use Rattle.pattern_rules.specs.declared.role.Role.TheVariants as role
use Rattle.pattern_rules.specs.First.{or_else, first_some, first_from, place_if}
use Rattle.pattern_rules.specs.Role.{is_loop, is_open_loop, is_until, has, first_of, is_again}
use Rattle.pattern_rules.specs.Bounds.{bounds_in, bounds_of}
use Rattle.pattern_rules.specs.Stages.{twice_quantifier, until_without_open_loop}
use Rattle.pattern_check.specs.Numbers.{times}
use Rattle.pattern_check.specs.Conditions.{until_in, until_of}
use Rattle.pattern_check.specs.Checked.{ends_open_loop}
use Rattle.pattern_check.proofs.KeptRules.{first_none, second_none}
use Rattle.pattern_check.proofs.BoundLaws.{not_broken}
use Rattle.pattern_check.proofs.FromLaws.{from_none_at}
use Rattle.pattern_check.proofs.AfterLaws.{first_false, none_of}

-- ---- a second loop

-- of two modifiers one is no loop
record HasOneLoop (mods : List Modifier) : Type 0 where
  one_loop : (i j : ℕ) (d : Modifier) → i < j → j < length mods → is_loop (get_or mods j d).what ≡ true → is_loop (get_or mods i d).what ≡ false

pub second_so : (a b : Bool) → (a && b) ≡ false → a ≡ true → b ≡ false
second_so true b e h = e
second_so false b e h = absurd (cc)

abbrev quantifiers : List Role
quantifiers = role.Loop ∷ role.Optional ∷ role.Until ∷ []

one_loop_of : (mods : List Modifier) → first_from (λ k m. place_if (list_any (is_again (take k mods) m) quantifiers) m.place) 0 mods ≡ None → HasOneLoop mods
one_loop_of mods e = record {
  one_loop = λ i j d before within loops.
      (let m : Modifier = get_or mods j d in
      let kept_there = from_none_at (λ k x. place_if (list_any (is_again (take k mods) x) quantifiers) x.place) 0 mods j d within e in
      let zero_so : 0 + j ≡ j = omega arith in
      let none = subst (λ (n : ℕ). list_any (is_again (take n mods) m) quantifiers ≡ false) zero_so (not_broken (list_any (is_again (take (0 + j) mods) m) quantifiers) m.place kept_there) in
      let again = first_false (is_again (take j mods) m role.Loop) (list_any (is_again (take j mods) m) (role.Optional ∷ role.Until ∷ [])) none in
      none_of (λ x. is_loop x.what) mods j i d (second_so (is_loop m.what) (has role.Loop (take j mods)) again loops) before (omega arith));
}

later_loops : (m : Modifier) (mods : List Modifier) → HasOneLoop (m ∷ mods) → HasOneLoop mods
later_loops m mods h = record { one_loop = λ i j d before within. h.one_loop (suc i) (suc j) d (omega arith) (omega arith) }

found_step : (what : ModKind) (h b : Bool) → (is_open_loop what || h) ≡ true → (is_loop what ≡ true → b ≡ false) → (h ≡ true → b ≡ false) → b ≡ false
found_step (modifier.TimesOrMore from) h b e here later = here refl
found_step modifier.OneOrMore h b e here later = here refl
found_step (modifier.Times from to) h b e here later = later e
found_step (modifier.Filter join x) h b e here later = later e
found_step (modifier.Until x) h b e here later = later e
found_step modifier.Optional h b e here later = later e
found_step modifier.Consecutive h b e here later = later e
found_step modifier.AllowCombinations h b e here later = later e

loop_found : (b : Bool) (mods : List Modifier) (d : Modifier) → ((j : ℕ) → j < length mods → is_loop (get_or mods j d).what ≡ true → b ≡ false)
    → has role.OpenLoop mods ≡ true → b ≡ false
loop_found b [] d each e = absurd (cc)
loop_found b (m ∷ mods) d each e =
    found_step m.what (has role.OpenLoop mods) b e (each 0 (omega arith)) (loop_found b mods d (λ j h. each (suc j) (omega arith)))

bounds_step : (what : ModKind) (h : Bool) (rest : Option (ℕ × Option ℕ)) → (is_open_loop what || h) ≡ true → (h ≡ true → is_loop what ≡ false)
    → (h ≡ true → (unwrap_or rest (1, Some 1)).1 ≡ None) → (unwrap_or (or_else (bounds_in what) rest) (1, Some 1)).1 ≡ None
bounds_step (modifier.TimesOrMore from) h rest e none later = refl
bounds_step modifier.OneOrMore h rest e none later = refl
bounds_step (modifier.Times from to) h rest e none later = let no = none e in absurd (cc)
bounds_step (modifier.Filter join x) h rest e none later = later e
bounds_step (modifier.Until x) h rest e none later = later e
bounds_step modifier.Optional h rest e none later = later e
bounds_step modifier.Consecutive h rest e none later = later e
bounds_step modifier.AllowCombinations h rest e none later = later e

open_bounds : (mods : List Modifier) → HasOneLoop mods → has role.OpenLoop mods ≡ true
    → (unwrap_or (first_some (λ m. bounds_in m.what) mods) (1, Some 1)).1 ≡ None
open_bounds [] h e = absurd (cc)
open_bounds (m ∷ mods) h e =
    bounds_step m.what (has role.OpenLoop mods) (first_some (λ x. bounds_in x.what) mods) e
    (loop_found (is_loop m.what) mods m (λ j within loops. h.one_loop 0 (suc j) m (omega arith) (omega arith) loops))
    (open_bounds mods (later_loops m mods h))

-- ---- `until`

never_ends : (until : Option Cond) → ends_open_loop until None ≡ true
never_ends None = refl
never_ends (Some cond) = refl

module _ (fields : List Field) (openers : List Opener) where
  no_until : (what : ModKind) → is_until what ≡ false → until_in fields openers what ≡ None
  no_until (modifier.Until x) e = absurd (cc)
  no_until (modifier.TimesOrMore from) e = refl
  no_until modifier.OneOrMore e = refl
  no_until (modifier.Times from to) e = refl
  no_until (modifier.Filter join x) e = refl
  no_until modifier.Optional e = refl
  no_until modifier.Consecutive e = refl
  no_until modifier.AllowCombinations e = refl

  no_untils : (mods : List Modifier) → first_of role.Until mods ≡ None → first_some (λ m. until_in fields openers m.what) mods ≡ None
  no_untils [] e = refl
  no_untils (m ∷ mods) e =
      let here = no_until m.what (not_broken (is_until m.what) m.place (first_none (place_if (is_until m.what) m.place) (first_of role.Until mods) e)) in
      let later = no_untils mods (second_none (place_if (is_until m.what) m.place) (first_of role.Until mods) e) in
      ap (λ o. or_else o (first_some (λ x. until_in fields openers x.what) mods)) here ∙ later

  ends_if : (b : Bool) (mods : List Modifier) → cond b None (first_of role.Until mods) ≡ None → (b ≡ true → (bounds_of mods).1 ≡ None)
      → ends_open_loop (first_some (λ m. until_in fields openers m.what) mods) (option_map times (bounds_of mods).1) ≡ true
  ends_if true mods e none =
      ap (λ greatest. ends_open_loop (first_some (λ m. until_in fields openers m.what) mods) (option_map times greatest)) (none refl)
      ∙ never_ends (first_some (λ m. until_in fields openers m.what) mods)
  ends_if false mods e none = ap (λ until. ends_open_loop until (option_map times (bounds_of mods).1)) (no_untils mods e)

  pub until_open : (o : Opener) → twice_quantifier o ≡ None → until_without_open_loop o ≡ None
      → ends_open_loop (until_of fields openers o.mods) (option_map times (bounds_of o.mods).1) ≡ true
  unfolding until_of
  until_open o once e = ends_if (has role.OpenLoop o.mods) o.mods e (open_bounds o.mods (one_loop_of o.mods once))
