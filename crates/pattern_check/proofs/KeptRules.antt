-- A file without a fault keeps each of the rules.
use Rattle.std.proofs.Common.{◌≡◌, ℕ, zero, suc, ◌<◌, ◌≤◌, List, [], ◌∷◌, length, get_or, refl, arith}
use Rattle.std.specs.Prelude.{Option, Some, None}
use Rattle.std.specs.List.{slice_get}
use Rattle.cep_event.specs.declared.event.Field.{Field}
use Rattle.cep_syntax.specs.declared.file.File.{File}
use Rattle.cep_syntax.specs.declared.file.Opener.{Opener}
use Rattle.pattern_rules.specs.declared.rule.Rule.TheVariants as rule
use Rattle.pattern_rules.specs.First.{or_else, first_some}
use Rattle.pattern_rules.specs.Stages.{place_of, too_many_stages}
use Rattle.pattern_rules.specs.Rules.{rules, broken_by, fault_at, fault_by, fault_with}

pub first_none : {B : Type 0} (a b : Option B) → or_else a b ≡ None → a ≡ None
first_none None b e = refl
first_none (Some x) b e = e

pub second_none : {B : Type 0} (a b : Option B) → or_else a b ≡ None → b ≡ None
second_none None b e = e
second_none (Some x) b e = absurd (cc)

pub none_at : {A B : Type 0} (f : A → Option B) (xs : List A) (k : ℕ) (d : A) → k < length xs → first_some f xs ≡ None → f (get_or xs k d) ≡ None
none_at f [] k d h e = absurd (omega arith)
none_at f (x ∷ xs) zero d h e = first_none (f x) (first_some f xs) e
none_at f (x ∷ xs) (suc k) d h e = none_at f xs k d (omega arith) (second_none (f x) (first_some f xs) e)

no_fault : (code : ℕ) (o : Option ℕ) → fault_at code o ≡ None → o ≡ None
no_fault code None e = refl
no_fault code (Some place) e = absurd (cc)

no_place : (o : Option Opener) → place_of o ≡ None → o ≡ None
no_place None e = refl
no_place (Some o) e = absurd (cc)

pub past : {A : Type 0} (xs : List A) (k : ℕ) → slice_get xs k ≡ None → length xs ≤ k
past [] k e = omega arith
past (x ∷ xs) zero e = absurd (cc)
past (x ∷ xs) (suc k) e = let h = past xs k e in omega arith

module _ (fields : List Field) (file : File) (sound : fault_with fields file ≡ None) where
  -- the rule at this number of the list is kept
  pub kept : (k : ℕ) → k < 21 → broken_by file fields (get_or rules k (0, rule.TwiceType)).1 ≡ None
  unfolding fault_with
  kept k h = no_fault (get_or rules k (0, rule.TwiceType)).0 _ (none_at (fault_by file fields) rules k (0, rule.TwiceType) h sound)

  pub few_stages : length file.openers ≤ 64
  unfolding too_many_stages
  few_stages = past file.openers 64 (no_place (slice_get file.openers 64) (kept 19 (omega arith)))
