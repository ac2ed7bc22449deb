-- A negation behind the last stage of the plan of a file without a fault: time is limited there, and the last one is no `notNext`.
use Rattle.std.proofs.Common.{◌≡◌, ℕ, suc, ◌-◌, ◌<◌, Bool, true, false, cond, not, ◌||◌, List, [], ◌∷◌, length, get_or, map, refl, sym, ap, ◌∙◌, arith}
use Rattle.std.specs.Prelude.{nat_lt, Option, Some, None}
use Rattle.std.specs.List.{list_all, filter, slice_get, last_or}
use Rattle.std.specs.Option.{is_some, option_map}
use Rattle.cep_event.specs.declared.event.Field.{Field}
use Rattle.cep_syntax.specs.declared.file.OpenKind.{OpenKind}
use Rattle.cep_syntax.specs.declared.file.OpenKind.TheVariants as how
use Rattle.cep_syntax.specs.declared.file.Opener.{Opener}
use Rattle.cep_syntax.specs.declared.file.PlacedNumber.{PlacedNumber}
use Rattle.cep_syntax.specs.declared.file.File.{File}
use Rattle.cep_syntax.specs.WellFormed.{begins_once, IsWellFormed}
use Rattle.pattern_rules.specs.Bounds.{is_negated}
use Rattle.pattern_rules.specs.Stages.{may_not_end, wrong_end, ends_with_not}
use Rattle.pattern_rules.specs.Whole.{has_limit}
use Rattle.pattern_rules.specs.Rules.{fault_with}
use Rattle.pattern_check.specs.Plan.{is_not_next, stages_of, negation_of, negations_of, limit_of, plan_with}
use Rattle.pattern_check.specs.Places.{is_limited, may_close}
use Rattle.pattern_check.proofs.KeptRules.{kept}
use Rattle.pattern_check.proofs.ListLaws.{left_of, right_of}
use Rattle.pattern_check.proofs.BoundLaws.{not_broken}
use Rattle.pattern_check.proofs.PlaceLaws.{got, made_of, before_last}

first_or : (a b : Bool) → a ≡ true → (a || b) ≡ true
first_or true b e = refl
first_or false b e = absurd (cc)

second_or : (a b : Bool) → b ≡ true → (a || b) ≡ true
second_or true b e = refl
second_or false b e = e

some_same : {A : Type 0} (x y : A) → Some x ≡ Some y → x ≡ y
some_same x y e = cc

-- ---- the last of a list

last_behind : {A : Type 0} (x : A) (xs : List A) → slice_get (x ∷ xs) (length xs) ≡ last_or (Some x) xs
last_behind x [] = refl
last_behind x (y ∷ xs) = last_behind y xs

last_is : {A : Type 0} (xs : List A) → slice_get xs (length xs - 1) ≡ last_or None xs
last_is [] = refl
last_is (x ∷ xs) = let same : length (x ∷ xs) - 1 ≡ length xs = omega arith in ap (slice_get (x ∷ xs)) same ∙ last_behind x xs

some_last : {A : Type 0} (x : A) (xs : List A) → last_or (Some x) xs ≡ None → ⊥
some_last x [] e = cc
some_last x (y ∷ xs) e = some_last y xs e

-- where the last of the list passes q, the last of those that are made is made of it
last_made : {A B : Type 0} (q : A → Bool) (f : A → B) (x : A) → q x ≡ true → (xs : List A) (o : Option A) (p : Option B) → last_or o xs ≡ Some x
    → (o ≡ Some x → p ≡ Some (f x)) → last_or p (map f (filter q xs)) ≡ Some (f x)
last_made q f x is [] o p e so = so e
last_made {A} {B} q f x is (y ∷ ys) o p e so = step (q y) refl (λ r h. last_made q f x is ys (Some y) r e h)
  where
    step : (b : Bool) → q y ≡ b → ((r : Option B) → (Some y ≡ Some x → r ≡ Some (f x)) → last_or r (map f (filter q ys)) ≡ Some (f x))
        → last_or p (map f (cond b (y ∷ filter q ys) (filter q ys))) ≡ Some (f x)
    step true t later = later (Some (f y)) (λ s. ap (option_map f) s)
    step false t later = later p (λ s. let no : true ≡ false = sym is ∙ sym (ap q (some_same y x s)) ∙ t in absurd (cc))

-- a last one of those that all pass
last_passes : {A : Type 0} (p : A → Bool) (test : Option A → Bool) → ((x : A) → p x ≡ true → test (Some x) ≡ true) → (xs : List A) (o : Option A)
    → test o ≡ true → list_all p xs ≡ true → test (last_or o xs) ≡ true
last_passes p test each [] o here e = here
last_passes p test each (x ∷ xs) o here e =
    last_passes p test each xs (Some x) (each x (left_of (p x) (list_all p xs) e)) (right_of (p x) (list_all p xs) e)

-- ---- the last opener

negated_so : (h : OpenKind) → may_not_end false h ≡ false → is_negated h ≡ false
negated_so how.Begin e = refl
negated_so how.Next e = refl
negated_so how.FollowedBy e = refl
negated_so how.FollowedByAny e = refl
negated_so how.NotNext e = absurd (cc)
negated_so how.NotFollowedBy e = absurd (cc)

waits_so : (is_limited : Bool) (h : OpenKind) → may_not_end is_limited h ≡ false → is_not_next h ≡ false
waits_so l how.Begin e = refl
waits_so l how.Next e = refl
waits_so l how.FollowedBy e = refl
waits_so l how.FollowedByAny e = refl
waits_so l how.NotNext e = absurd (cc)
waits_so l how.NotFollowedBy e = refl

limit_so : (limit : Option PlacedNumber) → is_some (limit_of limit) ≡ is_some limit
limit_so None = refl
limit_so (Some n) = refl

not_none : (openers : List Opener) → begins_once openers ≡ true → last_or None openers ≡ None → ⊥
not_none [] e l = absurd (cc)
not_none (o ∷ openers) e l = some_last o openers l

-- ---- the plan

module _ (fields : List Field) (file : File) (formed : IsWellFormed file) (sound : fault_with fields file ≡ None) where
  abbrev stages : ℕ
  stages = length (stages_of fields file)

  abbrev limited : Bool
  limited = is_limited (plan_with fields file)

  limited_so : limited ≡ has_limit file
  limited_so = λ i. limit_so file.within i || limit_so file.within_gap i

  end_kept : wrong_end (has_limit file) (slice_get file.openers (length file.openers - 1)) ≡ None
  unfolding ends_with_not
  end_kept = kept fields file sound 4 (omega arith)

  closes_here : (k : ℕ) (d : Opener) → k < length file.openers → is_negated (get_or file.openers k d).how ≡ true
      → (nat_lt (suc (negation_of fields file (get_or file.openers k d)).after) stages || limited) ≡ true
  closes_here k d h e = by_case (has_limit file) refl
    where
      by_case : (b : Bool) → has_limit file ≡ b → (nat_lt (suc (negation_of fields file (get_or file.openers k d)).after) stages || limited) ≡ true
      by_case true l = second_or _ limited (limited_so ∙ l)
      by_case false l =
          let last : Opener = get_or file.openers (length file.openers - 1) d in
          let there = got file.openers (length file.openers - 1) d (omega arith) in
          let none : wrong_end false (Some last) ≡ None = sym (λ i. wrong_end (l i) (there i)) ∙ end_kept in
          let positive = negated_so last.how (not_broken (may_not_end false last.how) last.name.place none) in
          first_or _ limited (before_last fields file formed sound k d h e positive)

  pub closes : list_all (λ n. nat_lt (suc n.after) stages || limited) (negations_of fields file) ≡ true
  unfolding negations_of
  closes = made_of (λ o. is_negated o.how) (negation_of fields file) (λ n. nat_lt (suc n.after) stages || limited) file.openers closes_here

  waits : (o : Opener) → wrong_end (has_limit file) (Some o) ≡ None → may_close stages (Some (negation_of fields file o)) ≡ true
  unfolding negation_of
  waits o e =
      second_or _ (not (is_not_next o.how))
      (ap not (waits_so (has_limit file) o.how (not_broken (may_not_end (has_limit file) o.how) o.name.place e)))

  pub last_waits : may_close stages (last_or None (negations_of fields file)) ≡ true
  unfolding negations_of
  last_waits = by_last (last_or None file.openers) refl
    where
      by_kind : (o : Opener) → last_or None file.openers ≡ Some o → (b : Bool) → is_negated o.how ≡ b
          → may_close stages (last_or None (map (negation_of fields file) (filter (λ x. is_negated x.how) file.openers))) ≡ true
      by_kind o l true e =
          ap (may_close stages) (last_made (λ x. is_negated x.how) (negation_of fields file) o e file.openers None None l (λ s. absurd (cc)))
          ∙ waits o (sym (ap (wrong_end (has_limit file)) (last_is file.openers ∙ l)) ∙ end_kept)
      by_kind o l false e =
          last_passes (λ n. nat_lt (suc n.after) stages) (may_close stages) (λ n h. first_or _ (not n.next_only) h)
          (map (negation_of fields file) (filter (λ x. is_negated x.how) file.openers)) None refl
          (made_of (λ x. is_negated x.how) (negation_of fields file) (λ n. nat_lt (suc n.after) stages) file.openers
          (λ k d h g.
          let there = got file.openers (length file.openers - 1) d (omega arith) in
          let same = some_same (get_or file.openers (length file.openers - 1) d) o (sym there ∙ last_is file.openers ∙ l) in
          before_last fields file formed sound k d h g (ap (λ x. is_negated x.how) same ∙ e)))

      by_last : (o : Option Opener) → last_or None file.openers ≡ o
          → may_close stages (last_or None (map (negation_of fields file) (filter (λ x. is_negated x.how) file.openers))) ≡ true
      by_last None l = absurd (not_none file.openers formed.begins l)
      by_last (Some o) l = by_kind o l (is_negated o.how) refl
