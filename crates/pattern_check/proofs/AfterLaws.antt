-- Which stage a negation stands behind: one that there is, and never an earlier one than that of the negation before.
use Rattle.std.proofs.Common.{◌≡◌, ℕ, zero, suc, ◌+◌, ◌-◌, ◌≤◌, ◌<◌, Bool, true, false, cond, not, ◌||◌, List, [], ◌∷◌, ◌++◌, length, get_or, map, take, refl, ap, subst, ◌∙◌, arith}
use Rattle.std.specs.Prelude.{nat_le, nat_lt, None}
use Rattle.std.specs.Str.{bytes_eq}
use Rattle.std.specs.List.{list_any, filter, count_by}
use Rattle.std.proofs.lemmas.Bool.Decides.{nat_tests}
use Rattle.std.proofs.lemmas.Slice.Eq.{bytes_eq-Decides}
use Rattle.std.proofs.lemmas.List.{append_assoc, get_or_at, take_at, length-append}
use Rattle.std.proofs.lemmas.List.Sums.{position_or_len_is, sum_by-append, sum_by-take-le, length-filter}
use Rattle.cep_plan.specs.declared.plan.Negation.{Negation}
use Rattle.cep_syntax.specs.declared.file.Opener.{Opener}
use Rattle.pattern_rules.specs.First.{place_if}
use Rattle.pattern_rules.specs.Bounds.{is_negated}
use Rattle.pattern_rules.specs.Named.{is_stage, opener_number}
use Rattle.pattern_rules.specs.Stages.{twice_stage}
use Rattle.pattern_check.specs.Numbers.{is_positive, stages_before}
use Rattle.pattern_check.specs.Checked.{never_falls}
use Rattle.pattern_check.proofs.ListLaws.{both}
use Rattle.pattern_check.proofs.BoundLaws.{not_broken}
use Rattle.pattern_check.proofs.FromLaws.{from_none_at}

pub first_false : (a b : Bool) → (a || b) ≡ false → a ≡ false
first_false false b e = refl
first_false true b e = e

pub second_false : (a b : Bool) → (a || b) ≡ false → b ≡ false
second_false false b e = e
second_false true b e = absurd (cc)

pub none_of : {A : Type 0} (p : A → Bool) (xs : List A) (k j : ℕ) (d : A) → list_any p (take k xs) ≡ false → j < k → j < length xs → p (get_or xs j d) ≡ false
none_of p [] k j d e h l = absurd (omega arith)
none_of p (x ∷ xs) zero j d e h l = absurd (omega arith)
none_of p (x ∷ xs) (suc k) zero d e h l = first_false (p x) (list_any p (take k xs)) e
none_of p (x ∷ xs) (suc k) (suc j) d e h l = none_of p xs k j d (second_false (p x) (list_any p (take k xs)) e) (omega arith) (omega arith)

-- no name stands twice, so each opener is the first of its name
pub own_place : (openers : List Opener) (k : ℕ) (d : Opener) → k < length openers → twice_stage openers ≡ None
    → opener_number openers (get_or openers k d).name.text ≡ k
unfolding twice_stage
own_place openers k d h e =
    let name = (get_or openers k d).name in
    let kept_there = from_none_at (λ n o. place_if (is_stage (take n openers) o.name.text) o.name.place) 0 openers k d h e in
    let zero_so : 0 + k ≡ k = omega arith in
    let none = subst (λ (n : ℕ). is_stage (take n openers) name.text ≡ false) zero_so (not_broken (is_stage (take (0 + k) openers) name.text) name.place kept_there) in
    position_or_len_is (λ o. bytes_eq o.name.text name.text) openers k d (omega arith)
    (λ j l. none_of (λ o. bytes_eq o.name.text name.text) openers k j d none l (omega arith)) (λ _. (bytes_eq-Decides name.text name.text).1 refl)

after_is : (before : List Opener) (o : Opener) (rest : List Opener) → twice_stage (before ++ o ∷ rest) ≡ None
    → stages_before (before ++ o ∷ rest) o.name.text ≡ count_by is_positive before
after_is before o rest e =
    let long = length-append before (o ∷ rest) in
    let more : length (o ∷ rest) ≡ suc (length rest) = refl in
    let own = own_place (before ++ o ∷ rest) (length before) o (omega arith) e in
    let here = subst (λ (x : Opener). opener_number (before ++ o ∷ rest) x.name.text ≡ length before) (get_or_at before o rest o (length before) refl) own in
    ap (λ (n : ℕ). count_by is_positive (take n (before ++ o ∷ rest))) here ∙ ap (count_by is_positive) (take_at before (o ∷ rest) (length before) refl)

counted_more : (before : List Opener) (o : Opener) → count_by is_positive (before ++ o ∷ []) ≡ count_by is_positive before + cond (is_positive o) 1 0
counted_more before o = sum_by-append (λ (x : Opener). cond (is_positive x) 1 0) before (o ∷ [])
    ∙ (let zero_so : 0 + cond (is_positive o) 1 0 ≡ cond (is_positive o) 1 0 = omega arith in ap (λ (n : ℕ). count_by is_positive before + n) zero_so)

one_step : (b : Bool) (m n : ℕ) → n ≡ m + cond (not b) 1 0 → m - 1 ≤ n - 1
one_step b m n e = omega arith

le_so : (m n : ℕ) → m ≤ n → nat_le m n ≡ true
le_so m n h = grind (arith, nat_tests)

module _ (all : List Opener) (made : Opener → Negation) (behind : (o : Opener) → (made o).after ≡ stages_before all o.name.text - 1)
    (e : twice_stage all ≡ None) where
  falls_step : (b : Bool) (o : Opener) (rest : List Opener) (least : ℕ) → nat_le least (made o).after ≡ true
      → never_falls (made o).after (map made rest) ≡ true → never_falls least (map made rest) ≡ true
      → never_falls least (map made (cond b (o ∷ rest) rest)) ≡ true
  falls_step true o rest least here later other = both (nat_le least (made o).after) (never_falls (made o).after (map made rest)) here later
  falls_step false o rest least here later other = other

  pub falls : (rest before : List Opener) → before ++ rest ≡ all → (least : ℕ) → least ≤ count_by is_positive before - 1
      → never_falls least (map made (filter (λ o. is_negated o.how) rest)) ≡ true
  falls [] before same least h = refl
  falls (o ∷ rest) before same least h =
      let next : (before ++ o ∷ []) ++ rest ≡ all = append_assoc before (o ∷ []) rest ∙ same in
      let is = subst (λ (xs : List Opener). stages_before xs o.name.text ≡ count_by is_positive before) same (after_is before o rest (ap twice_stage same ∙ e)) in
      let after = behind o ∙ ap (λ (n : ℕ). n - 1) is in
      let grown = one_step (is_negated o.how) (count_by is_positive before) (count_by is_positive (before ++ o ∷ [])) (counted_more before o) in
      falls_step (is_negated o.how) o (filter (λ x. is_negated x.how) rest) least
      (le_so least (made o).after (omega arith))
      (falls rest (before ++ o ∷ []) next (made o).after (omega arith))
      (falls rest (before ++ o ∷ []) next least (omega arith))

  below : (m n : ℕ) → m < n → nat_lt m n ≡ true
  below m n h = grind (arith, nat_tests)

  pub afters_known : (n : ℕ) → length (filter is_positive all) ≡ n → 1 ≤ n → (o : Opener) → nat_lt (made o).after n ≡ true
  afters_known n same some o =
      let few = sum_by-take-le (λ (x : Opener). cond (is_positive x) 1 0) all (opener_number all o.name.text) in
      below (made o).after n (omega (arith, behind o, length-filter is_positive all))
