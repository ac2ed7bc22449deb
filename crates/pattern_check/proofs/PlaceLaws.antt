-- The negations of the plan of a file without a fault stand behind no stage that may be left out, and before the last stage where no negation is the
-- last opener.
use Rattle.std.proofs.Common.{◌≡◌, ℕ, zero, suc, ◌+◌, ◌-◌, ◌≤◌, ◌<◌, ◌⊎◌, inl, inr, Bool, true, false, cond, not, ◌&&◌, List, [], ◌∷◌, ◌++◌, length, get_or, map, take, drop, fold, refl, sym, ap, subst, ◌∙◌, arith}
use Rattle.std.specs.Prelude.{nat_lt, Option, Some, None}
use Rattle.std.specs.List.{list_all, filter, sum_by, count_by, slice_get}
use Rattle.std.proofs.lemmas.List.{take-append-drop, take_all, length-map, map-append}
use Rattle.std.proofs.lemmas.List.Sums.{sum_by-cons, sum_by_more, length-filter}
use Rattle.std.proofs.lemmas.List.Elements.{filter-append}
use Rattle.cep_event.specs.declared.event.Field.{Field}
use Rattle.cep_plan.specs.declared.plan.Stage.{Stage}
use Rattle.cep_syntax.specs.declared.file.Opener.{Opener}
use Rattle.cep_syntax.specs.declared.file.File.{File}
use Rattle.cep_syntax.specs.WellFormed.{is_begin, begins_once, IsWellFormed}
use Rattle.pattern_rules.specs.declared.role.Role.TheVariants as role
use Rattle.pattern_rules.specs.First.{first_some, place_if}
use Rattle.pattern_rules.specs.Role.{has}
use Rattle.pattern_rules.specs.Bounds.{is_negated}
use Rattle.pattern_rules.specs.Stages.{twice_quantifier, until_without_open_loop, twice_stage, behind, ends_optional, not_after_optional}
use Rattle.pattern_rules.specs.Rules.{fault_with}
use Rattle.pattern_check.specs.Numbers.{is_positive, stages_before}
use Rattle.pattern_check.specs.Plan.{stage_of, stages_of, negation_of}
use Rattle.pattern_check.specs.Checked.{ends_open_loop}
use Rattle.pattern_check.specs.Places.{is_optional}
use Rattle.pattern_check.proofs.KeptRules.{first_none, second_none, kept}
use Rattle.pattern_check.proofs.ListLaws.{both, left_of}
use Rattle.pattern_check.proofs.BoundLaws.{not_broken}
use Rattle.pattern_check.proofs.FromLaws.{from_none_at}
use Rattle.pattern_check.proofs.AfterLaws.{own_place}
use Rattle.pattern_check.proofs.CheckedLaws.{begin_positive, behind_is, stage_count}
use Rattle.pattern_check.proofs.StageLaws.{below}
use Rattle.pattern_check.proofs.UntilLaws.{second_so, until_open}

-- ---- lists

pub got : {A : Type 0} (xs : List A) (k : ℕ) (d : A) → k < length xs → slice_get xs k ≡ Some (get_or xs k d)
got [] k d h = absurd (omega arith)
got (x ∷ xs) zero d h = refl
got (x ∷ xs) (suc k) d h = got xs k d (omega arith)

got_front : {A : Type 0} (xs ys : List A) (k : ℕ) → k < length xs → slice_get (xs ++ ys) k ≡ slice_get xs k
got_front [] ys k h = absurd (omega arith)
got_front (x ∷ xs) ys zero h = refl
got_front (x ∷ xs) ys (suc k) h = got_front xs ys k (omega arith)

pub sum_rises : {A : Type 0} (f : A → ℕ) (xs : List A) (i j : ℕ) → i ≤ j → sum_by f (take i xs) ≤ sum_by f (take j xs)
sum_rises f xs zero j h = omega arith
sum_rises f [] (suc i) zero h = absurd (omega arith)
sum_rises f [] (suc i) (suc j) h = omega arith
sum_rises f (x ∷ xs) (suc i) zero h = absurd (omega arith)
sum_rises f (x ∷ xs) (suc i) (suc j) h =
    let later = sum_rises f xs i j (omega arith) in
    let left = sum_by-cons f x (take i xs) in
    let right = sum_by-cons f x (take j xs) in
    let whole : sum_by f (x ∷ take i xs) ≤ sum_by f (x ∷ take j xs) = omega arith in whole

made_if : {A B : Type 0} (f : A → B) (p : B → Bool) (b : Bool) (x : A) (rest : List A) → (b ≡ true → p (f x) ≡ true) → list_all p (map f rest) ≡ true
    → list_all p (map f (cond b (x ∷ rest) rest)) ≡ true
made_if f p true x rest here later = both (p (f x)) (list_all p (map f rest)) (here refl) later
made_if f p false x rest here later = later

-- each that passes q is made one that passes p
pub made_of : {A B : Type 0} (q : A → Bool) (f : A → B) (p : B → Bool) (xs : List A)
    → ((k : ℕ) (d : A) → k < length xs → q (get_or xs k d) ≡ true → p (f (get_or xs k d)) ≡ true) → list_all p (map f (filter q xs)) ≡ true
made_of q f p [] each = refl
made_of q f p (x ∷ xs) each = made_if f p (q x) x (filter q xs) (each 0 x (omega arith)) (made_of q f p xs (λ k d h. each (suc k) d (omega arith)))

less_or_same : (m n : ℕ) → m ≤ n → m < n ⊎ (m ≡ n)
less_or_same zero zero h = inr refl
less_or_same zero (suc n) h = inl (omega arith)
less_or_same (suc m) zero h = absurd (omega arith)
less_or_same (suc m) (suc n) h = by_case (less_or_same m n (omega arith))
  where
    by_case : m < n ⊎ (m ≡ n) → suc m < suc n ⊎ (suc m ≡ suc n)
    by_case (inl l) = inl (omega arith)
    by_case (inr e) = inr (ap suc e)

pub differ_so : {A : Type 0} (q : A → Bool) (xs : List A) (i j : ℕ) (d : A) → q (get_or xs i d) ≡ true → q (get_or xs j d) ≡ false → i ≤ j → i < j
differ_so q xs i j d e h l = by_case (less_or_same i j l)
  where
    by_case : i < j ⊎ (i ≡ j) → i < j
    by_case (inl less) = less
    by_case (inr same) = let no = ap (λ (k : ℕ). q (get_or xs k d)) same in absurd (cc)

-- ---- the row of openers

pub counts_one : (o : Opener) → is_negated o.how ≡ false → cond {A = ℕ} (is_positive o) 1 0 ≡ 1
counts_one o e = ap (λ (b : Bool). cond {A = ℕ} (not b) 1 0) e

module _ (openers : List Opener) (begins : begins_once openers ≡ true) (once : twice_stage openers ≡ None) where
  -- how many positive ones stand before the place
  abbrev pub before : ℕ → ℕ
  before k = count_by is_positive (take k openers)

  first_positive : (os : List Opener) (d : Opener) → begins_once os ≡ true → is_negated (get_or os 0 d).how ≡ false
  first_positive [] d e = absurd (cc)
  first_positive (o ∷ os) d e = begin_positive o.how (left_of (is_begin o.how) (list_all (λ x. not (is_begin x.how)) os) e)

  pub one_first : (k : ℕ) (d : Opener) → k < length openers → is_negated (get_or openers k d).how ≡ true → 1 ≤ before k
  one_first k d h e =
      let first = first_positive openers d begins in
      let more : sum_by (λ x. cond (is_positive x) 1 0) (take (0 + 1) openers) ≡ sum_by (λ x. cond (is_positive x) 1 0) (take 0 openers) + cond (is_positive (get_or openers 0 d)) 1 0 = sum_by_more (λ x. cond (is_positive x) 1 0) openers 0 d (omega arith) in
      let one = counts_one (get_or openers 0 d) first in
      let later : 0 < k = first_before k e first in
      let rises = sum_rises (λ x. cond (is_positive x) 1 0) openers (0 + 1) k (omega arith) in
      omega arith
    where
      first_before : (j : ℕ) → is_negated (get_or openers j d).how ≡ true → is_negated (get_or openers 0 d).how ≡ false → 0 < j
      first_before zero e first = absurd (cc)
      first_before (suc j) e first = omega arith

  pub stages_here : (k : ℕ) (d : Opener) → k < length openers → stages_before openers (get_or openers k d).name.text ≡ before k
  stages_here k d h = ap (λ (n : ℕ). count_by is_positive (take n openers)) (own_place openers k d h once)

  pub more_come : (k : ℕ) (d : Opener) → k < length openers → is_negated (get_or openers k d).how ≡ true
      → is_negated (get_or openers (length openers - 1) d).how ≡ false → before k < count_by is_positive openers
  more_come k d h e last =
      let earlier = differ_so (λ (o : Opener). is_negated o.how) openers k (length openers - 1) d e last (omega arith) in
      let more = sum_by_more (λ (x : Opener). cond (is_positive x) 1 0) openers (length openers - 1) d (omega arith) in
      let one = counts_one (get_or openers (length openers - 1) d) last in
      let rises = sum_rises (λ (x : Opener). cond (is_positive x) 1 0) openers k (length openers - 1) (omega arith) in
      let whole = ap (sum_by (λ (x : Opener). cond (is_positive x) 1 0)) (take_all (length openers - 1 + 1) openers (omega arith)) in
      omega arith

-- ---- stages that may be left out

abbrev left_out : Bool → Stage → Bool
left_out is_behind s = s.optional

last_one : (b : Bool) (s : Stage) (ss : List Stage) → fold left_out b (s ∷ ss) ≡ is_optional (slice_get (s ∷ ss) (length ss))
last_one b s [] = refl
last_one b s (t ∷ ss) = last_one s.optional t ss

last_of : (ss : List Stage) (k : ℕ) → 1 ≤ k → length ss ≡ k → fold left_out false ss ≡ is_optional (slice_get ss (k - 1))
last_of [] k h e = absurd (omega arith)
last_of (s ∷ ss) k h e = let same : length ss ≡ k - 1 = omega arith in last_one false s ss ∙ ap (λ (n : ℕ). is_optional (slice_get (s ∷ ss) n)) same

module _ (f : Opener → Stage) (is : (o : Opener) → (f o).optional ≡ has role.Optional o.mods) where
  behind_one : (negated : Bool) (o : Opener) (os : List Opener) (b : Bool) → ((x : Bool) → fold behind x os ≡ fold left_out x (map f (filter is_positive os)))
      → fold behind (cond negated b (has role.Optional o.mods)) os
      ≡ fold left_out b (map f (cond (not negated) (o ∷ filter is_positive os) (filter is_positive os)))
  behind_one true o os b later = later b
  behind_one false o os b later = later (has role.Optional o.mods) ∙ ap (λ x. fold left_out x (map f (filter is_positive os))) (sym (is o))

  behind_all : (os : List Opener) (b : Bool) → fold behind b os ≡ fold left_out b (map f (filter is_positive os))
  behind_all [] b = refl
  behind_all (o ∷ os) b = behind_one (is_negated o.how) o os b (behind_all os)

  made_count : (os : List Opener) → length (map f (filter is_positive os)) ≡ count_by is_positive os
  made_count os = length-map (filter is_positive os) f ∙ length-filter is_positive os

  -- the last stage before the place
  behind_place : (openers : List Opener) (k : ℕ) → 1 ≤ count_by is_positive (take k openers)
      → ends_optional (take k openers) ≡ is_optional (slice_get (map f (filter is_positive openers)) (count_by is_positive (take k openers) - 1))
  behind_place openers k some =
      let n : ℕ = count_by is_positive (take k openers) in
      let front : List Stage = map f (filter is_positive (take k openers)) in
      let rest : List Stage = map f (filter is_positive (drop k openers)) in
      let whole : map f (filter is_positive openers) ≡ front ++ rest
      = ap (λ os. map f (filter is_positive os)) (sym (take-append-drop k openers))
      ∙ ap (map f) (filter-append is_positive (take k openers) (drop k openers))
      ∙ map-append f (filter is_positive (take k openers)) (filter is_positive (drop k openers)) in
      let long = made_count (take k openers) in
      behind_all (take k openers) false ∙ last_of front n some long
      ∙ sym (ap is_optional (got_front front rest (n - 1) (omega arith)))
      ∙ sym (ap (λ ss. is_optional (slice_get ss (n - 1))) whole)

-- ---- the plan

pub kept_by_two : {A B : Type 0} (f g : A → Option B) (p : A → Bool) → ((x : A) → f x ≡ None → g x ≡ None → p x ≡ true) → (xs : List A)
    → first_some f xs ≡ None → first_some g xs ≡ None → list_all p xs ≡ true
kept_by_two f g p each [] a b = refl
kept_by_two f g p each (x ∷ xs) a b =
    both (p x) (list_all p xs) (each x (first_none (f x) (first_some f xs) a) (first_none (g x) (first_some g xs) b))
    (kept_by_two f g p each xs (second_none (f x) (first_some f xs) a) (second_none (g x) (first_some g xs) b))

module _ (fields : List Field) (file : File) (formed : IsWellFormed file) (sound : fault_with fields file ≡ None) where
  pub once : twice_stage file.openers ≡ None
  once = kept fields file sound 3 (omega arith)

  abbrev pub places : ℕ → ℕ
  places k = count_by is_positive (take k file.openers)

  pub after_here : (k : ℕ) (d : Opener) → k < length file.openers → (negation_of fields file (get_or file.openers k d)).after ≡ places k - 1
  after_here k d h = behind_is fields file (get_or file.openers k d) ∙ ap (λ (n : ℕ). n - 1) (stages_here file.openers formed.begins once k d h)

  pub before_last : (k : ℕ) (d : Opener) → k < length file.openers → is_negated (get_or file.openers k d).how ≡ true
      → is_negated (get_or file.openers (length file.openers - 1) d).how ≡ false
      → nat_lt (suc (negation_of fields file (get_or file.openers k d)).after) (length (stages_of fields file)) ≡ true
  before_last k d h e last =
      let one = one_first file.openers formed.begins once k d h e in
      let more = more_come file.openers formed.begins once k d h e last in
      below (suc (negation_of fields file (get_or file.openers k d)).after) (length (stages_of fields file))
      (omega (arith, after_here k d h, length-filter is_positive file.openers, stage_count fields file formed sound))

  stage_optional : (o : Opener) → (stage_of fields file o).optional ≡ has role.Optional o.mods
  unfolding stage_of
  stage_optional o = refl

  pub behind_fixed : (k : ℕ) (d : Opener) → k < length file.openers → is_negated (get_or file.openers k d).how ≡ true
      → not (is_optional (slice_get (stages_of fields file) (negation_of fields file (get_or file.openers k d)).after)) ≡ true
  unfolding not_after_optional stages_of
  behind_fixed k d h e =
      let o : Opener = get_or file.openers k d in
      let kept_there = from_none_at (λ n x. place_if (is_negated x.how && ends_optional (take n file.openers)) x.name.place) 0 file.openers k d h (kept fields file sound 5 (omega arith)) in
      let zero_so : 0 + k ≡ k = omega arith in
      let none = subst (λ (n : ℕ). (is_negated o.how && ends_optional (take n file.openers)) ≡ false) zero_so (not_broken (is_negated o.how && ends_optional (take (0 + k) file.openers)) o.name.place kept_there) in
      let fixed = second_so (is_negated o.how) (ends_optional (take k file.openers)) none e in
      let there = behind_place (stage_of fields file) stage_optional file.openers k (one_first file.openers formed.begins once k d h e) in
      ap (λ (n : ℕ). not (is_optional (slice_get (map (stage_of fields file) (filter is_positive file.openers)) n))) (after_here k d h)
      ∙ ap not (sym there ∙ fixed)

  pub open_loop : (o : Opener) → twice_quantifier o ≡ None → until_without_open_loop o ≡ None
      → ends_open_loop (stage_of fields file o).until (stage_of fields file o).max ≡ true
  unfolding stage_of
  open_loop o a b = until_open fields file.openers o a b
