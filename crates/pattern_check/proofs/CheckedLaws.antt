-- The plan of a file without a fault is checked.
use Rattle.std.proofs.Common.{◌≡◌, ℕ, suc, ◌+◌, ◌-◌, ◌≤◌, ◌<◌, ◌⊎◌, inl, inr, Bool, true, false, cond, not, ◌&&◌, ◌||◌, List, [], ◌∷◌, length, get_or, map, take, refl, sym, ap, subst, arith, le_trans}
use Rattle.std.specs.Prelude.{nat_lt, nat_le, Option, Some, None}
use Rattle.std.specs.Str.{bytes_eq}
use Rattle.std.specs.List.{list_all, filter, sum_by, slice_get}
use Rattle.std.specs.Option.{option_map}
use Rattle.std.proofs.lemmas.Bool.Decides.{nat_tests}
use Rattle.std.proofs.lemmas.List.{length-map, take_all}
use Rattle.std.proofs.lemmas.List.Sums.{sum_by_more}
use Rattle.std.proofs.lemmas.List.Filters.{length-filter_both}
use Rattle.cep_event.specs.declared.event.Field.{Field}
use Rattle.cep_reading.specs.declared.name.Name.{Name}
use Rattle.cep_syntax.specs.declared.file.TypeDecl.{TypeDecl}
use Rattle.cep_syntax.specs.declared.file.OpenKind.{OpenKind}
use Rattle.cep_syntax.specs.declared.file.OpenKind.TheVariants as how
use Rattle.cep_syntax.specs.declared.file.Opener.{Opener}
use Rattle.cep_syntax.specs.declared.file.PlacedNumber.{PlacedNumber}
use Rattle.cep_syntax.specs.declared.file.SkipDecl.{SkipDecl}
use Rattle.cep_syntax.specs.declared.file.SkipDecl.TheVariants as skip
use Rattle.cep_syntax.specs.declared.file.File.{File}
use Rattle.cep_syntax.specs.WellFormed.{is_begin, begins_once, IsWellFormed}
use Rattle.pattern_rules.specs.First.{place_if}
use Rattle.pattern_rules.specs.Bounds.{is_negated, bounds_of, states_within, states_of}
use Rattle.pattern_rules.specs.Named.{is_type, type_number, opener_number}
use Rattle.pattern_rules.specs.Stages.{unknown_type, bad_times, broken_in_stages, too_many_states}
use Rattle.pattern_rules.specs.Whole.{bad_limit, skip_name, is_positive_one}
use Rattle.pattern_rules.specs.Rules.{fault_with}
use Rattle.pattern_check.specs.Numbers.{times, is_positive, stages_before, of_number}
use Rattle.pattern_check.specs.Plan.{type_of, types_of, stage_of, stages_of, negation_of, negations_of, limit_of, skip_of, plan_with}
use Rattle.pattern_check.specs.Checked.{is_below, has_bounds, states_up_to, skips_to_stage, is_limit, IsChecked}
use Rattle.pattern_check.proofs.KeptRules.{first_none, second_none, kept, few_stages}
use Rattle.pattern_check.proofs.ListLaws.{both, all_kept, all_made, sum_made, place_found}
use Rattle.pattern_check.proofs.FromLaws.{from_none_at}
use Rattle.pattern_check.proofs.AfterLaws.{falls, afters_known}
use Rattle.pattern_check.proofs.StageLaws.{double_not, below, found_positive}
use Rattle.pattern_check.proofs.BoundLaws.{not_broken, are_bounds_of, fewer_states}

named_type : (types : List TypeDecl) (of : Option Name) (n : ℕ) → length types ≡ n → unknown_type types of ≡ None → is_below n (of_number types of) ≡ true
named_type types None n same e = refl
named_type types (Some name) n same e =
    let found : is_type types name.text ≡ true = double_not (is_type types name.text) (not_broken (not (is_type types name.text)) name.place e) in
    let within : type_number types name.text < n = subst (λ (m : ℕ). type_number types name.text < m) same (place_found (λ d. bytes_eq d.name.text name.text) types found) in
    below (type_number types name.text) n within

pub begin_positive : (h : OpenKind) → is_begin h ≡ true → is_negated h ≡ false
begin_positive how.Begin e = refl
begin_positive how.Next e = refl
begin_positive how.FollowedBy e = refl
begin_positive how.FollowedByAny e = refl
begin_positive how.NotNext e = absurd (cc)
begin_positive how.NotFollowedBy e = absurd (cc)

first_so : (a b : Bool) → (a && b) ≡ true → a ≡ true
first_so true b e = refl
first_so false b e = e

one_passes : {A B : Type 0} (q : A → Bool) (f : A → B) (x : A) (xs : List A) → q x ≡ true → 1 ≤ length (map f (filter q (x ∷ xs)))
one_passes q f x xs e =
    let long : 1 ≤ length (map f (x ∷ filter q xs)) = let h : 1 ≤ suc (length (map f (filter q xs))) = omega arith in h in
    subst (λ (b : Bool). 1 ≤ length (map f (cond b (x ∷ filter q xs) (filter q xs)))) (sym e) long

some_made : {B : Type 0} (f : Opener → B) (openers : List Opener) → begins_once openers ≡ true → 1 ≤ length (map f (filter is_positive openers))
some_made f [] e = absurd (cc)
some_made f (o ∷ openers) e =
    one_passes is_positive f o openers (ap not (begin_positive o.how (first_so (is_begin o.how) (list_all (λ (x : Opener). not (is_begin x.how)) openers) e)))

both_lengths : {B C : Type 0} (f : Opener → B) (g : Opener → C) (openers : List Opener) → length openers ≤ 64
    → length (map f (filter is_positive openers)) + length (map g (filter (λ o. is_negated o.how) openers)) ≤ 64
both_lengths f g openers h =
    let other : (x : Opener) → is_negated x.how ≡ not (is_positive x) = λ x. double (is_negated x.how) in
    omega (
      arith,
      length-map (filter is_positive openers) f,
      length-map (filter (λ o. is_negated o.how) openers) g,
      length-filter_both is_positive
          (λ o. is_negated o.how) other openers,
    )
  where
    double : (b : Bool) → b ≡ not (not b)
    double true = refl
    double false = refl

limit_kept : (limit : Option PlacedNumber) → bad_limit limit ≡ None → is_limit (limit_of limit) ≡ true
unfolding bad_limit
limit_kept None e = refl
limit_kept (Some n) e =
    let so = not_broken (nat_lt n.value 1 || nat_lt 4611686018427387904 n.value) n.place e in
    in_range n.value so
  where
    in_range : (m : ℕ) → (nat_lt m 1 || nat_lt 4611686018427387904 m) ≡ false → (nat_le 1 m && nat_le m 4611686018427387904) ≡ true
    in_range m h = grind (arith, nat_tests)

-- ---- skip strategies

stage_found : (openers : List Opener) (name : Name) (n : ℕ) → length (filter is_positive openers) ≡ n
    → place_if (not (is_positive_one (slice_get openers (opener_number openers name.text)))) name.place ≡ None
    → nat_lt (stages_before openers name.text) n ≡ true
stage_found openers name n same e =
    let found = double_not _ (not_broken (not (is_positive_one (slice_get openers (opener_number openers name.text)))) name.place e) in
    below (stages_before openers name.text) n (subst (λ (m : ℕ). stages_before openers name.text < m) same
    (found_positive openers (opener_number openers name.text) found))

skip_kept : (openers : List Opener) (s : Option SkipDecl) (n : ℕ) → length (filter is_positive openers) ≡ n → skip_name openers s ≡ None
    → skips_to_stage n (skip_of openers s) ≡ true
unfolding skip_name
skip_kept openers None n same e = refl
skip_kept openers (Some skip.No) n same e = refl
skip_kept openers (Some skip.ToNext) n same e = refl
skip_kept openers (Some skip.PastLast) n same e = refl
skip_kept openers (Some (skip.ToFirst name)) n same e = stage_found openers name n same e
skip_kept openers (Some (skip.ToLast name)) n same e = stage_found openers name n same e

-- ---- states

pub at_most : (m n : ℕ) → nat_lt m n ≡ false → n ≤ m
at_most m n e = grind (arith, nat_tests)

states_kept : (openers : List Opener) → too_many_states openers ≡ None → sum_by states_of openers ≤ 1024
unfolding too_many_states
states_kept [] e = omega arith
states_kept (o ∷ openers) e =
    let k : ℕ = length openers in
    let last = get_or (o ∷ openers) (length openers) o in
    let kept_there = from_none_at (λ n x. place_if (nat_lt 1024 (sum_by states_of (take n (o ∷ openers)) + states_of x)) x.name.place) 0 (o ∷ openers) (length openers) o (omega arith) e in
    let few = at_most 1024 (sum_by states_of (take (0 + length openers) (o ∷ openers)) + states_of last) (not_broken (nat_lt 1024 (sum_by states_of (take (0 + length openers) (o ∷ openers)) + states_of last)) last.name.place kept_there) in
    let zero_so : 0 + length openers ≡ length openers = omega arith in
    let few_so = subst (λ (m : ℕ). sum_by states_of (take m (o ∷ openers)) + states_of last ≤ 1024) zero_so few in
    let more = sum_by_more states_of (o ∷ openers) (length openers) o (omega arith) in
    let whole = take_all (length openers + 1) (o ∷ openers) (omega arith) in
    let same = ap (sum_by states_of) whole in
    omega arith

open_stages : (fields : List Field) (file : File) (o : Opener) → states_up_to (stage_of fields file o).min (stage_of fields file o).max ≤ states_of o
    ⊎ (is_positive o ≡ false)
unfolding stage_of
open_stages fields file o = by_case (is_negated o.how)
  where
    by_case : (b : Bool)
        → states_up_to (times (bounds_of o.mods).0) (option_map times (bounds_of o.mods).1) ≤ cond b 0 (states_within (bounds_of o.mods))
        ⊎ (not b ≡ false)
    by_case true = inr refl
    by_case false = inl (fewer_states (bounds_of o.mods))

pub behind_is : (fields : List Field) (file : File) (o : Opener) → (negation_of fields file o).after ≡ stages_before file.openers o.name.text - 1
unfolding negation_of
behind_is fields file o = refl

all_of : {A : Type 0} (p : A → Bool) → ((x : A) → p x ≡ true) → (xs : List A) → list_all p xs ≡ true
all_of p each [] = refl
all_of p each (x ∷ xs) = both (p x) (list_all p xs) (each x) (all_of p each xs)

-- ---- the plan

module _ (fields : List Field) (file : File) (formed : IsWellFormed file) (sound : fault_with fields file ≡ None) where
  stage_bounds : (o : Opener) → bad_times o ≡ None → has_bounds (stage_of fields file o) ≡ true
  unfolding stage_of
  stage_bounds o e = are_bounds_of o.mods e

  stage_type : (o : Opener) → unknown_type file.types o.of ≡ None → is_below (length (types_of fields file.types)) (stage_of fields file o).of ≡ true
  unfolding stage_of
  stage_type o e = named_type file.types o.of (length (types_of fields file.types)) (sym (length-map file.types (type_of fields))) e

  negation_type : (o : Opener) → unknown_type file.types o.of ≡ None → is_below (length (types_of fields file.types)) (negation_of fields file o).of ≡ true
  unfolding negation_of
  negation_type o e = named_type file.types o.of (length (types_of fields file.types)) (sym (length-map file.types (type_of fields))) e

  pub stage_count : length (filter is_positive file.openers) ≡ length (stages_of fields file)
  unfolding stages_of
  stage_count = sym (length-map (filter is_positive file.openers) (stage_of fields file))

  pub plan_checked : IsChecked (plan_with fields file)
  unfolding stages_of negations_of broken_in_stages
  plan_checked = record {
    some_stage = some_made (stage_of fields file) file.openers formed.begins;
    few_types = omega (arith, formed.few_types, length-map file.types (type_of fields));
    few_stages = both_lengths (stage_of fields file) (negation_of fields file) file.openers (few_stages fields file sound);
    bounds =
        all_made is_positive (stage_of fields file) has_bounds file.openers
        (all_kept bad_times (λ o. has_bounds (stage_of fields file o)) stage_bounds file.openers (kept fields file sound 8 (omega arith)));
    few_states =
        le_trans (sum_made is_positive (stage_of fields file) (λ s. states_up_to s.min s.max) states_of (open_stages fields file) file.openers)
        (states_kept file.openers (kept fields file sound 20 (omega arith)));
    types_of_stages = all_made is_positive (stage_of fields file) (λ s. is_below (length (types_of fields file.types)) s.of) file.openers
        (all_kept (λ o. unknown_type file.types o.of) (λ o. is_below (length (types_of fields file.types)) (stage_of fields file o).of) stage_type
        file.openers (kept fields file sound 2 (omega arith)));
    types_of_negations = all_made (λ o. is_negated o.how) (negation_of fields file) (λ n. is_below (length (types_of fields file.types)) n.of) file.openers
        (all_kept (λ o. unknown_type file.types o.of) (λ o. is_below (length (types_of fields file.types)) (negation_of fields file o).of)
        negation_type file.openers (kept fields file sound 2 (omega arith)));
    after = falls file.openers (negation_of fields file) (behind_is fields file) (kept fields file sound 3 (omega arith)) file.openers [] refl 0 (omega arith);
    afters = all_made (λ o. is_negated o.how) (negation_of fields file) (λ n. nat_lt n.after (length (stages_of fields file))) file.openers
        (all_of (λ o. nat_lt (negation_of fields file o).after (length (stages_of fields file)))
        (afters_known file.openers (negation_of fields file) (behind_is fields file) (kept fields file sound 3 (omega arith))
        (length (stages_of fields file)) stage_count
        (some_made (stage_of fields file) file.openers formed.begins)) file.openers);
    limit = limit_kept file.within (first_none (bad_limit file.within) (bad_limit file.within_gap) (kept fields file sound 17 (omega arith)));
    gap = limit_kept file.within_gap (second_none (bad_limit file.within) (bad_limit file.within_gap) (kept fields file sound 17 (omega arith)));
    skips = skip_kept file.openers file.skip (length (stages_of fields file)) stage_count (kept fields file sound 18 (omega arith));
  }
