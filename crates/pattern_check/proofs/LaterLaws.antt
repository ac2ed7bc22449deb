-- The conditions of the plan of a file without a fault name no later stage than their own.
use Rattle.std.proofs.Common.{◌≡◌, ℕ, zero, suc, ◌+◌, ◌≤◌, ◌<◌, Bool, true, false, cond, not, List, [], ◌∷◌, length, get_or, map, take, refl, ap, subst, ◌∙◌, arith}
use Rattle.std.specs.Prelude.{nat_lt, Option, Some, None}
use Rattle.std.specs.List.{filter, sum_by, count_by, slice_get}
use Rattle.std.proofs.lemmas.List.Sums.{sum_by-cons, sum_by_more}
use Rattle.cep_event.specs.declared.event.Field.{Field}
use Rattle.cep_event.specs.declared.event.EventType.{EventType}
use Rattle.cep_plan.specs.declared.plan.Stage.{Stage}
use Rattle.cep_reading.specs.declared.name.Name.{Name}
use Rattle.cep_syntax.specs.declared.file.Opener.{Opener}
use Rattle.cep_syntax.specs.declared.file.File.{File}
use Rattle.cep_syntax.specs.WellFormed.{IsWellFormed}
use Rattle.pattern_rules.specs.declared.site.Site.{Site}
use Rattle.pattern_rules.specs.declared.site.Site.TheVariants as site
use Rattle.pattern_rules.specs.Bounds.{is_negated}
use Rattle.pattern_rules.specs.Named.{opener_number}
use Rattle.pattern_rules.specs.Fields.{known_fields}
use Rattle.pattern_rules.specs.Mention.{Mention}
use Rattle.pattern_rules.specs.Mentioned.{is_later, bad_name, bad_mention}
use Rattle.pattern_rules.specs.Stages.{twice_quantifier, until_without_open_loop, broken_in_stages}
use Rattle.pattern_rules.specs.Whole.{is_positive_one}
use Rattle.pattern_rules.specs.Rules.{fault_with}
use Rattle.pattern_check.specs.Numbers.{is_positive, stages_before}
use Rattle.pattern_check.specs.Plan.{types_of, stage_of, stages_of, negation_of, negations_of, plan_with}
use Rattle.pattern_check.specs.Checked.{ends_open_loop}
use Rattle.pattern_check.specs.Sound.{is_sound_cond, if_sound}
use Rattle.pattern_check.specs.Places.{is_optional, sees, see_no_later, IsPlaced}
use Rattle.pattern_check.proofs.KeptRules.{kept}
use Rattle.pattern_check.proofs.KeepLaws.{Keeps}
use Rattle.pattern_check.proofs.ListLaws.{both, all_made}
use Rattle.pattern_check.proofs.BoundLaws.{not_broken}
use Rattle.pattern_check.proofs.StageLaws.{below}
use Rattle.pattern_check.proofs.CheckedLaws.{at_most}
use Rattle.pattern_check.proofs.SoundLaws.{is_numbered}
use Rattle.pattern_check.proofs.NumberedLaws.{positive_name, stage_numbered, mention_numbered}
use Rattle.pattern_check.proofs.UntilLaws.{second_so}
use Rattle.pattern_check.proofs.PlaceLaws.{sum_rises, made_of, one_first, kept_by_two, once, after_here, behind_fixed, open_loop}
use Rattle.pattern_check.proofs.ClosingLaws.{closes, last_waits}
use Rattle.pattern_check.proofs.ExpressionLaws.{cond_here, until_here, negation_here}

abbrev counts : Opener → ℕ
counts o = cond (is_positive o) 1 0

-- ---- how many stages a condition may see

-- those up to its own
abbrev seen : List Opener → Site → ℕ
seen openers (site.Condition k) = count_by is_positive (take (suc k) openers)
seen openers (site.Until k) = count_by is_positive (take (suc k) openers)
seen openers site.Select = length (filter is_positive openers)

one_more : (openers : List Opener) (j : ℕ) → is_positive_one (slice_get openers j) ≡ true
    → count_by is_positive (take j openers) < count_by is_positive (take (suc j) openers)
one_more [] j e = absurd (cc)
one_more (o ∷ openers) zero e =
    let one : cond {A = ℕ} (is_positive o) 1 0 ≡ 1 = ap (λ (b : Bool). cond {A = ℕ} b 1 0) e in
    let first = sum_by-cons counts o [] in
    let whole : 0 < sum_by counts (o ∷ []) = omega arith in whole
one_more (o ∷ openers) (suc j) e =
    let later = one_more openers j e in
    let left = sum_by-cons counts o (take j openers) in
    let right = sum_by-cons counts o (take (suc j) openers) in
    let whole : sum_by counts (o ∷ take j openers) < sum_by counts (o ∷ take (suc j) openers) = omega arith in whole

not_later : (k j : ℕ) (found : Option Opener) → is_positive_one found ≡ true → is_later k j found ≡ false → j ≤ k
not_later k j None e h = absurd (cc)
not_later k j (Some o) e h = at_most k j (second_so (not (is_negated o.how)) (nat_lt k j) h e)

up_to : (openers : List Opener) (k j : ℕ) → is_positive_one (slice_get openers j) ≡ true → is_later k j (slice_get openers j) ≡ false
    → nat_lt (count_by is_positive (take j openers)) (count_by is_positive (take (suc k) openers)) ≡ true
up_to openers k j e h =
    let earlier = not_later k j (slice_get openers j) e h in
    let more = one_more openers j e in
    let rises = sum_rises counts openers (suc j) (suc k) (omega arith) in
    below (count_by is_positive (take j openers)) (count_by is_positive (take (suc k) openers)) (omega arith)

module _ (file : File) where
  name_seen : (spot : Site) (name : Name) → Keeps (λ r. bad_name r file.openers spot name)
      → nat_lt (stages_before file.openers name.text) (seen file.openers spot) ≡ true
  name_seen (site.Condition k) name h =
      up_to file.openers k (opener_number file.openers name.text) (positive_name file (site.Condition k) name h.names_known h.names_positive)
      (not_broken (is_later k (opener_number file.openers name.text) (slice_get file.openers (opener_number file.openers name.text))) name.place h.none_later)
  name_seen (site.Until k) name h =
      up_to file.openers k (opener_number file.openers name.text) (positive_name file (site.Until k) name h.names_known h.names_positive)
      (not_broken (is_later k (opener_number file.openers name.text) (slice_get file.openers (opener_number file.openers name.text))) name.place h.none_later)
  name_seen site.Select name h = stage_numbered file (length (filter is_positive file.openers)) refl site.Select name h.names_known h.names_positive

  mention_seen : (spot : Site) (m : Mention) → Keeps (λ r. bad_mention r file (known_fields file.types) spot m)
      → is_numbered (seen file.openers spot) (types_of (known_fields file.types) file.types) (known_fields file.types) file.openers m ≡ true
  mention_seen spot m h = mention_numbered file (seen file.openers spot) spot (name_seen spot) m h

-- ---- the row of stages

module _ (types : List EventType) (f : Opener → Stage) where
  see_step : (b : Bool) (n : ℕ) (o : Opener) (rest : List Opener) → (b ≡ true → sees (suc n) types (f o) ≡ true)
      → see_no_later (n + cond b 1 0) types (map f rest) ≡ true → see_no_later n types (map f (cond b (o ∷ rest) rest)) ≡ true
  see_step true n o rest here later =
      let next : n + 1 ≡ suc n = omega arith in
      both (sees (suc n) types (f o)) (see_no_later (suc n) types (map f rest)) (here refl)
      (subst (λ (m : ℕ). see_no_later m types (map f rest) ≡ true) next later)
  see_step false n o rest here later =
      let same : n + 0 ≡ n = omega arith in
      subst (λ (m : ℕ). see_no_later m types (map f rest) ≡ true) same later

  see_all : (os : List Opener) (n : ℕ)
      → ((k : ℕ) (d : Opener) → k < length os → is_positive (get_or os k d) ≡ true
      → sees (suc (n + count_by is_positive (take k os))) types (f (get_or os k d)) ≡ true)
      → see_no_later n types (map f (filter is_positive os)) ≡ true
  see_all [] n each = refl
  see_all (o ∷ os) n each =
      see_step (is_positive o) n o (filter is_positive os)
      (λ e. (let first : n + 0 ≡ n = omega arith in subst (λ (m : ℕ). sees (suc m) types (f o) ≡ true) first (each 0 o (omega arith) e)))
      (see_all os (n + counts o) (λ k d h e.
      (let more = sum_by-cons counts o (take k os) in
      let same : n + sum_by counts (o ∷ take k os) ≡ n + counts o + sum_by counts (take k os) = omega arith in
      subst (λ (m : ℕ). sees (suc m) types (f (get_or os k d)) ≡ true) same (each (suc k) d (omega arith) e))))

-- ---- the plan

counts_none : (o : Opener) → is_negated o.how ≡ true → counts o ≡ 0
counts_none o e = ap (λ (b : Bool). cond {A = ℕ} (not b) 1 0) e

counts_so : (o : Opener) → is_positive o ≡ true → counts o ≡ 1
counts_so o e = ap (λ (b : Bool). cond {A = ℕ} b 1 0) e

counted_here : (openers : List Opener) (k : ℕ) (d : Opener) → k < length openers
    → count_by is_positive (take (suc k) openers) ≡ count_by is_positive (take k openers) + counts (get_or openers k d)
counted_here openers k d h = let same : suc k ≡ k + 1 = omega arith in ap (λ (n : ℕ). sum_by counts (take n openers)) same ∙ sum_by_more counts openers k d h

module _ (file : File) (well : IsWellFormed file) (sound : fault_with (known_fields file.types) file ≡ None) where
  abbrev fields : List Field
  fields = known_fields file.types

  stage_sees : (k : ℕ) (d : Opener) → k < length file.openers → is_positive (get_or file.openers k d) ≡ true
      → sees (suc (0 + count_by is_positive (take k file.openers))) (types_of fields file.types) (stage_of fields file (get_or file.openers k d)) ≡ true
  stage_sees k d h e =
      let here = counted_here file.openers k d h in
      let one = counts_so (get_or file.openers k d) e in
      let same : count_by is_positive (take (suc k) file.openers) ≡ suc (0 + count_by is_positive (take k file.openers)) = omega arith in
      subst (λ (m : ℕ). sees m (types_of fields file.types) (stage_of fields file (get_or file.openers k d)) ≡ true) same
      (both (is_sound_cond (count_by is_positive (take (suc k) file.openers)) (types_of fields file.types)
      (stage_of fields file (get_or file.openers k d)).cond)
      (if_sound (count_by is_positive (take (suc k) file.openers)) (types_of fields file.types)
      (stage_of fields file (get_or file.openers k d)).until)
      (cond_here file well sound (seen file.openers) (mention_seen file) k d h) (until_here file well sound (seen file.openers) (mention_seen file) k d h))

  negation_sees : (k : ℕ) (d : Opener) → k < length file.openers → is_negated (get_or file.openers k d).how ≡ true
      → is_sound_cond (suc (negation_of fields file (get_or file.openers k d)).after) (types_of fields file.types)
      (negation_of fields file (get_or file.openers k d)).cond ≡ true
  negation_sees k d h e =
      let after = after_here fields file well sound k d h in
      let first = one_first file.openers well.begins (once fields file well sound) k d h e in
      let here = counted_here file.openers k d h in
      let none = counts_none (get_or file.openers k d) e in
      let same : count_by is_positive (take (suc k) file.openers) ≡ suc (negation_of fields file (get_or file.openers k d)).after = omega arith in
      subst (λ (m : ℕ). is_sound_cond m (types_of fields file.types) (negation_of fields file (get_or file.openers k d)).cond ≡ true) same
      (negation_here file well sound (seen file.openers) (mention_seen file) k d h)

  pub plan_placed : IsPlaced (plan_with fields file)
  unfolding stages_of negations_of broken_in_stages
  plan_placed = record {
    closes = closes fields file well sound;
    last_waits = last_waits fields file well sound;
    behind_fixed =
        made_of (λ o. is_negated o.how) (negation_of fields file) (λ n. not (is_optional (slice_get (stages_of fields file) n.after))) file.openers
        (behind_fixed fields file well sound);
    open_loops =
        all_made is_positive (stage_of fields file) (λ s. ends_open_loop s.until s.max) file.openers
        (kept_by_two twice_quantifier until_without_open_loop (λ o. ends_open_loop (stage_of fields file o).until (stage_of fields file o).max)
        (open_loop fields file well sound) file.openers (kept fields file sound 7 (omega arith)) (kept fields file sound 11 (omega arith)));
    stages_see = see_all (types_of fields file.types) (stage_of fields file) file.openers 0 stage_sees;
    negations_see =
        made_of (λ o. is_negated o.how) (negation_of fields file) (λ n. is_sound_cond (suc n.after) (types_of fields file.types) n.cond) file.openers
        negation_sees;
  }
