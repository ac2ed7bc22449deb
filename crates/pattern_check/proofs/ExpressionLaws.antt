-- The expressions of the plan of a file without a fault are sound.
use Rattle.std.proofs.Common.{◌≡◌, ℕ, ◌<◌, Bool, true, ◌&&◌, List, [], ◌∷◌, length, get_or, refl, ◌∙◌, arith}
use Rattle.std.specs.Prelude.{Option, Some, None}
use Rattle.std.specs.List.{list_all, filter, flat_map}
use Rattle.std.proofs.lemmas.List.Folds.{list_all-append, list_all-map}
use Rattle.cep_event.specs.declared.event.Field.{Field}
use Rattle.cep_event.specs.declared.event.EventType.{EventType}
use Rattle.cep_plan.specs.declared.condition.Part.{Part}
use Rattle.cep_plan.specs.declared.condition.Cond.{Cond}
use Rattle.cep_expression.specs.declared.expr.SynExpr.{SynExpr}
use Rattle.cep_syntax.specs.declared.file.ModKind.{ModKind}
use Rattle.cep_syntax.specs.declared.file.ModKind.TheVariants as modifier
use Rattle.cep_syntax.specs.declared.file.Modifier.{Modifier}
use Rattle.cep_syntax.specs.declared.file.Opener.{Opener}
use Rattle.cep_syntax.specs.declared.file.File.{File}
use Rattle.cep_syntax.specs.WellFormed.{is_formed, is_formed_modifier, is_formed_opener, is_formed_select, of_some, IsWellFormed}
use Rattle.cep_reading.specs.Terminal.{is_name}
use Rattle.cep_token.specs.Form.{is_word}
use Rattle.std.specs.Prelude.{nat_le}
use Rattle.pattern_rules.specs.declared.site.Site.{Site}
use Rattle.pattern_rules.specs.declared.site.Site.TheVariants as site
use Rattle.pattern_rules.specs.First.{or_else, first_some, first_from}
use Rattle.pattern_rules.specs.Fields.{known_fields}
use Rattle.pattern_rules.specs.Bounds.{is_negated}
use Rattle.pattern_rules.specs.Mention.{Mention, mentions_of}
use Rattle.pattern_rules.specs.Mentioned.{bad_mention, bad_expression, bad_modifier, bad_opener, bad_conditions, bad_shown, bad_select, broken_by_mention}
use Rattle.pattern_rules.specs.Rules.{fault_with}
use Rattle.pattern_check.specs.Numbers.{is_positive}
use Rattle.pattern_check.specs.Translated.{expr_of}
use Rattle.pattern_check.specs.Conditions.{parts_of, cond_of, until_in, until_of}
use Rattle.pattern_check.specs.Plan.{types_of, stage_of, stages_of, negation_of, negations_of, select_of, plan_with}
use Rattle.pattern_check.specs.Sound.{is_sound, is_sound_cond, if_sound, are_sound, HasSoundExpressions}
use Rattle.pattern_check.proofs.KeptRules.{kept}
use Rattle.pattern_check.proofs.KeepLaws.{Keeps, first_keeps, rest_keeps, all_keep, keeps_at, all_at, all_true}
use Rattle.pattern_check.proofs.ListLaws.{both, left_of, right_of}
use Rattle.pattern_check.proofs.PlaceLaws.{made_of}
use Rattle.pattern_check.proofs.SoundLaws.{is_numbered, sound_node}
use Rattle.pattern_check.proofs.NumberedLaws.{stage_numbered, mention_numbered}

module _ (file : File) (n : Site → ℕ)
    (each : (spot : Site) (m : Mention) → Keeps (λ r. bad_mention r file (known_fields file.types) spot m)
    → is_numbered (n spot) (types_of (known_fields file.types) file.types) (known_fields file.types) file.openers m ≡ true) where
  abbrev fields : List Field
  fields = known_fields file.types

  abbrev types : List EventType
  types = types_of fields file.types

  sound_expression : (spot : Site) (e : SynExpr) → is_formed e ≡ true → Keeps (λ r. bad_expression r file fields spot e)
      → is_sound (n spot) types (expr_of fields file.openers e) ≡ true
  unfolding bad_expression expr_of
  sound_expression spot e good h =
      sound_node (n spot) types fields file.openers e.node good
      (all_keep (λ r m. bad_mention r file fields spot m) (λ _. true) (is_numbered (n spot) types fields file.openers) (λ m _ k. each spot m k)
      (mentions_of e) (all_true (mentions_of e)) h)

  abbrev part_sound : ℕ → Part → Bool
  part_sound k part = is_sound (n (site.Condition k)) types part.expr

  sound_parts : (k : ℕ) (what : ModKind) → is_formed_modifier what ≡ true → Keeps (λ r. bad_modifier r file fields k what)
      → list_all (part_sound k) (parts_of fields file.openers what) ≡ true
  sound_parts k (modifier.Filter join e) good h =
      both (is_sound (n (site.Condition k)) types (expr_of fields file.openers e)) true
      (sound_expression (site.Condition k) e good
      (record { fields_known = h.fields_known; names_known = h.names_known; none_later = h.none_later; names_positive = h.names_positive })) refl
  sound_parts k (modifier.Until e) good h = refl
  sound_parts k (modifier.Times from to) good h = refl
  sound_parts k (modifier.TimesOrMore from) good h = refl
  sound_parts k modifier.OneOrMore good h = refl
  sound_parts k modifier.Optional good h = refl
  sound_parts k modifier.Consecutive good h = refl
  sound_parts k modifier.AllowCombinations good h = refl

  sound_until : (k : ℕ) (what : ModKind) → is_formed_modifier what ≡ true → Keeps (λ r. bad_modifier r file fields k what)
      → if_sound (n (site.Until k)) types (until_in fields file.openers what) ≡ true
  sound_until k (modifier.Until e) good h =
      both (is_sound (n (site.Until k)) types (expr_of fields file.openers e)) true
      (sound_expression (site.Until k) e good (record
      { fields_known = h.fields_known; names_known = h.names_known; none_later = h.none_later; names_positive = h.names_positive })) refl
  sound_until k (modifier.Filter join e) good h = refl
  sound_until k (modifier.Times from to) good h = refl
  sound_until k (modifier.TimesOrMore from) good h = refl
  sound_until k modifier.OneOrMore good h = refl
  sound_until k modifier.Optional good h = refl
  sound_until k modifier.Consecutive good h = refl
  sound_until k modifier.AllowCombinations good h = refl

  -- the modifiers of the opener with the number k are well formed and keep the rules
  record AreKept (k : ℕ) (mods : List Modifier) : Type 0 where
    formed : list_all (λ m. is_formed_modifier m.what) mods ≡ true
    keep : Keeps (λ r. first_some (λ m. bad_modifier r file fields k m.what) mods)

  here_kept : (k : ℕ) (m : Modifier) (mods : List Modifier) → AreKept k (m ∷ mods) → Keeps (λ r. bad_modifier r file fields k m.what)
  here_kept k m mods h = first_keeps (λ r. bad_modifier r file fields k m.what) (λ r. first_some (λ x. bad_modifier r file fields k x.what) mods) h.keep

  rest_kept : (k : ℕ) (m : Modifier) (mods : List Modifier) → AreKept k (m ∷ mods) → AreKept k mods
  rest_kept k m mods h = record {
    formed = right_of (is_formed_modifier m.what) (list_all (λ x. is_formed_modifier x.what) mods) h.formed;
    keep = rest_keeps (λ r. bad_modifier r file fields k m.what) (λ r. first_some (λ x. bad_modifier r file fields k x.what) mods) h.keep;
  }

  sound_all : (k : ℕ) (mods : List Modifier) → AreKept k mods → list_all (part_sound k) (flat_map (λ m. parts_of fields file.openers m.what) mods) ≡ true
  sound_all k [] h = refl
  sound_all k (m ∷ mods) h =
      list_all-append (part_sound k) (parts_of fields file.openers m.what) (flat_map (λ x. parts_of fields file.openers x.what) mods)
      ∙ both (list_all (part_sound k) (parts_of fields file.openers m.what))
      (list_all (part_sound k) (flat_map (λ x. parts_of fields file.openers x.what) mods))
      (sound_parts k m.what (left_of (is_formed_modifier m.what) (list_all (λ x. is_formed_modifier x.what) mods) h.formed) (here_kept k m mods h))
      (sound_all k mods (rest_kept k m mods h))

  sound_either : (k : ℕ) (a b : Option Cond) → if_sound k types a ≡ true → if_sound k types b ≡ true → if_sound k types (or_else a b) ≡ true
  sound_either k None b e f = f
  sound_either k (Some cond) b e f = e

  sound_untils : (k : ℕ) (mods : List Modifier) → AreKept k mods
      → if_sound (n (site.Until k)) types (first_some (λ m. until_in fields file.openers m.what) mods) ≡ true
  sound_untils k [] h = refl
  sound_untils k (m ∷ mods) h =
      sound_either (n (site.Until k)) (until_in fields file.openers m.what) (first_some (λ x. until_in fields file.openers x.what) mods)
      (sound_until k m.what (left_of (is_formed_modifier m.what) (list_all (λ x. is_formed_modifier x.what) mods) h.formed) (here_kept k m mods h))
      (sound_untils k mods (rest_kept k m mods h))

  sound_cond : (k : ℕ) (mods : List Modifier) → AreKept k mods → is_sound_cond (n (site.Condition k)) types (cond_of fields file.openers mods) ≡ true
  unfolding cond_of
  sound_cond k mods h = sound_all k mods h

  sound_end : (k : ℕ) (mods : List Modifier) → AreKept k mods → if_sound (n (site.Until k)) types (until_of fields file.openers mods) ≡ true
  unfolding until_of
  sound_end k mods h = sound_untils k mods h

  opener_kept : (k : ℕ) (o : Opener) → is_formed_opener o ≡ true → Keeps (λ r. bad_opener r file fields k o) → AreKept k o.mods
  unfolding bad_opener
  opener_kept k o good h = record {
    formed =
        right_of (of_some (λ name. is_word name.text) o.of) (list_all (λ m. is_formed_modifier m.what) o.mods)
        (right_of (is_name o.name.text) (of_some (λ name. is_word name.text) o.of && list_all (λ m. is_formed_modifier m.what) o.mods) good);
    keep = h;
  }

  stage_cond : (k : ℕ) (o : Opener) → AreKept k o.mods → is_sound_cond (n (site.Condition k)) types (stage_of fields file o).cond ≡ true
  unfolding stage_of
  stage_cond k o h = sound_cond k o.mods h

  stage_until : (k : ℕ) (o : Opener) → AreKept k o.mods → if_sound (n (site.Until k)) types (stage_of fields file o).until ≡ true
  unfolding stage_of
  stage_until k o h = sound_end k o.mods h

  negation_cond : (k : ℕ) (o : Opener) → AreKept k o.mods → is_sound_cond (n (site.Condition k)) types (negation_of fields file o).cond ≡ true
  unfolding negation_of
  negation_cond k o h = sound_cond k o.mods h

  select_kept : (es : Option (List SynExpr)) → of_some is_formed_select es ≡ true → Keeps (λ r. bad_shown r file fields es)
      → are_sound (n site.Select) types (select_of fields file.openers es) ≡ true
  select_kept None good h = refl
  select_kept (Some es) good h =
      list_all-map (is_sound (n site.Select) types) (expr_of fields file.openers) es
      ∙ all_keep (λ r e. bad_expression r file fields site.Select e) is_formed (λ e. is_sound (n site.Select) types (expr_of fields file.openers e))
      (λ e good k. sound_expression site.Select e good k) es
      (right_of (nat_le 1 (length es)) (list_all is_formed es) good)
      (record { fields_known = h.fields_known; names_known = h.names_known; none_later = h.none_later; names_positive = h.names_positive })

module _ (file : File) (well : IsWellFormed file) (sound : fault_with (known_fields file.types) file ≡ None) where
  abbrev known : List Field
  known = known_fields file.types

  keeps_rules : Keeps (λ r. broken_by_mention r file known)
  keeps_rules = record {
    fields_known = kept known file sound 12 (omega arith);
    names_known = kept known file sound 14 (omega arith);
    none_later = kept known file sound 15 (omega arith);
    names_positive = kept known file sound 16 (omega arith);
  }

  conditions_keep : Keeps (λ r. first_from (bad_opener r file known) 0 file.openers)
  unfolding broken_by_mention bad_conditions
  conditions_keep = first_keeps (λ r. bad_conditions r file known) (λ r. bad_select r file known) keeps_rules

  shows_keep : Keeps (λ r. bad_shown r file known file.select)
  unfolding broken_by_mention bad_select
  shows_keep = rest_keeps (λ r. bad_conditions r file known) (λ r. bad_select r file known) keeps_rules

  module _ (n : Site → ℕ)
      (each : (spot : Site) (m : Mention) → Keeps (λ r. bad_mention r file known spot m)
      → is_numbered (n spot) (types_of known file.types) known file.openers m ≡ true) where
    kept_here : (k : ℕ) (d : Opener) → k < length file.openers → AreKept file n each k (get_or file.openers k d).mods
    kept_here k d h =
        opener_kept file n each k (get_or file.openers k d) (all_at is_formed_opener file.openers k d h well.openers)
        (keeps_at (λ r. bad_opener r file known) file.openers k d h conditions_keep)

    pub cond_here : (k : ℕ) (d : Opener) → k < length file.openers
        → is_sound_cond (n (site.Condition k)) (types_of known file.types) (stage_of known file (get_or file.openers k d)).cond ≡ true
    cond_here k d h = stage_cond file n each k (get_or file.openers k d) (kept_here k d h)

    pub until_here : (k : ℕ) (d : Opener) → k < length file.openers
        → if_sound (n (site.Until k)) (types_of known file.types) (stage_of known file (get_or file.openers k d)).until ≡ true
    until_here k d h = stage_until file n each k (get_or file.openers k d) (kept_here k d h)

    pub negation_here : (k : ℕ) (d : Opener) → k < length file.openers
        → is_sound_cond (n (site.Condition k)) (types_of known file.types) (negation_of known file (get_or file.openers k d)).cond ≡ true
    negation_here k d h = negation_cond file n each k (get_or file.openers k d) (kept_here k d h)

    shown_here : are_sound (n site.Select) (types_of known file.types) (select_of known file.openers file.select) ≡ true
    shown_here = select_kept file n each file.select well.shows shows_keep

  module _ (n : ℕ) (count : length (filter is_positive file.openers) ≡ n) where
    each_mention : (spot : Site) (m : Mention) → Keeps (λ r. bad_mention r file known spot m)
        → is_numbered n (types_of known file.types) known file.openers m ≡ true
    each_mention spot m h = mention_numbered file n spot (λ name k. stage_numbered file n count spot name k.names_known k.names_positive) m h

    conditions_sound : list_all (λ s. is_sound_cond n (types_of known file.types) s.cond) (stages_of known file) ≡ true
    unfolding stages_of
    conditions_sound =
        made_of is_positive (stage_of known file) (λ s. is_sound_cond n (types_of known file.types) s.cond) file.openers
        (λ k d h _. cond_here (λ _. n) each_mention k d h)

    untils_sound : list_all (λ s. if_sound n (types_of known file.types) s.until) (stages_of known file) ≡ true
    unfolding stages_of
    untils_sound =
        made_of is_positive (stage_of known file) (λ s. if_sound n (types_of known file.types) s.until) file.openers
        (λ k d h _. until_here (λ _. n) each_mention k d h)

    negations_sound : list_all (λ s. is_sound_cond n (types_of known file.types) s.cond) (negations_of known file) ≡ true
    unfolding negations_of
    negations_sound =
        made_of (λ o. is_negated o.how) (negation_of known file) (λ s. is_sound_cond n (types_of known file.types) s.cond) file.openers
        (λ k d h _. negation_here (λ _. n) each_mention k d h)

    shown_sound : are_sound n (types_of known file.types) (select_of known file.openers file.select) ≡ true
    shown_sound = shown_here (λ _. n) each_mention

  pub plan_sound : length (filter is_positive file.openers) ≡ length (stages_of known file) → HasSoundExpressions (plan_with known file)
  plan_sound count = record {
    conditions = conditions_sound (length (stages_of known file)) count;
    untils = untils_sound (length (stages_of known file)) count;
    negations = negations_sound (length (stages_of known file)) count;
    shown = shown_sound (length (stages_of known file)) count;
  }
