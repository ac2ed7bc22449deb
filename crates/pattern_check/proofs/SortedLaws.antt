-- The conditions of the plan of a file without a fault are truth values, and what it shows are numbers and texts.
use Rattle.std.proofs.Common.{◌≡◌, ℕ, ◌+◌, ◌<◌, Bool, true, ◌&&◌, List, [], ◌∷◌, length, get_or, map, refl, subst, ◌∙◌, arith}
use Rattle.std.specs.Prelude.{nat_le, Option, Some, None}
use Rattle.std.specs.List.{list_all, flat_map}
use Rattle.std.proofs.lemmas.List.Folds.{list_all-append}
use Rattle.cep_event.specs.declared.event.Field.{Field}
use Rattle.cep_event.specs.declared.event.EventType.{EventType}
use Rattle.cep_plan.specs.declared.condition.Part.{Part}
use Rattle.cep_plan.specs.declared.condition.Cond.{Cond}
use Rattle.cep_expression.specs.declared.expr.SynExpr.{SynExpr}
use Rattle.cep_syntax.specs.declared.file.ModKind.{ModKind}
use Rattle.cep_syntax.specs.declared.file.ModKind.TheVariants as modifier
use Rattle.cep_syntax.specs.declared.file.Modifier.{Modifier}
use Rattle.cep_syntax.specs.declared.file.Opener.{Opener}
use Rattle.cep_syntax.specs.declared.file.File.{File}
use Rattle.cep_syntax.specs.WellFormed.{is_formed, is_formed_modifier, is_formed_opener, is_formed_select, of_some, IsWellFormed}
use Rattle.cep_reading.specs.Terminal.{is_name}
use Rattle.cep_token.specs.Form.{is_word}
use Rattle.pattern_rules.specs.declared.site.Site.{Site}
use Rattle.pattern_rules.specs.declared.site.Site.TheVariants as site
use Rattle.pattern_rules.specs.declared.mention.MentionRule.TheVariants as rule
use Rattle.pattern_rules.specs.declared.kind.Sort.TheVariants as sort
use Rattle.pattern_rules.specs.declared.kind.Wanted.{Wanted}
use Rattle.pattern_rules.specs.declared.kind.Wanted.TheVariants as want
use Rattle.pattern_rules.specs.First.{or_else, first_some, first_from}
use Rattle.pattern_rules.specs.Bounds.{is_negated}
use Rattle.pattern_rules.specs.Fields.{known_fields}
use Rattle.pattern_rules.specs.Mention.{mentions_of}
use Rattle.pattern_rules.specs.Mentioned.{bad_mention, bad_expression, bad_modifier, bad_opener, bad_conditions, bad_shown, bad_select, broken_by_mention}
use Rattle.pattern_rules.specs.Kinds as syntax
use Rattle.pattern_rules.specs.Kinds.{fits, clash_in, clash_unless, clash_in_modifier, clash_in_opener, clash_in_openers, clash_in_select, kind_clash}
use Rattle.pattern_rules.specs.Rules.{fault_with}
use Rattle.pattern_check.specs.Numbers.{is_positive}
use Rattle.pattern_check.specs.Translated.{expr_of}
use Rattle.pattern_check.specs.Conditions.{parts_of, cond_of, until_in, until_of}
use Rattle.pattern_check.specs.Plan.{types_of, stage_of, stages_of, negation_of, negations_of, select_of, plan_with}
use Rattle.pattern_check.specs.Sorts.{has_sort, is_truth, if_truth, are_values, HasSorts}
use Rattle.pattern_check.proofs.KeptRules.{first_none, second_none, kept, none_at}
use Rattle.pattern_check.proofs.KeepLaws.{all_at}
use Rattle.pattern_check.proofs.ListLaws.{both, left_of, right_of, all_kept}
use Rattle.pattern_check.proofs.FromLaws.{from_none_at}
use Rattle.pattern_check.proofs.PlaceLaws.{made_of}
use Rattle.pattern_check.proofs.SortLaws.{keeps_sort, sorted_node, fitting, inside_so}
use Rattle.pattern_check.proofs.FieldSortLaws.{mention_kept}

module _ (file : File) (well : IsWellFormed file) (sound : fault_with (known_fields file.types) file ≡ None) where
  abbrev fields : List Field
  fields = known_fields file.types

  abbrev types : List EventType
  types = types_of fields file.types

  sorted_expression : (spot : Site) (asked : Wanted) (e : SynExpr) → is_formed e ≡ true → bad_expression rule.UnknownField file fields spot e ≡ None
      → clash_unless fields asked e ≡ None → has_sort types asked (expr_of fields file.openers e) ≡ true
  unfolding bad_expression clash_unless expr_of
  sorted_expression spot asked e good known c =
      let keep = all_kept (bad_mention rule.UnknownField file fields spot) (keeps_sort types fields) (mention_kept file well sound spot) (mentions_of e) known in
      fitting types fields file.openers asked e.place e.node c keep
      (sorted_node types fields file.openers e.place e.node good
      (inside_so (fits asked (syntax.sort_of fields e.node)) e.place (clash_in fields e.place e.node) c) keep)

  abbrev part_true : Part → Bool
  part_true part = has_sort types (want.Only sort.Bool) part.expr

  true_parts : (k : ℕ) (what : ModKind) → is_formed_modifier what ≡ true → bad_modifier rule.UnknownField file fields k what ≡ None
      → clash_in_modifier fields what ≡ None → list_all part_true (parts_of fields file.openers what) ≡ true
  true_parts k (modifier.Filter join e) good known c =
      both (has_sort types (want.Only sort.Bool) (expr_of fields file.openers e)) true
      (sorted_expression (site.Condition k) (want.Only sort.Bool) e good known c) refl
  true_parts k (modifier.Until e) good known c = refl
  true_parts k (modifier.Times from to) good known c = refl
  true_parts k (modifier.TimesOrMore from) good known c = refl
  true_parts k modifier.OneOrMore good known c = refl
  true_parts k modifier.Optional good known c = refl
  true_parts k modifier.Consecutive good known c = refl
  true_parts k modifier.AllowCombinations good known c = refl

  true_until : (k : ℕ) (what : ModKind) → is_formed_modifier what ≡ true → bad_modifier rule.UnknownField file fields k what ≡ None
      → clash_in_modifier fields what ≡ None → if_truth types (until_in fields file.openers what) ≡ true
  true_until k (modifier.Until e) good known c =
      both (has_sort types (want.Only sort.Bool) (expr_of fields file.openers e)) true
      (sorted_expression (site.Until k) (want.Only sort.Bool) e good known c) refl
  true_until k (modifier.Filter join e) good known c = refl
  true_until k (modifier.Times from to) good known c = refl
  true_until k (modifier.TimesOrMore from) good known c = refl
  true_until k modifier.OneOrMore good known c = refl
  true_until k modifier.Optional good known c = refl
  true_until k modifier.Consecutive good known c = refl
  true_until k modifier.AllowCombinations good known c = refl

  -- the modifiers of the opener with the number k are well formed, mention fields that are known and have no clash
  record AreClear (k : ℕ) (mods : List Modifier) : Type 0 where
    formed : list_all (λ m. is_formed_modifier m.what) mods ≡ true
    fields_known : first_some (λ m. bad_modifier rule.UnknownField file fields k m.what) mods ≡ None
    no_clash : first_some (λ m. clash_in_modifier fields m.what) mods ≡ None

  rest_clear : (k : ℕ) (m : Modifier) (mods : List Modifier) → AreClear k (m ∷ mods) → AreClear k mods
  rest_clear k m mods h = record {
    formed = right_of (is_formed_modifier m.what) (list_all (λ x. is_formed_modifier x.what) mods) h.formed;
    fields_known =
        second_none (bad_modifier rule.UnknownField file fields k m.what)
        (first_some (λ x. bad_modifier rule.UnknownField file fields k x.what) mods) h.fields_known;
    no_clash = second_none (clash_in_modifier fields m.what) (first_some (λ x. clash_in_modifier fields x.what) mods) h.no_clash;
  }

  here_clear : (k : ℕ) (p : ModKind → Bool)
      → ((what : ModKind) → is_formed_modifier what ≡ true → bad_modifier rule.UnknownField file fields k what ≡ None
      → clash_in_modifier fields what ≡ None → p what ≡ true)
      → (m : Modifier) (mods : List Modifier) → AreClear k (m ∷ mods) → p m.what ≡ true
  here_clear k p each m mods h = each m.what
      (left_of (is_formed_modifier m.what) (list_all (λ x. is_formed_modifier x.what) mods) h.formed)
      (first_none (bad_modifier rule.UnknownField file fields k m.what) (first_some (λ x. bad_modifier rule.UnknownField file fields k x.what) mods)
      h.fields_known)
      (first_none (clash_in_modifier fields m.what) (first_some (λ x. clash_in_modifier fields x.what) mods) h.no_clash)

  true_all : (k : ℕ) (mods : List Modifier) → AreClear k mods → list_all part_true (flat_map (λ m. parts_of fields file.openers m.what) mods) ≡ true
  true_all k [] h = refl
  true_all k (m ∷ mods) h =
      list_all-append part_true (parts_of fields file.openers m.what) (flat_map (λ x. parts_of fields file.openers x.what) mods)
      ∙ both (list_all part_true (parts_of fields file.openers m.what)) (list_all part_true (flat_map (λ x. parts_of fields file.openers x.what) mods))
      (here_clear k (λ what. list_all part_true (parts_of fields file.openers what)) (true_parts k) m mods h) (true_all k mods (rest_clear k m mods h))

  true_either : (a b : Option Cond) → if_truth types a ≡ true → if_truth types b ≡ true → if_truth types (or_else a b) ≡ true
  true_either None b e f = f
  true_either (Some cond) b e f = e

  true_untils : (k : ℕ) (mods : List Modifier) → AreClear k mods → if_truth types (first_some (λ m. until_in fields file.openers m.what) mods) ≡ true
  true_untils k [] h = refl
  true_untils k (m ∷ mods) h =
      true_either (until_in fields file.openers m.what) (first_some (λ x. until_in fields file.openers x.what) mods)
      (here_clear k (λ what. if_truth types (until_in fields file.openers what)) (true_until k) m mods h) (true_untils k mods (rest_clear k m mods h))

  true_cond : (k : ℕ) (mods : List Modifier) → AreClear k mods → is_truth types (cond_of fields file.openers mods) ≡ true
  unfolding cond_of
  true_cond k mods h = true_all k mods h

  true_end : (k : ℕ) (mods : List Modifier) → AreClear k mods → if_truth types (until_of fields file.openers mods) ≡ true
  unfolding until_of
  true_end k mods h = true_untils k mods h

  opener_clear : (k : ℕ) (o : Opener) → is_formed_opener o ≡ true → bad_opener rule.UnknownField file fields k o ≡ None
      → clash_in_opener fields o ≡ None → AreClear k o.mods
  unfolding bad_opener clash_in_opener
  opener_clear k o good known c = record {
    formed =
        right_of (of_some (λ name. is_word name.text) o.of) (list_all (λ m. is_formed_modifier m.what) o.mods)
        (right_of (is_name o.name.text) (of_some (λ name. is_word name.text) o.of && list_all (λ m. is_formed_modifier m.what) o.mods) good);
    fields_known = known;
    no_clash = c;
  }

  fields_rule : first_from (bad_opener rule.UnknownField file fields) 0 file.openers ≡ None
  unfolding broken_by_mention bad_conditions
  fields_rule = first_none (bad_conditions rule.UnknownField file fields) (bad_select rule.UnknownField file fields) (kept fields file sound 12 (omega arith))

  shown_rule : bad_shown rule.UnknownField file fields file.select ≡ None
  unfolding broken_by_mention bad_select
  shown_rule = second_none (bad_conditions rule.UnknownField file fields) (bad_select rule.UnknownField file fields) (kept fields file sound 12 (omega arith))

  clash_rule : first_some (clash_in_opener fields) file.openers ≡ None
  unfolding kind_clash clash_in_openers
  clash_rule = first_none (clash_in_openers fields file.openers) (clash_in_select fields file.select) (kept fields file sound 13 (omega arith))

  value_rule : clash_in_select fields file.select ≡ None
  unfolding kind_clash
  value_rule = second_none (clash_in_openers fields file.openers) (clash_in_select fields file.select) (kept fields file sound 13 (omega arith))

  clear_here : (k : ℕ) (d : Opener) → k < length file.openers → AreClear k (get_or file.openers k d).mods
  clear_here k d h =
      let zero_so : 0 + k ≡ k = omega arith in
      opener_clear k (get_or file.openers k d) (all_at is_formed_opener file.openers k d h well.openers)
      (subst (λ (n : ℕ). bad_opener rule.UnknownField file fields n (get_or file.openers k d) ≡ None) zero_so
      (from_none_at (bad_opener rule.UnknownField file fields) 0 file.openers k d h fields_rule))
      (none_at (clash_in_opener fields) file.openers k d h clash_rule)

  stage_true : (k : ℕ) (o : Opener) → AreClear k o.mods → is_truth types (stage_of fields file o).cond ≡ true
  unfolding stage_of
  stage_true k o h = true_cond k o.mods h

  stage_ends : (k : ℕ) (o : Opener) → AreClear k o.mods → if_truth types (stage_of fields file o).until ≡ true
  unfolding stage_of
  stage_ends k o h = true_end k o.mods h

  negation_true : (k : ℕ) (o : Opener) → AreClear k o.mods → is_truth types (negation_of fields file o).cond ≡ true
  unfolding negation_of
  negation_true k o h = true_cond k o.mods h

  shown_all : (es : List SynExpr) → list_all is_formed es ≡ true → first_some (bad_expression rule.UnknownField file fields site.Select) es ≡ None
      → first_some (clash_unless fields want.Value) es ≡ None → list_all (has_sort types want.Value) (map (expr_of fields file.openers) es) ≡ true
  shown_all [] good known c = refl
  shown_all (e ∷ es) good known c =
      both (has_sort types want.Value (expr_of fields file.openers e)) (list_all (has_sort types want.Value) (map (expr_of fields file.openers) es))
      (sorted_expression site.Select want.Value e (left_of (is_formed e) (list_all is_formed es) good)
      (first_none (bad_expression rule.UnknownField file fields site.Select e) (first_some (bad_expression rule.UnknownField file fields site.Select) es) known)
      (first_none (clash_unless fields want.Value e) (first_some (clash_unless fields want.Value) es) c))
      (shown_all es (right_of (is_formed e) (list_all is_formed es) good)
      (second_none (bad_expression rule.UnknownField file fields site.Select e)
      (first_some (bad_expression rule.UnknownField file fields site.Select) es) known)
      (second_none (clash_unless fields want.Value e) (first_some (clash_unless fields want.Value) es) c))

  shown_sorted : (es : Option (List SynExpr)) → of_some is_formed_select es ≡ true → bad_shown rule.UnknownField file fields es ≡ None
      → clash_in_select fields es ≡ None → are_values types (select_of fields file.openers es) ≡ true
  shown_sorted None good known c = refl
  shown_sorted (Some es) good known c = shown_all es (right_of (nat_le 1 (length es)) (list_all is_formed es) good) known c

  pub plan_sorted : HasSorts (plan_with fields file)
  unfolding stages_of negations_of
  plan_sorted = record {
    conditions =
        made_of is_positive (stage_of fields file) (λ s. is_truth types s.cond) file.openers
        (λ k d h _. stage_true k (get_or file.openers k d) (clear_here k d h));
    untils =
        made_of is_positive (stage_of fields file) (λ s. if_truth types s.until) file.openers
        (λ k d h _. stage_ends k (get_or file.openers k d) (clear_here k d h));
    negations =
        made_of (λ o. is_negated o.how) (negation_of fields file) (λ s. is_truth types s.cond) file.openers
        (λ k d h _. negation_true k (get_or file.openers k d) (clear_here k d h));
    shown = shown_sorted file.select well.shows shown_rule value_rule;
  }
