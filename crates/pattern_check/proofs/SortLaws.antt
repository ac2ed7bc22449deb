-- The operands of the expression that is made of one without a clash have the kinds that are asked for.
use Rattle.std.proofs.Common.{◌≡◌, ℕ, Bool, true, false, cond, ◌&&◌, List, ◌++◌, refl, sym, ap, ◌∙◌}
use Rattle.std.specs.Prelude.{nat_le, length, Option, Some, None}
use Rattle.std.specs.List.{list_all}
use Rattle.std.proofs.lemmas.List.Folds.{list_all-append}
use Rattle.cep_event.specs.declared.event.Field.{Field}
use Rattle.cep_event.specs.declared.event.EventType.{EventType}
use Rattle.cep_plan.specs.declared.condition.Cmp.{Cmp}
use Rattle.cep_plan.specs.declared.condition.Expr.{Expr}
use Rattle.cep_plan.specs.declared.condition.Expr as plan
use Rattle.cep_plan.specs.declared.condition.Expr.{Row_of-Expr, end_of-Expr, more_of-Expr, Row_of-Term, end_of-Term, more_of-Term, Row_of-Factor, end_of-Factor, more_of-Factor, items-the_row-Expr, items-the_row-Term, items-the_row-Factor, items_hidden-the_row-Expr-0, items_hidden-the_row-Term-2, items_hidden-the_row-Factor-3}
use Rattle.cep_plan.specs.declared.condition.Expr.TheBlock.{hidden-the_row-Expr-0, hidden-the_row-Expr-1, hidden-the_row-Term-2, hidden-the_row-Factor-3}
use Rattle.cep_plan.specs.declared.condition.Term.{Term}
use Rattle.cep_plan.specs.declared.condition.Factor.{Factor}
use Rattle.cep_expression.specs.declared.expr.Agg.{Agg as SynAgg}
use Rattle.cep_expression.specs.declared.expr.Agg.TheVariants as syn_agg
use Rattle.cep_expression.specs.declared.expr.SynNode.{SynNode, Int, Text, Bool as Truth, Field as OneField, Count, Of, Any', All', Compare', Add', Mul', Not', Neg', Row_of-SynExpr, end_of-SynExpr, more_of-SynExpr, Row_of-SynTerm, end_of-SynTerm, more_of-SynTerm, Row_of-SynFactor, end_of-SynFactor, more_of-SynFactor}
use Rattle.cep_syntax.specs.declared.file.Opener.{Opener}
use Rattle.cep_syntax.specs.WellFormed as formed
use Rattle.cep_syntax.specs.WellFormed.{is_formed_node, formed_parts, formed_terms, formed_factors}
use Rattle.pattern_rules.specs.declared.kind.Sort.{Sort}
use Rattle.pattern_rules.specs.declared.kind.Sort.TheVariants as sort
use Rattle.pattern_rules.specs.declared.kind.Wanted.{Wanted}
use Rattle.pattern_rules.specs.declared.kind.Wanted.TheVariants as want
use Rattle.pattern_rules.specs.Named.{meaning}
use Rattle.pattern_rules.specs.Mention.{Mention, a_field, a_stage, a_stage_field, mentions_of_node, mentions_of_parts, mentions_of_terms, mentions_of_factors}
use Rattle.pattern_rules.specs.Kinds as syntax
use Rattle.pattern_rules.specs.Kinds.{same_sort, field_sort, fits, unless, aggregate_sort, aggregate_clash, clash_in, clash_in_parts, clash_in_terms, clash_in_factors}
use Rattle.pattern_check.specs.Numbers.{field_number}
use Rattle.pattern_check.specs.Translated.{agg_of, cmp_of, only, expr_of_node, exprs_of_row, terms_of_row, factors_of_row}
use Rattle.pattern_check.specs.Sorts.{sort_of_field, sort_of_aggregate, is_aggregate, sort_of, is_sorted, sorted_parts, sorted_terms, sorted_factors, has_sort}
use Rattle.pattern_check.proofs.KeptRules.{first_none, second_none}
use Rattle.pattern_check.proofs.ListLaws.{both, left_of, right_of}
use Rattle.pattern_check.proofs.SoundLaws.{sum_fine, product_fine}

-- ---- the rows of a plan's expression

module _ (types : List EventType) where
  parts-items : (asked : Wanted) {n : _} (row : Row_of-Expr n) → sorted_parts types asked row ≡ list_all (has_sort types asked) (items-the_row-Expr n row)
  parts-items asked end_of-Expr = refl
  parts-items asked (more_of-Expr x row) = ap (λ later. has_sort types asked x && later) (parts-items asked row)

  terms-items : {n : _} (row : Row_of-Term n) → sorted_terms types row ≡ list_all (λ t. has_sort types (want.Only sort.Int) t.expr) (items-the_row-Term n row)
  terms-items end_of-Term = refl
  terms-items (more_of-Term minus x row) = ap (λ later. has_sort types (want.Only sort.Int) x && later) (terms-items row)

  factors-items : {n : _} (row : Row_of-Factor n)
      → sorted_factors types row ≡ list_all (λ f. has_sort types (want.Only sort.Int) f.expr) (items-the_row-Factor n row)
  factors-items end_of-Factor = refl
  factors-items (more_of-Factor how x row) = ap (λ later. has_sort types (want.Only sort.Int) x && later) (factors-items row)

  parts-hidden : (parts : List Expr)
      → sorted_parts types (want.Only sort.Bool) (hidden-the_row-Expr-0 parts) ≡ list_all (has_sort types (want.Only sort.Bool)) parts
  parts-hidden parts = parts-items (want.Only sort.Bool) (hidden-the_row-Expr-0 parts)
      ∙ ap (list_all (has_sort types (want.Only sort.Bool))) (items_hidden-the_row-Expr-0 parts)

  sorted-Any : (parts : List Expr) → is_sorted types (plan.Any parts) ≡ list_all (has_sort types (want.Only sort.Bool)) parts
  sorted-Any parts = parts-hidden parts

  sorted-All : (parts : List Expr) → is_sorted types (plan.All parts) ≡ list_all (has_sort types (want.Only sort.Bool)) parts
  sorted-All parts = parts-hidden parts

  sorted-Add : (terms : List Term) → is_sorted types (plan.Add terms) ≡ list_all (λ t. has_sort types (want.Only sort.Int) t.expr) terms
  sorted-Add terms = terms-items (hidden-the_row-Term-2 terms)
      ∙ ap (list_all (λ t. has_sort types (want.Only sort.Int) t.expr)) (items_hidden-the_row-Term-2 terms)

  sorted-Mul : (factors : List Factor) → is_sorted types (plan.Mul factors) ≡ list_all (λ f. has_sort types (want.Only sort.Int) f.expr) factors
  sorted-Mul factors = factors-items (hidden-the_row-Factor-3 factors)
      ∙ ap (list_all (λ f. has_sort types (want.Only sort.Int) f.expr)) (items_hidden-the_row-Factor-3 factors)

  sorted-Compare : (c : Cmp) (x y : Expr)
      → is_sorted types (plan.Compare c x y) ≡ ((has_sort types want.Value x && true) && (has_sort types (want.Only (sort_of types x)) y && true))
  unfolding hidden-the_row-Expr-1 denote.Hole.Carrier.hidden
  sorted-Compare c x y = refl

  sorted-Not : (x : Expr) → is_sorted types (plan.Not x) ≡ (has_sort types (want.Only sort.Bool) x && true)
  unfolding hidden-the_row-Expr-1 denote.Hole.Carrier.hidden
  sorted-Not x = refl

  sorted-Neg : (x : Expr) → is_sorted types (plan.Neg x) ≡ (has_sort types (want.Only sort.Int) x && true)
  unfolding hidden-the_row-Expr-1 denote.Hole.Carrier.hidden
  sorted-Neg x = refl

-- ---- no clash

fits_so : (b : Bool) (place : ℕ) (inside : Option ℕ) → unless b place inside ≡ None → b ≡ true
fits_so true place inside e = refl
fits_so false place inside e = absurd (cc)

pub inside_so : (b : Bool) (place : ℕ) (inside : Option ℕ) → unless b place inside ≡ None → inside ≡ None
inside_so true place inside e = e
inside_so false place inside e = absurd (cc)

sorts_same : (a b : Sort) → same_sort a b ≡ true → a ≡ b
sorts_same sort.Int sort.Int e = refl
sorts_same sort.Text sort.Text e = refl
sorts_same sort.Bool sort.Bool e = refl
sorts_same sort.Int sort.Text e = absurd (cc)
sorts_same sort.Int sort.Bool e = absurd (cc)
sorts_same sort.Text sort.Int e = absurd (cc)
sorts_same sort.Text sort.Bool e = absurd (cc)
sorts_same sort.Bool sort.Int e = absurd (cc)
sorts_same sort.Bool sort.Text e = absurd (cc)

aggregates_same : (what : SynAgg) (held : Sort) → sort_of_aggregate (agg_of what) held ≡ aggregate_sort what held
aggregates_same syn_agg.Sum held = refl
aggregates_same syn_agg.Min held = refl
aggregates_same syn_agg.Max held = refl
aggregates_same syn_agg.First held = refl
aggregates_same syn_agg.Last held = refl

number_so : (b : Bool) (place : ℕ) → cond b None (Some place) ≡ None → b ≡ true
number_so true place e = refl
number_so false place e = absurd (cc)

aggregate_so : (what : SynAgg) (held : Sort) (place : ℕ) → aggregate_clash what held place ≡ None → is_aggregate (agg_of what) held ≡ true
aggregate_so syn_agg.Sum held place e = number_so (same_sort held sort.Int) place e
aggregate_so syn_agg.Min held place e = number_so (same_sort held sort.Int) place e
aggregate_so syn_agg.Max held place e = number_so (same_sort held sort.Int) place e
aggregate_so syn_agg.First held place e = refl
aggregate_so syn_agg.Last held place e = refl

-- a field that is mentioned has in the plan the kind that it has in the file
abbrev pub keeps_sort : List EventType → List Field → Mention → Bool
keeps_sort types fields (a_field name) = same_sort (field_sort (meaning fields name.text)) (sort_of_field types (field_number fields name.text))
keeps_sort types fields (a_stage name) = true
keeps_sort types fields (a_stage_field name field) = same_sort (field_sort (meaning fields field.text)) (sort_of_field types (field_number fields field.text))

module _ (types : List EventType) (fields : List Field) (openers : List Opener) where
  abbrev keep : List Mention → Bool
  keep ms = list_all (keeps_sort types fields) ms

  front : (ms ns : List Mention) → keep (ms ++ ns) ≡ true → keep ms ≡ true
  front ms ns e = left_of (keep ms) (keep ns) (sym (list_all-append (keeps_sort types fields) ms ns) ∙ e)

  back : (ms ns : List Mention) → keep (ms ++ ns) ≡ true → keep ns ≡ true
  back ms ns e = right_of (keep ms) (keep ns) (sym (list_all-append (keeps_sort types fields) ms ns) ∙ e)

  field_same : (name : List ℕ) → (same_sort (field_sort (meaning fields name)) (sort_of_field types (field_number fields name)) && true) ≡ true
      → sort_of_field types (field_number fields name) ≡ field_sort (meaning fields name)
  field_same name h =
      sym (sorts_same (field_sort (meaning fields name)) (sort_of_field types (field_number fields name))
      (left_of (same_sort (field_sort (meaning fields name)) (sort_of_field types (field_number fields name))) true h))

  sort_same : (node : SynNode) → keep (mentions_of_node node) ≡ true → sort_of types (expr_of_node fields openers node) ≡ syntax.sort_of fields node
  sort_same (Int n) h = refl
  sort_same (Text t) h = refl
  sort_same (Truth b) h = refl
  sort_same (OneField name) h = field_same name.text h
  sort_same (Count name) h = refl
  sort_same (Of what name field) h = ap (sort_of_aggregate (agg_of what)) (field_same field.text h)
      ∙ aggregates_same what (field_sort (meaning fields field.text))
  sort_same (Any' _ parts) h = refl
  sort_same (All' _ parts) h = refl
  sort_same (Compare' c _ x _ y) h = refl
  sort_same (Add' _ terms) h = refl
  sort_same (Mul' _ factors) h = refl
  sort_same (Not' _ x) h = refl
  sort_same (Neg' _ x) h = refl

  first_same : {n : _} (row : Row_of-SynExpr n) → formed.only (formed_parts row) ≡ true → keep (mentions_of_parts row) ≡ true
      → sort_of types (only (exprs_of_row fields openers row)) ≡ syntax.sort_of_first fields row
  first_same end_of-SynExpr e h = absurd (cc)
  first_same (more_of-SynExpr place node row) e h = sort_same node (front (mentions_of_node node) (mentions_of_parts row) h)

  -- an operand that fits, and has no clash inside
  pub fitting : (asked : Wanted) (place : ℕ) (node : SynNode)
      → unless (fits asked (syntax.sort_of fields node)) place (clash_in fields place node) ≡ None → keep (mentions_of_node node) ≡ true
      → is_sorted types (expr_of_node fields openers node) ≡ true → has_sort types asked (expr_of_node fields openers node) ≡ true
  fitting asked place node c h inside =
      both (fits asked (sort_of types (expr_of_node fields openers node))) (is_sorted types (expr_of_node fields openers node))
      (ap (fits asked) (sort_same node h) ∙ fits_so (fits asked (syntax.sort_of fields node)) place (clash_in fields place node) c) inside

  mutual
    pub sorted_node : (place : ℕ) (node : SynNode) → is_formed_node node ≡ true → clash_in fields place node ≡ None
        → keep (mentions_of_node node) ≡ true → is_sorted types (expr_of_node fields openers node) ≡ true
    sorted_node place (Int n) e c h = refl
    sorted_node place (Text t) e c h = refl
    sorted_node place (Truth b) e c h = refl
    sorted_node place (OneField name) e c h = refl
    sorted_node place (Count name) e c h = refl
    sorted_node place (Of what name field) e c h = ap (is_aggregate (agg_of what)) (field_same field.text h)
        ∙ aggregate_so what (field_sort (meaning fields field.text)) place c
    sorted_node place (Any' _ parts) e c h =
        sorted-Any types (exprs_of_row fields openers parts)
        ∙ sorted_row (want.Only sort.Bool) parts (right_of (nat_le 2 (length (formed_parts parts))) (list_all (λ b. b) (formed_parts parts)) e) c h
    sorted_node place (All' _ parts) e c h =
        sorted-All types (exprs_of_row fields openers parts)
        ∙ sorted_row (want.Only sort.Bool) parts (right_of (nat_le 2 (length (formed_parts parts))) (list_all (λ b. b) (formed_parts parts)) e) c h
    sorted_node place (Compare' op _ x _ y) e c h =
        sorted-Compare types (cmp_of op) (only (exprs_of_row fields openers x)) (only (exprs_of_row fields openers y))
        ∙ both (has_sort types want.Value (only (exprs_of_row fields openers x)) && true)
        (has_sort types (want.Only (sort_of types (only (exprs_of_row fields openers x)))) (only (exprs_of_row fields openers y)) && true)
        (both (has_sort types want.Value (only (exprs_of_row fields openers x))) true
        (sorted_only want.Value x (left_of (formed.only (formed_parts x)) (formed.only (formed_parts y)) e)
        (first_none (clash_in_parts fields want.Value x) (clash_in_parts fields (want.Only (syntax.sort_of_first fields x)) y) c)
        (front (mentions_of_parts x) (mentions_of_parts y) h)) refl)
        (both (has_sort types (want.Only (sort_of types (only (exprs_of_row fields openers x)))) (only (exprs_of_row fields openers y))) true
        (ap (λ s. has_sort types (want.Only s) (only (exprs_of_row fields openers y)))
        (first_same x (left_of (formed.only (formed_parts x)) (formed.only (formed_parts y)) e)
        (front (mentions_of_parts x) (mentions_of_parts y) h))
        ∙ sorted_only (want.Only (syntax.sort_of_first fields x)) y (right_of (formed.only (formed_parts x)) (formed.only (formed_parts y)) e)
        (second_none (clash_in_parts fields want.Value x) (clash_in_parts fields (want.Only (syntax.sort_of_first fields x)) y) c)
        (back (mentions_of_parts x) (mentions_of_parts y) h)) refl)
    sorted_node place (Add' _ terms) e c h =
        sorted-Add types (terms_of_row fields openers terms) ∙ sorted_sum terms (sum_fine (formed_terms terms) e) c h
    sorted_node place (Mul' _ factors) e c h =
        sorted-Mul types (factors_of_row fields openers factors) ∙ sorted_product factors (product_fine (formed_factors factors) e) c h
    sorted_node place (Not' _ x) e c h =
        sorted-Not types (only (exprs_of_row fields openers x))
        ∙ both (has_sort types (want.Only sort.Bool) (only (exprs_of_row fields openers x))) true (sorted_only (want.Only sort.Bool) x e c h) refl
    sorted_node place (Neg' _ x) e c h =
        sorted-Neg types (only (exprs_of_row fields openers x))
        ∙ both (has_sort types (want.Only sort.Int) (only (exprs_of_row fields openers x))) true (sorted_only (want.Only sort.Int) x e c h) refl

    sorted_row : {n : _} (asked : Wanted) (row : Row_of-SynExpr n) → list_all (λ b. b) (formed_parts row) ≡ true
        → clash_in_parts fields asked row ≡ None → keep (mentions_of_parts row) ≡ true
        → list_all (has_sort types asked) (exprs_of_row fields openers row) ≡ true
    sorted_row asked end_of-SynExpr e c h = refl
    sorted_row asked (more_of-SynExpr place node row) e c h =
        let here = first_none (unless (fits asked (syntax.sort_of fields node)) place (clash_in fields place node)) (clash_in_parts fields asked row) c in
        let kept = front (mentions_of_node node) (mentions_of_parts row) h in
        both (has_sort types asked (expr_of_node fields openers node)) (list_all (has_sort types asked) (exprs_of_row fields openers row))
        (fitting asked place node here kept (sorted_node place node (left_of (is_formed_node node) (list_all (λ b. b) (formed_parts row)) e)
        (inside_so (fits asked (syntax.sort_of fields node)) place (clash_in fields place node) here) kept))
        (sorted_row asked row (right_of (is_formed_node node) (list_all (λ b. b) (formed_parts row)) e)
        (second_none (unless (fits asked (syntax.sort_of fields node)) place (clash_in fields place node)) (clash_in_parts fields asked row) c)
        (back (mentions_of_node node) (mentions_of_parts row) h))

    sorted_only : {n : _} (asked : Wanted) (row : Row_of-SynExpr n) → formed.only (formed_parts row) ≡ true → clash_in_parts fields asked row ≡ None
        → keep (mentions_of_parts row) ≡ true → has_sort types asked (only (exprs_of_row fields openers row)) ≡ true
    sorted_only asked end_of-SynExpr e c h = absurd (cc)
    sorted_only asked (more_of-SynExpr place node row) e c h =
        let here = first_none (unless (fits asked (syntax.sort_of fields node)) place (clash_in fields place node)) (clash_in_parts fields asked row) c in
        let kept = front (mentions_of_node node) (mentions_of_parts row) h in
        fitting asked place node here kept (sorted_node place node e
        (inside_so (fits asked (syntax.sort_of fields node)) place (clash_in fields place node) here) kept)

    sorted_sum : {n : _} (row : Row_of-SynTerm n) → list_all (λ t. t.1) (formed_terms row) ≡ true → clash_in_terms fields row ≡ None
        → keep (mentions_of_terms row) ≡ true → list_all (λ t. has_sort types (want.Only sort.Int) t.expr) (terms_of_row fields openers row) ≡ true
    sorted_sum end_of-SynTerm e c h = refl
    sorted_sum (more_of-SynTerm minus place node row) e c h =
        let here = first_none (unless (fits (want.Only sort.Int) (syntax.sort_of fields node)) place (clash_in fields place node)) (clash_in_terms fields row) c in
        let kept = front (mentions_of_node node) (mentions_of_terms row) h in
        both (has_sort types (want.Only sort.Int) (expr_of_node fields openers node))
        (list_all (λ t. has_sort types (want.Only sort.Int) t.expr) (terms_of_row fields openers row))
        (fitting (want.Only sort.Int) place node here kept
        (sorted_node place node (left_of (is_formed_node node) (list_all (λ t. t.1) (formed_terms row)) e)
        (inside_so (fits (want.Only sort.Int) (syntax.sort_of fields node)) place (clash_in fields place node) here) kept))
        (sorted_sum row (right_of (is_formed_node node) (list_all (λ t. t.1) (formed_terms row)) e)
        (second_none (unless (fits (want.Only sort.Int) (syntax.sort_of fields node)) place (clash_in fields place node))
        (clash_in_terms fields row) c) (back (mentions_of_node node) (mentions_of_terms row) h))

    sorted_product : {n : _} (row : Row_of-SynFactor n) → list_all (λ t. t.1) (formed_factors row) ≡ true → clash_in_factors fields row ≡ None
        → keep (mentions_of_factors row) ≡ true
        → list_all (λ f. has_sort types (want.Only sort.Int) f.expr) (factors_of_row fields openers row) ≡ true
    sorted_product end_of-SynFactor e c h = refl
    sorted_product (more_of-SynFactor how place node row) e c h =
        let here = first_none (unless (fits (want.Only sort.Int) (syntax.sort_of fields node)) place (clash_in fields place node)) (clash_in_factors fields row) c in
        let kept = front (mentions_of_node node) (mentions_of_factors row) h in
        both (has_sort types (want.Only sort.Int) (expr_of_node fields openers node))
        (list_all (λ f. has_sort types (want.Only sort.Int) f.expr) (factors_of_row fields openers row))
        (fitting (want.Only sort.Int) place node here kept
        (sorted_node place node (left_of (is_formed_node node) (list_all (λ t. t.1) (formed_factors row)) e)
        (inside_so (fits (want.Only sort.Int) (syntax.sort_of fields node)) place (clash_in fields place node) here) kept))
        (sorted_product row (right_of (is_formed_node node) (list_all (λ t. t.1) (formed_factors row)) e)
        (second_none (unless (fits (want.Only sort.Int) (syntax.sort_of fields node)) place (clash_in fields place node))
        (clash_in_factors fields row) c) (back (mentions_of_node node) (mentions_of_factors row) h))
