-- The expression that is made of a sound one is sound.
use Rattle.std.proofs.Common.{◌≡◌, ℕ, suc, Bool, true, not, ◌&&◌, List, [], ◌∷◌, ◌++◌, length, map, refl, sym, ap, subst, ◌∙◌}
use Rattle.std.specs.Prelude.{nat_le, nat_lt}
use Rattle.std.specs.List.{list_all}
use Rattle.std.proofs.lemmas.List.{length-map}
use Rattle.std.proofs.lemmas.List.Folds.{list_all-append, list_all-map}
use Rattle.cep_event.specs.declared.event.Field.{Field}
use Rattle.cep_event.specs.declared.event.EventType.{EventType}
use Rattle.cep_plan.specs.declared.condition.Cmp.{Cmp}
use Rattle.cep_plan.specs.declared.condition.Expr.{Expr}
use Rattle.cep_plan.specs.declared.condition.Expr as plan
use Rattle.cep_plan.specs.declared.condition.Expr.{Row_of-Expr, end_of-Expr, more_of-Expr, Row_of-Term, end_of-Term, more_of-Term, Row_of-Factor, end_of-Factor, more_of-Factor, items-the_row-Expr, items-the_row-Term, items-the_row-Factor, items_hidden-the_row-Expr-0, items_hidden-the_row-Term-2, items_hidden-the_row-Factor-3}
use Rattle.cep_plan.specs.declared.condition.Expr.TheBlock.{hidden-the_row-Expr-0, hidden-the_row-Expr-1, hidden-the_row-Term-2, hidden-the_row-Factor-3}
use Rattle.cep_plan.specs.declared.condition.Term.{Term}
use Rattle.cep_plan.specs.declared.condition.Factor.{Factor}
use Rattle.cep_expression.specs.declared.expr.How.{How}
use Rattle.cep_expression.specs.declared.expr.SynNode.{SynNode, Int, Text, Bool as Truth, Field as OneField, Count, Of, Any', All', Compare', Add', Mul', Not', Neg', Row_of-SynExpr, end_of-SynExpr, more_of-SynExpr, Row_of-SynTerm, end_of-SynTerm, more_of-SynTerm, Row_of-SynFactor, end_of-SynFactor, more_of-SynFactor}
use Rattle.cep_syntax.specs.declared.file.Opener.{Opener}
use Rattle.cep_syntax.specs.WellFormed as formed
use Rattle.cep_syntax.specs.WellFormed.{is_formed_node, formed_parts, formed_terms, formed_factors}
use Rattle.pattern_rules.specs.Mention.{Mention, a_field, a_stage, a_stage_field, mentions_of_node, mentions_of_parts, mentions_of_terms, mentions_of_factors}
use Rattle.pattern_check.specs.Numbers.{stages_before, field_number}
use Rattle.pattern_check.specs.Translated.{cmp_of, only, expr_of_node, exprs_of_row, terms_of_row, factors_of_row}
use Rattle.pattern_check.specs.Sound.{has_field, is_chain, is_sound, sound_parts, sound_terms, sound_factors}
use Rattle.pattern_check.proofs.ListLaws.{both, left_of, right_of}

module _ (stages : ℕ) (types : List EventType) where
  parts-items : {n : _} (row : Row_of-Expr n) → sound_parts stages types row ≡ map (is_sound stages types) (items-the_row-Expr n row)
  parts-items end_of-Expr = refl
  parts-items (more_of-Expr x row) = ap (λ later. is_sound stages types x ∷ later) (parts-items row)

  terms-items : {n : _} (row : Row_of-Term n) → sound_terms stages types row ≡ map (λ t. is_sound stages types t.expr) (items-the_row-Term n row)
  terms-items end_of-Term = refl
  terms-items (more_of-Term minus x row) = ap (λ later. is_sound stages types x ∷ later) (terms-items row)

  factors-items : {n : _} (row : Row_of-Factor n) → sound_factors stages types row ≡ map (λ f. is_sound stages types f.expr) (items-the_row-Factor n row)
  factors-items end_of-Factor = refl
  factors-items (more_of-Factor how x row) = ap (λ later. is_sound stages types x ∷ later) (factors-items row)

  parts-hidden : (parts : List Expr) → sound_parts stages types (hidden-the_row-Expr-0 parts) ≡ map (is_sound stages types) parts
  parts-hidden parts = parts-items (hidden-the_row-Expr-0 parts) ∙ ap (map (is_sound stages types)) (items_hidden-the_row-Expr-0 parts)

  sound-Any : (parts : List Expr) → is_sound stages types (plan.Any parts) ≡ is_chain (map (is_sound stages types) parts)
  sound-Any parts = ap is_chain (parts-hidden parts)

  sound-All : (parts : List Expr) → is_sound stages types (plan.All parts) ≡ is_chain (map (is_sound stages types) parts)
  sound-All parts = ap is_chain (parts-hidden parts)

  sound-Add : (terms : List Term) → is_sound stages types (plan.Add terms) ≡ is_chain (map (λ t. is_sound stages types t.expr) terms)
  sound-Add terms = ap is_chain (terms-items (hidden-the_row-Term-2 terms) ∙ ap (map (λ t. is_sound stages types t.expr)) (items_hidden-the_row-Term-2 terms))

  sound-Mul : (factors : List Factor) → is_sound stages types (plan.Mul factors) ≡ is_chain (map (λ f. is_sound stages types f.expr) factors)
  sound-Mul factors =
      ap is_chain (factors-items (hidden-the_row-Factor-3 factors)
      ∙ ap (map (λ f. is_sound stages types f.expr)) (items_hidden-the_row-Factor-3 factors))

  sound-Compare : (c : Cmp) (x y : Expr) → is_sound stages types (plan.Compare c x y) ≡ (is_sound stages types x && is_sound stages types y)
  unfolding hidden-the_row-Expr-1 denote.Hole.Carrier.hidden
  sound-Compare c x y = refl

  sound-Not : (x : Expr) → is_sound stages types (plan.Not x) ≡ is_sound stages types x
  unfolding hidden-the_row-Expr-1 denote.Hole.Carrier.hidden
  sound-Not x = refl

  sound-Neg : (x : Expr) → is_sound stages types (plan.Neg x) ≡ is_sound stages types x
  unfolding hidden-the_row-Expr-1 denote.Hole.Carrier.hidden
  sound-Neg x = refl

-- what an expression mentions has numbers that the plan has
abbrev pub is_numbered : ℕ → List EventType → List Field → List Opener → Mention → Bool
is_numbered stages types fields openers (a_field name) = has_field types (field_number fields name.text)
is_numbered stages types fields openers (a_stage name) = nat_lt (stages_before openers name.text) stages
is_numbered stages types fields openers (a_stage_field name field) =
    nat_lt (stages_before openers name.text) stages && has_field types (field_number fields field.text)

chain : (n : ℕ) (made : List Bool) → n ≡ length made → nat_le 2 n ≡ true → list_all (λ b. b) made ≡ true → is_chain made ≡ true
chain n made same long fine = both (nat_le 2 (length made)) (list_all (λ b. b) made) (subst (λ (k : ℕ). nat_le 2 k ≡ true) same long) fine

module _ {A : Type 0} (first : Bool) (ts : List (A × Bool)) (e : formed.is_chain (first ∷ map (λ t. t.1) ts) ≡ true) where
  pairs_long : nat_le 2 (suc (length ts)) ≡ true
  pairs_long =
      subst (λ (n : ℕ). nat_le 2 (suc n) ≡ true) (length-map ts (λ (t : A × Bool). t.1))
      (left_of (nat_le 2 (suc (length (map (λ t. t.1) ts)))) (first && list_all (λ b. b) (map (λ t. t.1) ts)) e)

  pairs_fine : (first && list_all (λ t. t.1) ts) ≡ true
  pairs_fine =
      let fine = right_of (nat_le 2 (suc (length (map (λ t. t.1) ts)))) (first && list_all (λ b. b) (map (λ t. t.1) ts)) e in
      both first (list_all (λ t. t.1) ts) (left_of first (list_all (λ b. b) (map (λ t. t.1) ts)) fine)
      (sym (list_all-map (λ b. b) (λ (t : A × Bool). t.1) ts) ∙ right_of first (list_all (λ b. b) (map (λ t. t.1) ts)) fine)

sum_long : (ts : List (Bool × Bool)) → formed.is_sum ts ≡ true → nat_le 2 (length ts) ≡ true
sum_long [] e = absurd (cc)
sum_long ((minus, first) ∷ ts) e = pairs_long first ts (right_of (not minus) (formed.is_chain (first ∷ map (λ t. t.1) ts)) e)

pub sum_fine : (ts : List (Bool × Bool)) → formed.is_sum ts ≡ true → list_all (λ t. t.1) ts ≡ true
sum_fine [] e = refl
sum_fine ((minus, first) ∷ ts) e = pairs_fine first ts (right_of (not minus) (formed.is_chain (first ∷ map (λ t. t.1) ts)) e)

product_long : (fs : List (How × Bool)) → formed.is_product fs ≡ true → nat_le 2 (length fs) ≡ true
product_long [] e = absurd (cc)
product_long ((way, first) ∷ fs) e = pairs_long first fs (right_of (formed.is_times way) (formed.is_chain (first ∷ map (λ t. t.1) fs)) e)

pub product_fine : (fs : List (How × Bool)) → formed.is_product fs ≡ true → list_all (λ t. t.1) fs ≡ true
product_fine [] e = refl
product_fine ((way, first) ∷ fs) e = pairs_fine first fs (right_of (formed.is_times way) (formed.is_chain (first ∷ map (λ t. t.1) fs)) e)

module _ (stages : ℕ) (types : List EventType) (fields : List Field) (openers : List Opener) where
  abbrev numbered : List Mention → Bool
  numbered ms = list_all (is_numbered stages types fields openers) ms

  front : (ms ns : List Mention) → numbered (ms ++ ns) ≡ true → numbered ms ≡ true
  front ms ns e = left_of (numbered ms) (numbered ns) (sym (list_all-append (is_numbered stages types fields openers) ms ns) ∙ e)

  back : (ms ns : List Mention) → numbered (ms ++ ns) ≡ true → numbered ns ≡ true
  back ms ns e = right_of (numbered ms) (numbered ns) (sym (list_all-append (is_numbered stages types fields openers) ms ns) ∙ e)

  length-parts : {n : _} (row : Row_of-SynExpr n) → length (formed_parts row) ≡ length (map (is_sound stages types) (exprs_of_row fields openers row))
  length-parts end_of-SynExpr = refl
  length-parts (more_of-SynExpr place node row) = ap suc (length-parts row)

  length-terms : {n : _} (row : Row_of-SynTerm n)
      → length (formed_terms row) ≡ length (map (λ t. is_sound stages types t.expr) (terms_of_row fields openers row))
  length-terms end_of-SynTerm = refl
  length-terms (more_of-SynTerm minus place node row) = ap suc (length-terms row)

  length-factors : {n : _} (row : Row_of-SynFactor n)
      → length (formed_factors row) ≡ length (map (λ f. is_sound stages types f.expr) (factors_of_row fields openers row))
  length-factors end_of-SynFactor = refl
  length-factors (more_of-SynFactor how place node row) = ap suc (length-factors row)

  mutual
    pub sound_node : (node : SynNode) → is_formed_node node ≡ true → numbered (mentions_of_node node) ≡ true
        → is_sound stages types (expr_of_node fields openers node) ≡ true
    sound_node (Int n) e h = refl
    sound_node (Text t) e h = refl
    sound_node (Truth b) e h = refl
    sound_node (OneField name) e h = left_of (has_field types (field_number fields name.text)) true h
    sound_node (Count name) e h = left_of (nat_lt (stages_before openers name.text) stages) true h
    sound_node (Of what name field) e h = left_of (nat_lt (stages_before openers name.text) stages && has_field types (field_number fields field.text)) true h
    sound_node (Any' _ parts) e h =
        sound-Any stages types (exprs_of_row fields openers parts)
        ∙ chain (length (formed_parts parts)) (map (is_sound stages types) (exprs_of_row fields openers parts)) (length-parts parts)
        (left_of (nat_le 2 (length (formed_parts parts))) (list_all (λ b. b) (formed_parts parts)) e)
        (sound_row parts (right_of (nat_le 2 (length (formed_parts parts))) (list_all (λ b. b) (formed_parts parts)) e) h)
    sound_node (All' _ parts) e h =
        sound-All stages types (exprs_of_row fields openers parts)
        ∙ chain (length (formed_parts parts)) (map (is_sound stages types) (exprs_of_row fields openers parts)) (length-parts parts)
        (left_of (nat_le 2 (length (formed_parts parts))) (list_all (λ b. b) (formed_parts parts)) e)
        (sound_row parts (right_of (nat_le 2 (length (formed_parts parts))) (list_all (λ b. b) (formed_parts parts)) e) h)
    sound_node (Compare' c _ x _ y) e h =
        sound-Compare stages types (cmp_of c) (only (exprs_of_row fields openers x)) (only (exprs_of_row fields openers y))
        ∙ both (is_sound stages types (only (exprs_of_row fields openers x))) (is_sound stages types (only (exprs_of_row fields openers y)))
        (sound_only x (left_of (formed.only (formed_parts x)) (formed.only (formed_parts y)) e) (front (mentions_of_parts x) (mentions_of_parts y) h))
        (sound_only y (right_of (formed.only (formed_parts x)) (formed.only (formed_parts y)) e) (back (mentions_of_parts x) (mentions_of_parts y) h))
    sound_node (Add' _ terms) e h =
        sound-Add stages types (terms_of_row fields openers terms)
        ∙ chain (length (formed_terms terms)) (map (λ t. is_sound stages types t.expr) (terms_of_row fields openers terms)) (length-terms terms)
        (sum_long (formed_terms terms) e) (sound_sum terms (sum_fine (formed_terms terms) e) h)
    sound_node (Mul' _ factors) e h =
        sound-Mul stages types (factors_of_row fields openers factors)
        ∙ chain (length (formed_factors factors)) (map (λ f. is_sound stages types f.expr) (factors_of_row fields openers factors)) (length-factors factors)
        (product_long (formed_factors factors) e) (sound_product factors (product_fine (formed_factors factors) e) h)
    sound_node (Not' _ x) e h = sound-Not stages types (only (exprs_of_row fields openers x)) ∙ sound_only x e h
    sound_node (Neg' _ x) e h = sound-Neg stages types (only (exprs_of_row fields openers x)) ∙ sound_only x e h

    sound_row : {n : _} (row : Row_of-SynExpr n) → list_all (λ b. b) (formed_parts row) ≡ true → numbered (mentions_of_parts row) ≡ true
        → list_all (λ b. b) (map (is_sound stages types) (exprs_of_row fields openers row)) ≡ true
    sound_row end_of-SynExpr e h = refl
    sound_row (more_of-SynExpr place node row) e h =
        both (is_sound stages types (expr_of_node fields openers node)) (list_all (λ b. b) (map (is_sound stages types) (exprs_of_row fields openers row)))
        (sound_node node (left_of (is_formed_node node) (list_all (λ b. b) (formed_parts row)) e) (front (mentions_of_node node) (mentions_of_parts row) h))
        (sound_row row (right_of (is_formed_node node) (list_all (λ b. b) (formed_parts row)) e) (back (mentions_of_node node) (mentions_of_parts row) h))

    sound_only : {n : _} (row : Row_of-SynExpr n) → formed.only (formed_parts row) ≡ true → numbered (mentions_of_parts row) ≡ true
        → is_sound stages types (only (exprs_of_row fields openers row)) ≡ true
    sound_only end_of-SynExpr e h = refl
    sound_only (more_of-SynExpr place node row) e h = sound_node node e (front (mentions_of_node node) (mentions_of_parts row) h)

    sound_sum : {n : _} (row : Row_of-SynTerm n) → list_all (λ t. t.1) (formed_terms row) ≡ true → numbered (mentions_of_terms row) ≡ true
        → list_all (λ b. b) (map (λ t. is_sound stages types t.expr) (terms_of_row fields openers row)) ≡ true
    sound_sum end_of-SynTerm e h = refl
    sound_sum (more_of-SynTerm minus place node row) e h =
        both (is_sound stages types (expr_of_node fields openers node))
        (list_all (λ b. b) (map (λ t. is_sound stages types t.expr) (terms_of_row fields openers row)))
        (sound_node node (left_of (is_formed_node node) (list_all (λ t. t.1) (formed_terms row)) e) (front (mentions_of_node node) (mentions_of_terms row) h))
        (sound_sum row (right_of (is_formed_node node) (list_all (λ t. t.1) (formed_terms row)) e) (back (mentions_of_node node) (mentions_of_terms row) h))

    sound_product : {n : _} (row : Row_of-SynFactor n) → list_all (λ t. t.1) (formed_factors row) ≡ true → numbered (mentions_of_factors row) ≡ true
        → list_all (λ b. b) (map (λ f. is_sound stages types f.expr) (factors_of_row fields openers row)) ≡ true
    sound_product end_of-SynFactor e h = refl
    sound_product (more_of-SynFactor how place node row) e h =
        both (is_sound stages types (expr_of_node fields openers node))
        (list_all (λ b. b) (map (λ f. is_sound stages types f.expr) (factors_of_row fields openers row)))
        (sound_node node (left_of (is_formed_node node) (list_all (λ t. t.1) (formed_factors row)) e)
        (front (mentions_of_node node) (mentions_of_factors row) h))
        (sound_product row (right_of (is_formed_node node) (list_all (λ t. t.1) (formed_factors row)) e)
        (back (mentions_of_node node) (mentions_of_factors row) h))
