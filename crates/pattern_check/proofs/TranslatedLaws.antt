-- The expression of a plan, from those of its parts, as the code takes an expression apart. Each law is over equations.
use Rattle.std.proofs.Common.{◌≡◌, List, ◌∷◌, map, refl, sym, ap, ◌∙◌}
use Rattle.cep_event.specs.declared.event.Field.{Field}
use Rattle.cep_expression.specs.declared.expr.Cmp.{Cmp}
use Rattle.cep_expression.specs.declared.expr.SynExpr.{SynExpr}
use Rattle.cep_expression.specs.declared.expr.SynTerm.{SynTerm}
use Rattle.cep_expression.specs.declared.expr.SynFactor.{SynFactor}
use Rattle.cep_expression.specs.declared.expr.SynNode.{SynNode, Any, All, Compare, Add, Mul, Not, Neg, Row_of-SynExpr, end_of-SynExpr, more_of-SynExpr, Row_of-SynTerm, end_of-SynTerm, more_of-SynTerm, Row_of-SynFactor, end_of-SynFactor, more_of-SynFactor, items-the_row-SynExpr, items-the_row-SynTerm, items-the_row-SynFactor, items_hidden-the_row-SynExpr-0, items_hidden-the_row-SynTerm-2, items_hidden-the_row-SynFactor-3}
use Rattle.cep_expression.specs.declared.expr.SynNode.TheBlock.{hidden-the_row-SynExpr-0, hidden-the_row-SynExpr-1, hidden-the_row-SynTerm-2, hidden-the_row-SynFactor-3}
use Rattle.cep_syntax.specs.declared.file.Opener.{Opener}
use Rattle.cep_plan.specs.declared.condition.Expr.{Expr}
use Rattle.cep_plan.specs.declared.condition.Expr as plan
use Rattle.pattern_check.specs.Translated.{cmp_of, expr_of_node, exprs_of_row, terms_of_row, factors_of_row, expr_of, term_of, factor_of}

module _ (fields : List Field) (openers : List Opener) where
  parts-items : {n : _} (row : Row_of-SynExpr n) → exprs_of_row fields openers row ≡ map (expr_of fields openers) (items-the_row-SynExpr n row)
  unfolding expr_of
  parts-items end_of-SynExpr = refl
  parts-items (more_of-SynExpr place node row) = ap (λ later. expr_of_node fields openers node ∷ later) (parts-items row)

  terms-items : {n : _} (row : Row_of-SynTerm n) → terms_of_row fields openers row ≡ map (term_of fields openers) (items-the_row-SynTerm n row)
  unfolding expr_of
  terms-items end_of-SynTerm = refl
  terms-items (more_of-SynTerm minus place node row) = ap (λ later. record { minus = minus; expr = expr_of_node fields openers node } ∷ later) (terms-items row)

  factors-items : {n : _} (row : Row_of-SynFactor n) → factors_of_row fields openers row ≡ map (factor_of fields openers) (items-the_row-SynFactor n row)
  unfolding expr_of
  factors-items end_of-SynFactor = refl
  factors-items (more_of-SynFactor how place node row) =
      ap (λ later. factor_of fields openers (record { how = how; expr = record { place = place; node = node } }) ∷ later) (factors-items row)

  is-made : (e : SynExpr) → expr_of fields openers e ≡ expr_of_node fields openers e.node
  unfolding expr_of
  is-made e = refl

  parts-hidden : (parts : List SynExpr) → exprs_of_row fields openers (hidden-the_row-SynExpr-0 parts) ≡ map (expr_of fields openers) parts
  parts-hidden parts = parts-items (hidden-the_row-SynExpr-0 parts) ∙ ap (map (expr_of fields openers)) (items_hidden-the_row-SynExpr-0 parts)

  from_node : (e : SynExpr) (node : SynNode) → e.node ≡ node → expr_of_node fields openers node ≡ expr_of fields openers e
  from_node e node is = ap (expr_of_node fields openers) (sym is) ∙ sym (is-made e)

  pub made-Any : (e : SynExpr) (parts slice : List SynExpr) → e.node ≡ Any parts → slice ≡ parts
      → plan.Any (map (expr_of fields openers) slice) ≡ expr_of fields openers e
  made-Any e parts slice is same = ap plan.Any (ap (map (expr_of fields openers)) same ∙ sym (parts-hidden parts)) ∙ from_node e (Any parts) is

  pub made-All : (e : SynExpr) (parts slice : List SynExpr) → e.node ≡ All parts → slice ≡ parts
      → plan.All (map (expr_of fields openers) slice) ≡ expr_of fields openers e
  made-All e parts slice is same = ap plan.All (ap (map (expr_of fields openers)) same ∙ sym (parts-hidden parts)) ∙ from_node e (All parts) is

  pub made-Add : (e : SynExpr) (terms slice : List SynTerm) → e.node ≡ Add terms → slice ≡ terms
      → plan.Add (map (term_of fields openers) slice) ≡ expr_of fields openers e
  made-Add e terms slice is same =
      ap plan.Add (ap (map (term_of fields openers)) (same ∙ sym (items_hidden-the_row-SynTerm-2 terms))
      ∙ sym (terms-items (hidden-the_row-SynTerm-2 terms))) ∙ from_node e (Add terms) is

  pub made-Mul : (e : SynExpr) (factors slice : List SynFactor) → e.node ≡ Mul factors → slice ≡ factors
      → plan.Mul (map (factor_of fields openers) slice) ≡ expr_of fields openers e
  made-Mul e factors slice is same =
      ap plan.Mul (ap (map (factor_of fields openers)) (same ∙ sym (items_hidden-the_row-SynFactor-3 factors))
      ∙ sym (factors-items (hidden-the_row-SynFactor-3 factors))) ∙ from_node e (Mul factors) is

  of-Compare : (c : Cmp) (x y : SynExpr)
      → expr_of_node fields openers (Compare c x y)
      ≡ plan.Compare (cmp_of c) (expr_of_node fields openers x.node) (expr_of_node fields openers y.node)
  unfolding hidden-the_row-SynExpr-1 denote.Hole.Carrier.hidden
  of-Compare c x y = refl

  of-Not : (x : SynExpr) → expr_of_node fields openers (Not x) ≡ plan.Not (expr_of_node fields openers x.node)
  unfolding hidden-the_row-SynExpr-1 denote.Hole.Carrier.hidden
  of-Not x = refl

  of-Neg : (x : SynExpr) → expr_of_node fields openers (Neg x) ≡ plan.Neg (expr_of_node fields openers x.node)
  unfolding hidden-the_row-SynExpr-1 denote.Hole.Carrier.hidden
  of-Neg x = refl

  pub made-Compare : (e : SynExpr) (c : Cmp) (x y z w : SynExpr) → e.node ≡ Compare c x y → z ≡ x → w ≡ y
      → plan.Compare (cmp_of c) (expr_of fields openers z) (expr_of fields openers w) ≡ expr_of fields openers e
  made-Compare e c x y z w is left right =
      (λ i. plan.Compare (cmp_of c) (expr_of fields openers (left i)) (expr_of fields openers (right i)))
      ∙ (λ i. plan.Compare (cmp_of c) (is-made x i) (is-made y i)) ∙ sym (of-Compare c x y) ∙ from_node e (Compare c x y) is

  pub made-Not : (e x z : SynExpr) → e.node ≡ Not x → z ≡ x → plan.Not (expr_of fields openers z) ≡ expr_of fields openers e
  made-Not e x z is same = ap plan.Not (ap (expr_of fields openers) same ∙ is-made x) ∙ sym (of-Not x) ∙ from_node e (Not x) is

  pub made-Neg : (e x z : SynExpr) → e.node ≡ Neg x → z ≡ x → plan.Neg (expr_of fields openers z) ≡ expr_of fields openers e
  made-Neg e x z is same = ap plan.Neg (ap (expr_of fields openers) same ∙ is-made x) ∙ sym (of-Neg x) ∙ from_node e (Neg x) is
