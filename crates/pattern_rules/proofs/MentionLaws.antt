-- The first answer over what an expression mentions, from those of its parts, as the code takes an expression apart. Each law is over equations.
use Rattle.std.proofs.Common.{◌≡◌, ℕ, List, [], ◌∷◌, ◌++◌, refl, sym, ap, ◌∙◌}
use Rattle.std.specs.Prelude.{Option, Some, None}
use Rattle.cep_expression.specs.declared.expr.Cmp.{Cmp}
use Rattle.cep_expression.specs.declared.expr.SynExpr.{SynExpr}
use Rattle.cep_expression.specs.declared.expr.SynTerm.{SynTerm}
use Rattle.cep_expression.specs.declared.expr.SynFactor.{SynFactor}
use Rattle.cep_expression.specs.declared.expr.SynNode.{SynNode, Any, All, Compare, Add, Mul, Not, Neg, Row_of-SynExpr, end_of-SynExpr, more_of-SynExpr, Row_of-SynTerm, end_of-SynTerm, more_of-SynTerm, Row_of-SynFactor, end_of-SynFactor, more_of-SynFactor, items-the_row-SynExpr, items-the_row-SynTerm, items-the_row-SynFactor, items_hidden-the_row-SynExpr-0, items_hidden-the_row-SynTerm-2, items_hidden-the_row-SynFactor-3}
use Rattle.cep_expression.specs.declared.expr.SynNode.TheBlock.{hidden-the_row-SynExpr-0, hidden-the_row-SynExpr-1, hidden-the_row-SynTerm-2, hidden-the_row-SynFactor-3}
use Rattle.pattern_rules.specs.First.{or_else, first_some}
use Rattle.pattern_rules.specs.Mention.{Mention, mentions_of_node, mentions_of_parts, mentions_of_terms, mentions_of_factors}

pub or_else_assoc : {B : Type 0} (a b c : Option B) → or_else (or_else a b) c ≡ or_else a (or_else b c)
or_else_assoc None b c = refl
or_else_assoc (Some x) b c = refl

pub or_else_none : {B : Type 0} (a : Option B) → or_else a None ≡ a
or_else_none None = refl
or_else_none (Some x) = refl

module _ (judge : Mention → Option ℕ) where
  abbrev pub found : SynNode → Option ℕ
  found node = first_some judge (mentions_of_node node)

  two_lists : (xs ys : List Mention) → first_some judge (xs ++ ys) ≡ or_else (first_some judge xs) (first_some judge ys)
  two_lists [] ys = refl
  two_lists (x ∷ xs) ys = ap (or_else (judge x)) (two_lists xs ys) ∙ sym (or_else_assoc (judge x) (first_some judge xs) (first_some judge ys))

  parts-items : {n : _} (row : Row_of-SynExpr n) → first_some judge (mentions_of_parts row) ≡ first_some (λ e. found e.node) (items-the_row-SynExpr n row)
  parts-items end_of-SynExpr = refl
  parts-items (more_of-SynExpr place node row) = two_lists (mentions_of_node node) (mentions_of_parts row) ∙ ap (or_else (found node)) (parts-items row)

  terms-items : {n : _} (row : Row_of-SynTerm n) → first_some judge (mentions_of_terms row) ≡ first_some (λ t. found t.expr.node) (items-the_row-SynTerm n row)
  terms-items end_of-SynTerm = refl
  terms-items (more_of-SynTerm minus place node row) = two_lists (mentions_of_node node) (mentions_of_terms row) ∙ ap (or_else (found node)) (terms-items row)

  factors-items : {n : _} (row : Row_of-SynFactor n)
      → first_some judge (mentions_of_factors row) ≡ first_some (λ f. found f.expr.node) (items-the_row-SynFactor n row)
  factors-items end_of-SynFactor = refl
  factors-items (more_of-SynFactor how place node row) = two_lists (mentions_of_node node) (mentions_of_factors row)
      ∙ ap (or_else (found node)) (factors-items row)

  parts-hidden : (parts : List SynExpr) → first_some judge (mentions_of_parts (hidden-the_row-SynExpr-0 parts)) ≡ first_some (λ e. found e.node) parts
  parts-hidden parts = parts-items (hidden-the_row-SynExpr-0 parts) ∙ ap (first_some (λ e. found e.node)) (items_hidden-the_row-SynExpr-0 parts)

  pub mentions-Any : (e : SynExpr) (parts slice : List SynExpr) → e.node ≡ Any parts → slice ≡ parts → first_some (λ x. found x.node) slice ≡ found e.node
  mentions-Any e parts slice is same = ap (first_some (λ x. found x.node)) same ∙ sym (parts-hidden parts) ∙ sym (ap found is)

  pub mentions-All : (e : SynExpr) (parts slice : List SynExpr) → e.node ≡ All parts → slice ≡ parts → first_some (λ x. found x.node) slice ≡ found e.node
  mentions-All e parts slice is same = ap (first_some (λ x. found x.node)) same ∙ sym (parts-hidden parts) ∙ sym (ap found is)

  pub mentions-Add : (e : SynExpr) (terms slice : List SynTerm) → e.node ≡ Add terms → slice ≡ terms → first_some (λ t. found t.expr.node) slice ≡ found e.node
  mentions-Add e terms slice is same =
      ap (first_some (λ t. found t.expr.node)) (same ∙ sym (items_hidden-the_row-SynTerm-2 terms))
      ∙ sym (terms-items (hidden-the_row-SynTerm-2 terms)) ∙ sym (ap found is)

  pub mentions-Mul : (e : SynExpr) (factors slice : List SynFactor) → e.node ≡ Mul factors → slice ≡ factors
      → first_some (λ f. found f.expr.node) slice ≡ found e.node
  mentions-Mul e factors slice is same =
      ap (first_some (λ f. found f.expr.node)) (same ∙ sym (items_hidden-the_row-SynFactor-3 factors))
      ∙ sym (factors-items (hidden-the_row-SynFactor-3 factors)) ∙ sym (ap found is)

  of-Compare : (c : Cmp) (x y : SynExpr) → found (Compare c x y) ≡ first_some judge ((mentions_of_node x.node ++ []) ++ (mentions_of_node y.node ++ []))
  unfolding hidden-the_row-SynExpr-1 denote.Hole.Carrier.hidden
  of-Compare c x y = refl

  of-Not : (x : SynExpr) → found (Not x) ≡ first_some judge (mentions_of_node x.node ++ [])
  unfolding hidden-the_row-SynExpr-1 denote.Hole.Carrier.hidden
  of-Not x = refl

  of-Neg : (x : SynExpr) → found (Neg x) ≡ first_some judge (mentions_of_node x.node ++ [])
  unfolding hidden-the_row-SynExpr-1 denote.Hole.Carrier.hidden
  of-Neg x = refl

  one : (xs : List Mention) → first_some judge (xs ++ []) ≡ first_some judge xs
  one xs = two_lists xs [] ∙ or_else_none (first_some judge xs)

  pub mentions-Compare : (e : SynExpr) (c : Cmp) (x y z w : SynExpr) → e.node ≡ Compare c x y → z ≡ x → w ≡ y
      → or_else (found z.node) (found w.node) ≡ found e.node
  mentions-Compare e c x y z w is left right =
      (λ i. or_else (found (left i).node) (found (right i).node))
      ∙ (λ i. or_else (sym (one (mentions_of_node x.node)) i) (sym (one (mentions_of_node y.node)) i))
      ∙ sym (two_lists (mentions_of_node x.node ++ []) (mentions_of_node y.node ++ []))
      ∙ sym (ap found is ∙ of-Compare c x y)

  pub mentions-Not : (e x z : SynExpr) → e.node ≡ Not x → z ≡ x → found z.node ≡ found e.node
  mentions-Not e x z is same = ap (λ y. found y.node) same ∙ sym (one (mentions_of_node x.node)) ∙ sym (ap found is ∙ of-Not x)

  pub mentions-Neg : (e x z : SynExpr) → e.node ≡ Neg x → z ≡ x → found z.node ≡ found e.node
  mentions-Neg e x z is same = ap (λ y. found y.node) same ∙ sym (one (mentions_of_node x.node)) ∙ sym (ap found is ∙ of-Neg x)
