-- The first clash of kinds inside an expression, from those of its parts, as the code takes an expression apart. Each law is over equations.
use Rattle.std.proofs.Common.{◌≡◌, ℕ, true, List, refl, sym, ap, ◌∙◌}
use Rattle.std.specs.Prelude.{Option, None}
use Rattle.cep_event.specs.declared.event.Field.{Field}
use Rattle.cep_expression.specs.declared.expr.Cmp.{Cmp}
use Rattle.cep_expression.specs.declared.expr.SynExpr.{SynExpr}
use Rattle.cep_expression.specs.declared.expr.SynTerm.{SynTerm}
use Rattle.cep_expression.specs.declared.expr.SynFactor.{SynFactor}
use Rattle.cep_expression.specs.declared.expr.SynNode.{SynNode, Any, All, Compare, Add, Mul, Not, Neg, Row_of-SynExpr, end_of-SynExpr, more_of-SynExpr, Row_of-SynTerm, end_of-SynTerm, more_of-SynTerm, Row_of-SynFactor, end_of-SynFactor, more_of-SynFactor, items-the_row-SynExpr, items-the_row-SynTerm, items-the_row-SynFactor, items_hidden-the_row-SynExpr-0, items_hidden-the_row-SynTerm-2, items_hidden-the_row-SynFactor-3}
use Rattle.cep_expression.specs.declared.expr.SynNode.TheBlock.{hidden-the_row-SynExpr-0, hidden-the_row-SynExpr-1, hidden-the_row-SynTerm-2, hidden-the_row-SynFactor-3}
use Rattle.pattern_rules.specs.declared.kind.Sort.TheVariants as sort
use Rattle.pattern_rules.specs.declared.kind.Wanted.{Wanted}
use Rattle.pattern_rules.specs.declared.kind.Wanted.TheVariants as want
use Rattle.pattern_rules.specs.First.{or_else, first_some}
use Rattle.pattern_rules.specs.Kinds.{fits, sort_of, unless, clash_in, clash_in_parts, clash_in_terms, clash_in_factors, clash_unless}
use Rattle.pattern_rules.proofs.MentionLaws.{or_else_none}

module _ (fields : List Field) where
  abbrev judged : Wanted → ℕ → SynNode → Option ℕ
  judged asked place node = unless (fits asked (sort_of fields node)) place (clash_in fields place node)

  is-judged : (asked : Wanted) (e : SynExpr) → clash_unless fields asked e ≡ judged asked e.place e.node
  unfolding clash_unless
  is-judged asked e = refl

  parts-items : (asked : Wanted) {n : _} (row : Row_of-SynExpr n)
      → clash_in_parts fields asked row ≡ first_some (clash_unless fields asked) (items-the_row-SynExpr n row)
  unfolding clash_unless
  parts-items asked end_of-SynExpr = refl
  parts-items asked (more_of-SynExpr place node row) = ap (or_else (judged asked place node)) (parts-items asked row)

  terms-items : {n : _} (row : Row_of-SynTerm n)
      → clash_in_terms fields row ≡ first_some (λ t. clash_unless fields (want.Only sort.Int) t.expr) (items-the_row-SynTerm n row)
  unfolding clash_unless
  terms-items end_of-SynTerm = refl
  terms-items (more_of-SynTerm minus place node row) = ap (or_else (judged (want.Only sort.Int) place node)) (terms-items row)

  factors-items : {n : _} (row : Row_of-SynFactor n)
      → clash_in_factors fields row ≡ first_some (λ f. clash_unless fields (want.Only sort.Int) f.expr) (items-the_row-SynFactor n row)
  unfolding clash_unless
  factors-items end_of-SynFactor = refl
  factors-items (more_of-SynFactor how place node row) = ap (or_else (judged (want.Only sort.Int) place node)) (factors-items row)

  -- where the expression fits, what counts is what is inside
  inside : (asked : Wanted) (e : SynExpr) (node : SynNode) → fits asked (sort_of fields e.node) ≡ true → e.node ≡ node
      → clash_in fields e.place node ≡ clash_unless fields asked e
  inside asked e node fit is =
      ap (clash_in fields e.place) (sym is)
      ∙ sym (ap (λ b. unless b e.place (clash_in fields e.place e.node)) fit)
      ∙ sym (is-judged asked e)

  pub clash-Any : (asked : Wanted) (e : SynExpr) (parts slice : List SynExpr) → fits asked (sort_of fields e.node) ≡ true → e.node ≡ Any parts → slice ≡ parts
      → first_some (clash_unless fields (want.Only sort.Bool)) slice ≡ clash_unless fields asked e
  clash-Any asked e parts slice fit is same =
      ap (first_some (clash_unless fields (want.Only sort.Bool))) (same ∙ sym (items_hidden-the_row-SynExpr-0 parts))
      ∙ sym (parts-items (want.Only sort.Bool) (hidden-the_row-SynExpr-0 parts)) ∙ inside asked e (Any parts) fit is

  pub clash-All : (asked : Wanted) (e : SynExpr) (parts slice : List SynExpr) → fits asked (sort_of fields e.node) ≡ true → e.node ≡ All parts → slice ≡ parts
      → first_some (clash_unless fields (want.Only sort.Bool)) slice ≡ clash_unless fields asked e
  clash-All asked e parts slice fit is same =
      ap (first_some (clash_unless fields (want.Only sort.Bool))) (same ∙ sym (items_hidden-the_row-SynExpr-0 parts))
      ∙ sym (parts-items (want.Only sort.Bool) (hidden-the_row-SynExpr-0 parts)) ∙ inside asked e (All parts) fit is

  pub clash-Add : (asked : Wanted) (e : SynExpr) (terms slice : List SynTerm) → fits asked (sort_of fields e.node) ≡ true → e.node ≡ Add terms → slice ≡ terms
      → first_some (λ t. clash_unless fields (want.Only sort.Int) t.expr) slice ≡ clash_unless fields asked e
  clash-Add asked e terms slice fit is same =
      ap (first_some (λ t. clash_unless fields (want.Only sort.Int) t.expr)) (same ∙ sym (items_hidden-the_row-SynTerm-2 terms))
      ∙ sym (terms-items (hidden-the_row-SynTerm-2 terms)) ∙ inside asked e (Add terms) fit is

  pub clash-Mul : (asked : Wanted) (e : SynExpr) (factors slice : List SynFactor) → fits asked (sort_of fields e.node) ≡ true → e.node ≡ Mul factors
      → slice ≡ factors
      → first_some (λ f. clash_unless fields (want.Only sort.Int) f.expr) slice ≡ clash_unless fields asked e
  clash-Mul asked e factors slice fit is same =
      ap (first_some (λ f. clash_unless fields (want.Only sort.Int) f.expr)) (same ∙ sym (items_hidden-the_row-SynFactor-3 factors))
      ∙ sym (factors-items (hidden-the_row-SynFactor-3 factors)) ∙ inside asked e (Mul factors) fit is

  of-Compare : (place : ℕ) (c : Cmp) (x y : SynExpr) → clash_in fields place (Compare c x y)
      ≡ or_else (or_else (judged want.Value x.place x.node) None) (or_else (judged (want.Only (sort_of fields x.node)) y.place y.node) None)
  unfolding hidden-the_row-SynExpr-1 denote.Hole.Carrier.hidden
  of-Compare place c x y = refl

  of-Not : (place : ℕ) (x : SynExpr) → clash_in fields place (Not x) ≡ or_else (judged (want.Only sort.Bool) x.place x.node) None
  unfolding hidden-the_row-SynExpr-1 denote.Hole.Carrier.hidden
  of-Not place x = refl

  of-Neg : (place : ℕ) (x : SynExpr) → clash_in fields place (Neg x) ≡ or_else (judged (want.Only sort.Int) x.place x.node) None
  unfolding hidden-the_row-SynExpr-1 denote.Hole.Carrier.hidden
  of-Neg place x = refl

  alone : (asked : Wanted) (x z : SynExpr) → z ≡ x → clash_unless fields asked z ≡ or_else (judged asked x.place x.node) None
  alone asked x z same = ap (clash_unless fields asked) same ∙ is-judged asked x ∙ sym (or_else_none (judged asked x.place x.node))

  pub clash-Compare : (asked : Wanted) (e : SynExpr) (c : Cmp) (x y z w : SynExpr) → fits asked (sort_of fields e.node) ≡ true
      → e.node ≡ Compare c x y → z ≡ x → w ≡ y
      → or_else (clash_unless fields want.Value z) (clash_unless fields (want.Only (sort_of fields z.node)) w) ≡ clash_unless fields asked e
  clash-Compare asked e c x y z w fit is left right =
      (λ i. or_else (clash_unless fields want.Value (left i)) (clash_unless fields (want.Only (sort_of fields (left i).node)) w))
      ∙ (λ i. or_else (alone want.Value x x refl i) (alone (want.Only (sort_of fields x.node)) y w right i))
      ∙ sym (of-Compare e.place c x y) ∙ inside asked e (Compare c x y) fit is

  pub clash-Not : (asked : Wanted) (e x z : SynExpr) → fits asked (sort_of fields e.node) ≡ true → e.node ≡ Not x → z ≡ x
      → clash_unless fields (want.Only sort.Bool) z ≡ clash_unless fields asked e
  clash-Not asked e x z fit is same = alone (want.Only sort.Bool) x z same ∙ sym (of-Not e.place x) ∙ inside asked e (Not x) fit is

  pub clash-Neg : (asked : Wanted) (e x z : SynExpr) → fits asked (sort_of fields e.node) ≡ true → e.node ≡ Neg x → z ≡ x
      → clash_unless fields (want.Only sort.Int) z ≡ clash_unless fields asked e
  clash-Neg asked e x z fit is same = alone (want.Only sort.Int) x z same ∙ sym (of-Neg e.place x) ∙ inside asked e (Neg x) fit is
