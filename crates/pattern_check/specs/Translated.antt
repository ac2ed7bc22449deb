-- The expression of a plan that an expression of a file stands for: the same, with numbers in place of names. This is this project's own.
-- The parts of an expression stand in rows: `end_of-SynExpr` is the empty row, `more_of-SynExpr place node parts` has an expression before the
-- others, and the sign `_` before a row is its shape, which says nothing of the parts.
use Rattle.std.specs.Prelude.{false, List, [], ◌∷◌}
use Rattle.cep_event.specs.declared.event.Field.{Field}
use Rattle.cep_plan.specs.declared.condition.Agg.{Agg}
use Rattle.cep_plan.specs.declared.condition.Agg.TheVariants as agg
use Rattle.cep_plan.specs.declared.condition.Cmp.{Cmp}
use Rattle.cep_plan.specs.declared.condition.Cmp.TheVariants as cmp
use Rattle.cep_plan.specs.declared.condition.How.{How}
use Rattle.cep_plan.specs.declared.condition.How.TheVariants as how
use Rattle.cep_plan.specs.declared.condition.Join.{Join}
use Rattle.cep_plan.specs.declared.condition.Join.TheVariants as join
use Rattle.cep_plan.specs.declared.condition.Term.{Term}
use Rattle.cep_plan.specs.declared.condition.Factor.{Factor}
use Rattle.cep_plan.specs.declared.condition.Expr.{Expr}
use Rattle.cep_plan.specs.declared.condition.Expr as plan
use Rattle.cep_expression.specs.declared.expr.Agg.{Agg as SynAgg}
use Rattle.cep_expression.specs.declared.expr.Agg.TheVariants as syn_agg
use Rattle.cep_expression.specs.declared.expr.Cmp.{Cmp as SynCmp}
use Rattle.cep_expression.specs.declared.expr.Cmp.TheVariants as syn_cmp
use Rattle.cep_expression.specs.declared.expr.How.{How as SynHow}
use Rattle.cep_expression.specs.declared.expr.How.TheVariants as syn_how
use Rattle.cep_expression.specs.declared.expr.SynExpr.{SynExpr}
use Rattle.cep_expression.specs.declared.expr.SynTerm.{SynTerm}
use Rattle.cep_expression.specs.declared.expr.SynFactor.{SynFactor}
use Rattle.cep_expression.specs.declared.expr.SynNode.{SynNode, Int, Text, Bool as Truth, Field as OneField, Count, Of, Any', All', Compare', Add', Mul', Not', Neg', Row_of-SynExpr, end_of-SynExpr, more_of-SynExpr, Row_of-SynTerm, end_of-SynTerm, more_of-SynTerm, Row_of-SynFactor, end_of-SynFactor, more_of-SynFactor}
use Rattle.cep_syntax.specs.declared.file.Join.{Join as SynJoin}
use Rattle.cep_syntax.specs.declared.file.Join.TheVariants as syn_join
use Rattle.cep_syntax.specs.declared.file.Opener.{Opener}
use Rattle.pattern_check.specs.Numbers.{whole, stages_before, field_number}

abbrev pub agg_of : SynAgg → Agg
agg_of syn_agg.Sum = agg.Sum
agg_of syn_agg.Min = agg.Min
agg_of syn_agg.Max = agg.Max
agg_of syn_agg.First = agg.First
agg_of syn_agg.Last = agg.Last

abbrev pub cmp_of : SynCmp → Cmp
cmp_of syn_cmp.Eq = cmp.Eq
cmp_of syn_cmp.Ne = cmp.Ne
cmp_of syn_cmp.Lt = cmp.Lt
cmp_of syn_cmp.Le = cmp.Le
cmp_of syn_cmp.Gt = cmp.Gt
cmp_of syn_cmp.Ge = cmp.Ge

abbrev pub how_of : SynHow → How
how_of syn_how.Times = how.Times
how_of syn_how.Over = how.Over
how_of syn_how.Rest = how.Rest

abbrev pub join_of : SynJoin → Join
join_of syn_join.Both = join.Both
join_of syn_join.Either = join.Either

-- the one expression of a row
abbrev pub only : List Expr → Expr
only [] = plan.Bool false
only (e ∷ _) = e

abbrev mutual
  pub expr_of_node : List Field → List Opener → SynNode → Expr
  expr_of_node fields openers (Int n) = plan.Int (whole n)
  expr_of_node fields openers (Text t) = plan.Text t
  expr_of_node fields openers (Truth b) = plan.Bool b
  expr_of_node fields openers (OneField name) = plan.Field (field_number fields name.text)
  expr_of_node fields openers (Count name) = plan.Count (stages_before openers name.text)
  expr_of_node fields openers (Of what name field) = plan.Of (agg_of what) (stages_before openers name.text) (field_number fields field.text)
  expr_of_node fields openers (Any' _ parts) = plan.Any (exprs_of_row fields openers parts)
  expr_of_node fields openers (All' _ parts) = plan.All (exprs_of_row fields openers parts)
  expr_of_node fields openers (Compare' c _ x _ y) = plan.Compare (cmp_of c) (only (exprs_of_row fields openers x)) (only (exprs_of_row fields openers y))
  expr_of_node fields openers (Add' _ terms) = plan.Add (terms_of_row fields openers terms)
  expr_of_node fields openers (Mul' _ factors) = plan.Mul (factors_of_row fields openers factors)
  expr_of_node fields openers (Not' _ x) = plan.Not (only (exprs_of_row fields openers x))
  expr_of_node fields openers (Neg' _ x) = plan.Neg (only (exprs_of_row fields openers x))

  pub exprs_of_row : {n : _} → List Field → List Opener → Row_of-SynExpr n → List Expr
  exprs_of_row fields openers end_of-SynExpr = []
  exprs_of_row fields openers (more_of-SynExpr place node parts) = expr_of_node fields openers node ∷ exprs_of_row fields openers parts

  pub terms_of_row : {n : _} → List Field → List Opener → Row_of-SynTerm n → List Term
  terms_of_row fields openers end_of-SynTerm = []
  terms_of_row fields openers (more_of-SynTerm minus place node terms) =
      record { minus = minus; expr = expr_of_node fields openers node } ∷ terms_of_row fields openers terms

  pub factors_of_row : {n : _} → List Field → List Opener → Row_of-SynFactor n → List Factor
  factors_of_row fields openers end_of-SynFactor = []
  factors_of_row fields openers (more_of-SynFactor way place node factors) =
      record { how = how_of way; expr = expr_of_node fields openers node } ∷ factors_of_row fields openers factors

unfoldable pub expr_of : List Field → List Opener → SynExpr → Expr
expr_of fields openers e = expr_of_node fields openers e.node

abbrev pub term_of : List Field → List Opener → SynTerm → Term
term_of fields openers t = record { minus = t.minus; expr = expr_of fields openers t.expr }

abbrev pub factor_of : List Field → List Opener → SynFactor → Factor
factor_of fields openers f = record { how = how_of f.how; expr = expr_of fields openers f.expr }
