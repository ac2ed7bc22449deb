-- What is the same in two texts of one file: all but the places. Two values are the same where they are equal without their places. This is this project's own.
use Rattle.std.specs.Prelude.{false, List, [], ◌∷◌}
use Rattle.cep_reading.specs.declared.name.Name.{Name}
use Rattle.cep_expression.specs.declared.expr.SynExpr.{SynExpr}
use Rattle.cep_expression.specs.declared.expr.SynTerm.{SynTerm}
use Rattle.cep_expression.specs.declared.expr.SynFactor.{SynFactor}
use Rattle.cep_expression.specs.declared.expr.SynNode.{SynNode, Int, Text as Literal, Bool as Truth, Field, Count, Of, Any, All, Compare, Add, Mul, Not, Neg, Any', All', Compare', Add', Mul', Not', Neg', Row_of-SynExpr, end_of-SynExpr, more_of-SynExpr, Row_of-SynTerm, end_of-SynTerm, more_of-SynTerm, Row_of-SynFactor, end_of-SynFactor, more_of-SynFactor}
use Rattle.cep_expression.specs.Grammar.{expression, term, factor}

abbrev pub unplaced_name : Name → Name
unplaced_name name = record { text = name.text; place = 0 }

-- the one part of a row
abbrev pub only : List SynExpr → SynExpr
only [] = expression 0 (Truth false)
only (part ∷ _) = part

-- each place is 0
abbrev mutual
  pub unplaced_node : SynNode → SynNode
  unplaced_node (Int n) = Int n
  unplaced_node (Literal z) = Literal z
  unplaced_node (Truth b) = Truth b
  unplaced_node (Field name) = Field (unplaced_name name)
  unplaced_node (Count name) = Count (unplaced_name name)
  unplaced_node (Of what name field) = Of what (unplaced_name name) (unplaced_name field)
  unplaced_node (Any' _ parts) = Any (unplaced_parts parts)
  unplaced_node (All' _ parts) = All (unplaced_parts parts)
  unplaced_node (Compare' c _ x _ y) = Compare c (only (unplaced_parts x)) (only (unplaced_parts y))
  unplaced_node (Add' _ terms) = Add (unplaced_terms terms)
  unplaced_node (Mul' _ factors) = Mul (unplaced_factors factors)
  unplaced_node (Not' _ x) = Not (only (unplaced_parts x))
  unplaced_node (Neg' _ x) = Neg (only (unplaced_parts x))

  pub unplaced_parts : {n : _} → Row_of-SynExpr n → List SynExpr
  unplaced_parts end_of-SynExpr = []
  unplaced_parts (more_of-SynExpr place node parts) = expression 0 (unplaced_node node) ∷ unplaced_parts parts

  pub unplaced_terms : {n : _} → Row_of-SynTerm n → List SynTerm
  unplaced_terms end_of-SynTerm = []
  unplaced_terms (more_of-SynTerm minus place node terms) = term minus (expression 0 (unplaced_node node)) ∷ unplaced_terms terms

  pub unplaced_factors : {n : _} → Row_of-SynFactor n → List SynFactor
  unplaced_factors end_of-SynFactor = []
  unplaced_factors (more_of-SynFactor way place node factors) = factor way (expression 0 (unplaced_node node)) ∷ unplaced_factors factors

abbrev pub unplaced : SynExpr → SynExpr
unplaced e = expression 0 (unplaced_node e.node)

abbrev pub unplaced_term : SynTerm → SynTerm
unplaced_term t = term t.minus (unplaced t.expr)

abbrev pub unplaced_factor : SynFactor → SynFactor
unplaced_factor f = factor f.how (unplaced f.expr)
