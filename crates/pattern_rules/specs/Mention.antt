-- What an expression mentions, in the order of its text. This is this project's own.
-- The parts of an expression stand in rows: `end_of-SynExpr` is the empty row, `more_of-SynExpr place node parts` has an expression before the
-- others, and the sign `_` before a row is its shape, which says nothing of the parts.
use Rattle.std.specs.Prelude.{List, [], ◌∷◌, ◌++◌}
use Rattle.cep_reading.specs.declared.name.Name.{Name}
use Rattle.cep_expression.specs.declared.expr.SynExpr.{SynExpr}
use Rattle.cep_expression.specs.declared.expr.SynNode.{SynNode, Int, Text, Bool as Truth, Field, Count, Of, Any', All', Compare', Add', Mul', Not', Neg', Row_of-SynExpr, end_of-SynExpr, more_of-SynExpr, Row_of-SynTerm, end_of-SynTerm, more_of-SynTerm, Row_of-SynFactor, end_of-SynFactor, more_of-SynFactor}

-- a field that stands by itself; a stage whose events are counted; a stage and a field of its events
pub data Mention : Type 0 where
  a_field : Name → Mention
  a_stage : Name → Mention
  a_stage_field : Name → Name → Mention

abbrev mutual
  pub mentions_of_node : SynNode → List Mention
  mentions_of_node (Int n) = []
  mentions_of_node (Text t) = []
  mentions_of_node (Truth b) = []
  mentions_of_node (Field name) = a_field name ∷ []
  mentions_of_node (Count name) = a_stage name ∷ []
  mentions_of_node (Of agg name field) = a_stage_field name field ∷ []
  mentions_of_node (Any' _ parts) = mentions_of_parts parts
  mentions_of_node (All' _ parts) = mentions_of_parts parts
  mentions_of_node (Compare' c _ x _ y) = mentions_of_parts x ++ mentions_of_parts y
  mentions_of_node (Add' _ terms) = mentions_of_terms terms
  mentions_of_node (Mul' _ factors) = mentions_of_factors factors
  mentions_of_node (Not' _ x) = mentions_of_parts x
  mentions_of_node (Neg' _ x) = mentions_of_parts x

  pub mentions_of_parts : {n : _} → Row_of-SynExpr n → List Mention
  mentions_of_parts end_of-SynExpr = []
  mentions_of_parts (more_of-SynExpr place node parts) = mentions_of_node node ++ mentions_of_parts parts

  pub mentions_of_terms : {n : _} → Row_of-SynTerm n → List Mention
  mentions_of_terms end_of-SynTerm = []
  mentions_of_terms (more_of-SynTerm minus place node terms) = mentions_of_node node ++ mentions_of_terms terms

  pub mentions_of_factors : {n : _} → Row_of-SynFactor n → List Mention
  mentions_of_factors end_of-SynFactor = []
  mentions_of_factors (more_of-SynFactor how place node factors) = mentions_of_node node ++ mentions_of_factors factors

abbrev pub mentions_of : SynExpr → List Mention
mentions_of e = mentions_of_node e.node
