-- The text of an expression: one space on both sides of a binary operator, none behind `!` and `-`, and parentheses round an operand exactly where
-- its level isn't above the level of the node it stands in. This is this project's own.
-- The parts of an expression stand in rows: `end_of-SynExpr` is the empty row, `more_of-SynExpr place node parts` has an expression before the
-- others, and the sign `_` before a row is its shape, which says nothing of the parts.
use Rattle.std.specs.Prelude.{ℕ, Bool, if◌then◌else◌, nat_lt, List, [], ◌∷◌, ◌++◌, flat_map, codes, decimal}
use Rattle.cep_expression.specs.declared.expr.Agg.{Agg}
use Rattle.cep_expression.specs.declared.expr.Agg.TheVariants as agg
use Rattle.cep_expression.specs.declared.expr.Cmp.{Cmp}
use Rattle.cep_expression.specs.declared.expr.Cmp.TheVariants as cmp
use Rattle.cep_expression.specs.declared.expr.How.{How}
use Rattle.cep_expression.specs.declared.expr.How.TheVariants as how
use Rattle.cep_expression.specs.declared.expr.SynExpr.{SynExpr}
use Rattle.cep_expression.specs.declared.expr.SynTerm.{SynTerm}
use Rattle.cep_expression.specs.declared.expr.SynFactor.{SynFactor}
use Rattle.cep_expression.specs.declared.expr.SynNode.{SynNode, Int, Text as Literal, Bool as Truth, Field, Count, Of, Any', All', Compare', Add', Mul', Not', Neg', Row_of-SynExpr, end_of-SynExpr, more_of-SynExpr, Row_of-SynTerm, end_of-SynTerm, more_of-SynTerm, Row_of-SynFactor, end_of-SynFactor, more_of-SynFactor}
use Rattle.cep_print.specs.Literal.{Text, literal}

-- ---- signs and words

abbrev pub truth_text : Bool → Text
truth_text b = if b then codes "true" else codes "false"

abbrev pub cmp_text : Cmp → Text
cmp_text cmp.Eq = codes " == "
cmp_text cmp.Ne = codes " != "
cmp_text cmp.Lt = codes " < "
cmp_text cmp.Le = codes " <= "
cmp_text cmp.Gt = codes " > "
cmp_text cmp.Ge = codes " >= "

abbrev pub term_sign : Bool → Text
term_sign minus = if minus then codes " - " else codes " + "

abbrev pub factor_sign : How → Text
factor_sign how.Times = codes " * "
factor_sign how.Over = codes " / "
factor_sign how.Rest = codes " % "

abbrev pub count_text : Text → Text
count_text stage = codes "count(" ++ (literal stage ++ codes ")")

-- of an edge the field stands behind the parentheses: first("s").f
abbrev pub edge_text : Text → Text → Text → Text
edge_text word stage field = word ++ (codes "(" ++ (literal stage ++ (codes ")." ++ field)))

-- of a total it stands in them: sum("s".f)
abbrev pub total_text : Text → Text → Text → Text
total_text word stage field = word ++ (codes "(" ++ (literal stage ++ (codes "." ++ (field ++ codes ")"))))

abbrev pub aggregate_text : Agg → Text → Text → Text
aggregate_text agg.Sum stage field = total_text (codes "sum") stage field
aggregate_text agg.Min stage field = total_text (codes "min") stage field
aggregate_text agg.Max stage field = total_text (codes "max") stage field
aggregate_text agg.First stage field = edge_text (codes "first") stage field
aggregate_text agg.Last stage field = edge_text (codes "last") stage field

-- ---- levels

abbrev pub level_of : SynNode → ℕ
level_of (Any' _ parts) = 1
level_of (All' _ parts) = 2
level_of (Compare' c _ x _ y) = 3
level_of (Add' _ terms) = 4
level_of (Mul' _ factors) = 5
level_of (Not' _ x) = 6
level_of (Neg' _ x) = 6
level_of _ = 7

abbrev pub in_parentheses : Text → Text
in_parentheses text = codes "(" ++ (text ++ codes ")")

-- the text of an operand of the level `own` in a node of the level `around`
abbrev pub enclosed : ℕ → ℕ → Text → Text
enclosed around own text = if nat_lt around own then text else in_parentheses text

-- ---- chains

-- Parts in turn, each with what stands before it. Before the first nothing does.
abbrev pub chained : List (Text × Text) → Text
chained [] = []
chained (first ∷ more) = first.1 ++ flat_map (λ part. part.0 ++ part.1) more

-- ---- expressions

abbrev mutual
  pub node_text : SynNode → Text
  node_text (Int n) = decimal n
  node_text (Literal z) = literal z
  node_text (Truth b) = truth_text b
  node_text (Field name) = name.text
  node_text (Count name) = count_text name.text
  node_text (Of what name field) = aggregate_text what name.text field.text
  node_text (Any' _ parts) = chained (part_texts (codes " || ") 1 parts)
  node_text (All' _ parts) = chained (part_texts (codes " && ") 2 parts)
  node_text (Compare' c _ x _ y) = chained (part_texts [] 3 x) ++ (cmp_text c ++ chained (part_texts [] 3 y))
  node_text (Add' _ terms) = chained (term_texts terms)
  node_text (Mul' _ factors) = chained (factor_texts factors)
  node_text (Not' _ x) = codes "!" ++ chained (part_texts [] 6 x)
  node_text (Neg' _ x) = codes "-" ++ chained (part_texts [] 6 x)

  -- the parts of a node of the level `around`, with this between them
  pub part_texts : {n : _} → Text → ℕ → Row_of-SynExpr n → List (Text × Text)
  part_texts between around end_of-SynExpr = []
  part_texts between around (more_of-SynExpr place node parts) = (between, enclosed around (level_of node) (node_text node)) ∷ part_texts between around parts

  pub term_texts : {n : _} → Row_of-SynTerm n → List (Text × Text)
  term_texts end_of-SynTerm = []
  term_texts (more_of-SynTerm minus place node terms) = (term_sign minus, enclosed 4 (level_of node) (node_text node)) ∷ term_texts terms

  pub factor_texts : {n : _} → Row_of-SynFactor n → List (Text × Text)
  factor_texts end_of-SynFactor = []
  factor_texts (more_of-SynFactor way place node factors) = (factor_sign way, enclosed 5 (level_of node) (node_text node)) ∷ factor_texts factors

abbrev pub expression_text : SynExpr → Text
expression_text e = node_text e.node

-- an expression as an operand of a node of this level
abbrev pub operand_text : ℕ → SynExpr → Text
operand_text around e = enclosed around (level_of e.node) (node_text e.node)

-- ---- parts, each with what stands before it

abbrev pub part_of : Text → ℕ → SynExpr → Text × Text
part_of between around e = (between, operand_text around e)

abbrev pub term_of : SynTerm → Text × Text
term_of t = (term_sign t.minus, operand_text 4 t.expr)

abbrev pub factor_of : SynFactor → Text × Text
factor_of f = (factor_sign f.how, operand_text 5 f.expr)
