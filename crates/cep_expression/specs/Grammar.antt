-- The grammar of expressions, by its productions.
use Rattle.std.specs.Prelude.{ℕ, zero, suc, Bool, false, List, [], ◌∷◌, Option, Some, None, codes}
use Rattle.cep_expression.specs.declared.aggregate.Call.{Call}
use Rattle.cep_expression.specs.declared.aggregate.Call.TheVariants.{Count as CountOf, Edge, Total}
use Rattle.cep_expression.specs.declared.expr.Cmp.{Cmp}
use Rattle.cep_expression.specs.declared.expr.How.{How}
use Rattle.cep_expression.specs.declared.expr.How.TheVariants.{Times}
use Rattle.cep_expression.specs.declared.expr.SynExpr.{SynExpr, roll-SynExpr}
use Rattle.cep_expression.specs.declared.expr.SynTerm.{SynTerm, roll-SynTerm}
use Rattle.cep_expression.specs.declared.expr.SynFactor.{SynFactor, roll-SynFactor}
use Rattle.cep_expression.specs.declared.expr.SynNode.{SynNode}
use Rattle.cep_expression.specs.declared.expr.SynNode.TheVariants.{Count, Of, Any, All, Compare, Add, Mul, Not, Neg}
use Rattle.cep_expression.specs.declared.sign.Prefix.{Prefix}
use Rattle.cep_expression.specs.declared.sign.Prefix.TheVariants as prefix
use Rattle.cep_reading.specs.Lexeme.{Lexeme}
use Rattle.cep_reading.specs.Terminal.{only, symbol, any_word, stage_name}
use Rattle.cep_reading.specs.Rule.{Rule, ◌>>=◌, ◌>>◌, pure, ◌or◌, one, sign, many, maybe, placed}
use Rattle.cep_expression.specs.Terminal.{constant, plain, call, prefix_sign, factor_sign, term_sign, comparator}

-- ---- what the parts make

abbrev pub expression : ℕ → SynNode → SynExpr
expression place node = roll-SynExpr (record { place = place; node = node })

-- a node stands at its first token
abbrev pub at_first : ℕ × SynNode → SynExpr
at_first (place, node) = expression place node

abbrev pub term : Bool → SynExpr → SynTerm
term minus e = roll-SynTerm (record { minus = minus; expr = e })

abbrev pub factor : How → SynExpr → SynFactor
factor how e = roll-SynFactor (record { how = how; expr = e })

abbrev pub part : Unit {0} → SynExpr → SynExpr
part _ e = e

abbrev pub prefixed : Prefix → SynExpr → SynNode
prefixed prefix.Not e = Not e
prefixed prefix.Neg e = Neg e

-- one operand alone is itself
abbrev pub product_of : ℕ × (SynExpr × List SynFactor) → SynExpr
product_of (place, (first, [])) = first
product_of (place, (first, second ∷ more)) = expression place (Mul (factor Times first ∷ second ∷ more))

abbrev pub sum_of : ℕ × (SynExpr × List SynTerm) → SynExpr
sum_of (place, (first, [])) = first
sum_of (place, (first, second ∷ more)) = expression place (Add (term false first ∷ second ∷ more))

abbrev pub comparison_of : ℕ × (SynExpr × Option (Cmp × SynExpr)) → SynExpr
comparison_of (place, (left, None)) = left
comparison_of (place, (left, Some (how, right))) = expression place (Compare how left right)

abbrev pub all_of : ℕ × (SynExpr × List SynExpr) → SynExpr
all_of (place, (first, [])) = first
all_of (place, (first, second ∷ more)) = expression place (All (first ∷ second ∷ more))

abbrev pub any_of : ℕ × (SynExpr × List SynExpr) → SynExpr
any_of (place, (first, [])) = first
any_of (place, (first, second ∷ more)) = expression place (Any (first ∷ second ∷ more))

-- ---- primaries

-- behind "count": "(" Name ")"; behind "first" and "last": "(" Name ")" "." Word; behind "sum", "min" and "max": "(" Name "." Word ")"
abbrev pub arguments : Call → Rule SynNode
arguments CountOf = do
  sign (codes "(")
  name ← one stage_name
  sign (codes ")")
  pure (Count name)
arguments (Edge how) = do
  sign (codes "(")
  name ← one stage_name
  sign (codes ")")
  sign (codes ".")
  field ← one any_word
  pure (Of how name field)
arguments (Total how) = do
  sign (codes "(")
  name ← one stage_name
  sign (codes ".")
  field ← one any_word
  sign (codes ")")
  pure (Of how name field)

abbrev pub aggregate : Rule SynNode
aggregate = do
  how ← one call
  arguments how

-- operand { sign operand }, with the place of the first token
abbrev pub chain : {O T : Type 0} → (Lexeme → Option O) → (O → SynExpr → T) → Rule SynExpr → Rule (ℕ × (SynExpr × List T))
chain signs made operand = placed (do first ← operand; more ← many (do how ← one signs; e ← operand; pure (made how e)); pure (first, more))

module _ (expr : Rule SynExpr) where
  -- "(" expr ")"
  abbrev pub in_parentheses : Rule SynExpr
  in_parentheses = do
    sign (codes "(")
    inner ← expr
    sign (codes ")")
    pure inner

  -- primary = Number | Literal | "true" | "false" | aggregate | Word | "(" expr ")"
  unfoldable pub primary : Rule SynExpr
  primary = in_parentheses or (do found ← placed ((one plain or aggregate) or one constant); pure (at_first found))

  -- unary = [ "!" | "-" ] primary
  unfoldable pub unary : Rule SynExpr
  unary = (do found ← placed (do how ← one prefix_sign; e ← primary; pure (prefixed how e)); pure (at_first found)) or primary

  -- product = unary { ( "*" | "/" | "%" ) unary }
  unfoldable pub product : Rule SynExpr
  product = do
    found ← chain factor_sign factor unary
    pure (product_of found)

  -- sum = product { ( "+" | "-" ) product }
  unfoldable pub sum : Rule SynExpr
  sum = do
    found ← chain term_sign term product
    pure (sum_of found)

  -- comparison = sum [ ( "==" | "!=" | "<" | "<=" | ">" | ">=" ) sum ]
  unfoldable pub comparison : Rule SynExpr
  comparison = do
    found ← placed (do left ← sum; other ← maybe (do how ← one comparator; right ← sum; pure (how, right)); pure (left, other))
    pure (comparison_of found)

  -- and = comparison { "&&" comparison }
  unfoldable pub all : Rule SynExpr
  all = do
    found ← chain (only (symbol (codes "&&"))) part comparison
    pure (all_of found)

  -- expr = and { "||" and }
  unfoldable pub any : Rule SynExpr
  any = do
    found ← chain (only (symbol (codes "||"))) part all
    pure (any_of found)

-- an expression in which parentheses nest less deep than the number
unfoldable pub expression_within : ℕ → Rule SynExpr
expression_within zero = λ used e. ⊥
expression_within (suc n) = any (expression_within n)
