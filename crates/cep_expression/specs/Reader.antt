-- How an expression is read, token by token. The number bounds how deep parentheses nest and how long chains are.
use Rattle.std.specs.Prelude.{ℕ, zero, suc, Bool, List, Option, Some, None, codes}
use Rattle.cep_expression.specs.declared.aggregate.Call.{Call}
use Rattle.cep_expression.specs.declared.aggregate.Call.TheVariants.{Count as CountOf, Edge, Total}
use Rattle.cep_expression.specs.declared.expr.Agg.{Agg}
use Rattle.cep_expression.specs.declared.expr.Cmp.{Cmp}
use Rattle.cep_expression.specs.declared.expr.SynExpr.{SynExpr}
use Rattle.cep_expression.specs.declared.expr.SynTerm.{SynTerm}
use Rattle.cep_expression.specs.declared.expr.SynFactor.{SynFactor}
use Rattle.cep_expression.specs.declared.expr.SynNode.{SynNode}
use Rattle.cep_expression.specs.declared.expr.SynNode.TheVariants.{Count, Of}
use Rattle.cep_reading.specs.declared.stop.Stop.TheVariants.{Spent}
use Rattle.cep_reading.specs.Lexeme.{Lexeme}
use Rattle.cep_reading.specs.Terminal.{only, symbol, any_word, is_any_word, stage_name}
use Rattle.cep_reading.specs.Reading.{Reader, ◌>>=◌, ◌>>◌, pure, stop, one, sign, choose, many, placed}
use Rattle.cep_expression.specs.Terminal.{constant, meaning, prefix_sign, is_prefix_sign, factor_sign, is_factor_sign, term_sign, is_term_sign, comparator, is_comparator}
use Rattle.cep_expression.specs.Grammar.{at_first, term, factor, part, prefixed, product_of, sum_of, comparison_of, all_of, any_of}

-- ---- primaries

unfoldable pub count_arguments : Reader SynNode
count_arguments = do
  sign (codes "(")
  name ← one stage_name
  sign (codes ")")
  pure (Count name)

unfoldable pub edge_arguments : Agg → Reader SynNode
edge_arguments how = do
  sign (codes "(")
  name ← one stage_name
  sign (codes ")")
  sign (codes ".")
  field ← one any_word
  pure (Of how name field)

unfoldable pub total_arguments : Agg → Reader SynNode
total_arguments how = do
  sign (codes "(")
  name ← one stage_name
  sign (codes ".")
  field ← one any_word
  sign (codes ")")
  pure (Of how name field)

abbrev pub arguments : Call → Reader SynNode
arguments CountOf = count_arguments
arguments (Edge how) = edge_arguments how
arguments (Total how) = total_arguments how

-- behind a Word: it is an aggregate's where `(` comes behind
abbrev pub behind_word : Option Call × SynNode → Reader SynNode
behind_word (None, plain) = pure plain
behind_word (Some how, plain) = choose (symbol (codes "(")) (arguments how) (pure plain)

unfoldable pub word_node : Reader SynNode
word_node = one meaning >>= behind_word

unfoldable pub leaf_node : Reader SynNode
leaf_node = choose is_any_word word_node (one constant)

unfoldable pub leaf : Reader SynExpr
leaf = do
  found ← placed leaf_node
  pure (at_first found)

-- ---- chains

abbrev pub linked : {O T : Type 0} → (Lexeme → Option O) → (O → SynExpr → T) → Reader SynExpr → Reader T
linked signs made operand = do
  how ← one signs
  e ← operand
  pure (made how e)

abbrev pub chain : {O T : Type 0} → ℕ → (Lexeme → Bool) → (Lexeme → Option O) → (O → SynExpr → T) → Reader SynExpr → Reader (ℕ × (SynExpr × List T))
chain room is_sign signs made operand = placed (do first ← operand; more ← many room is_sign (linked signs made operand); pure (first, more))

module _ (expr : Reader SynExpr) where
  unfoldable pub in_parentheses : Reader SynExpr
  in_parentheses = do
    sign (codes "(")
    inner ← expr
    sign (codes ")")
    pure inner

  unfoldable pub primary : Reader SynExpr
  primary = choose (symbol (codes "(")) in_parentheses leaf

  unfoldable pub prefixed_primary : Reader SynExpr
  prefixed_primary = do
    found ← placed (do how ← one prefix_sign; e ← primary; pure (prefixed how e))
    pure (at_first found)

  unfoldable pub unary : Reader SynExpr
  unary = choose is_prefix_sign prefixed_primary primary

  unfoldable pub next_factor : Reader SynFactor
  next_factor = linked factor_sign factor unary

  abbrev pub factors : ℕ → Reader (List SynFactor)
  factors room = many room is_factor_sign next_factor

  unfoldable pub product : ℕ → Reader SynExpr
  product room = do
    found ← placed (do first ← unary; more ← factors room; pure (first, more))
    pure (product_of found)

  unfoldable pub next_term : ℕ → Reader SynTerm
  next_term room = linked term_sign term (product room)

  abbrev pub terms : ℕ → Reader (List SynTerm)
  terms room = many room is_term_sign (next_term room)

  unfoldable pub sum : ℕ → Reader SynExpr
  sum room = do
    found ← placed (do first ← product room; more ← terms room; pure (first, more))
    pure (sum_of found)

  unfoldable pub compared_with : ℕ → Reader (Cmp × SynExpr)
  compared_with room = do
    how ← one comparator
    right ← sum room
    pure (how, right)

  unfoldable pub other_side : ℕ → Reader (Option (Cmp × SynExpr))
  other_side room = choose is_comparator (compared_with room >>= (λ a. pure (Some a))) (pure None)

  unfoldable pub comparison : ℕ → Reader SynExpr
  comparison room = do
    found ← placed (do left ← sum room; other ← other_side room; pure (left, other))
    pure (comparison_of found)

  unfoldable pub next_conjunct : ℕ → Reader SynExpr
  next_conjunct room = linked (only (symbol (codes "&&"))) part (comparison room)

  abbrev pub conjuncts : ℕ → Reader (List SynExpr)
  conjuncts room = many room (symbol (codes "&&")) (next_conjunct room)

  unfoldable pub all : ℕ → Reader SynExpr
  all room = do
    found ← placed (do first ← comparison room; more ← conjuncts room; pure (first, more))
    pure (all_of found)

  unfoldable pub next_disjunct : ℕ → Reader SynExpr
  next_disjunct room = linked (only (symbol (codes "||"))) part (all room)

  abbrev pub disjuncts : ℕ → Reader (List SynExpr)
  disjuncts room = many room (symbol (codes "||")) (next_disjunct room)

  unfoldable pub any : ℕ → Reader SynExpr
  any room = do
    found ← placed (do first ← all room; more ← disjuncts room; pure (first, more))
    pure (any_of found)

unfoldable pub expression : ℕ → Reader SynExpr
expression zero = stop Spent
expression (suc n) = any (expression n) n
