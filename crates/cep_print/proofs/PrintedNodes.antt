-- The rules of expressions accept each printed expression that is well formed.
use Rattle.std.proofs.Common.{◌≡◌, ℕ, zero, suc, ◌+◌, ◌≤◌, Bool, true, not, List, [], ◌∷◌, ◌++◌, map, sym, subst, arith, append-nil}
use Rattle.std.specs.Prelude.{nat_le, length, codes}
use Rattle.std.specs.List.{list_all}
use Rattle.cep_expression.specs.declared.expr.SynExpr.{SynExpr}
use Rattle.cep_expression.specs.declared.expr.SynNode.{SynNode, Int, Text as Literal, Bool as Truth, Field, Count, Of, Any', All', Compare', Add', Mul', Not', Neg', Compare, Not, Neg, Row_of-SynExpr, end_of-SynExpr, more_of-SynExpr, Row_of-SynTerm, end_of-SynTerm, more_of-SynTerm, Row_of-SynFactor, end_of-SynFactor, more_of-SynFactor}
use Rattle.cep_expression.specs.declared.expr.How.{How}
use Rattle.cep_expression.specs.Grammar as grammar
use Rattle.cep_expression.specs.Grammar.{expression, expression_within}
use Rattle.cep_token.specs.Form.{is_word}
use Rattle.cep_reading.specs.Terminal.{is_name}
use Rattle.cep_reading.specs.Rule.{Rule}
use Rattle.cep_syntax.specs.WellFormed.{is_formed_node, is_formed, formed_parts, formed_terms, formed_factors, is_times, is_sum, is_product}
use Rattle.cep_print.specs.Literal.{Text}
use Rattle.cep_print.specs.Expression.{cmp_text, level_of, enclosed, node_text, expression_text}
use Rattle.cep_print.specs.Same.{unplaced}
use Rattle.cep_print.proofs.Scanned.{hard, and_parts}
use Rattle.cep_print.proofs.Prints.{Printed}
use Rattle.cep_print.proofs.PrintedLeaves.{leaf-Int, leaf-Literal, leaf-Truth, leaf-Field, leaf-Count, leaf-Of}
use Rattle.cep_print.proofs.PrintedChains.{Shown, Tiers, tiers-any, tiers-all, tiers-comparison, tiers-sum, tiers-product, tiers-unary, tiers-primary, leaf_primary}
use Rattle.cep_print.proofs.PrintedParts.{Operands, operands, EachPart, EachTerm, EachFactor, shown-Any, shown-All}
use Rattle.cep_print.proofs.PrintedSums.{shown-Add, shown-Mul, shown-Compare, shown-Not, shown-Neg}

-- ---- how deep parentheses may nest: no deeper than there are nodes

abbrev mutual
  pub height : SynNode → ℕ
  height (Any' _ parts) = suc (parts_height parts)
  height (All' _ parts) = suc (parts_height parts)
  height (Compare' c _ x _ y) = suc (parts_height x + parts_height y)
  height (Add' _ terms) = suc (terms_height terms)
  height (Mul' _ factors) = suc (factors_height factors)
  height (Not' _ x) = suc (parts_height x)
  height (Neg' _ x) = suc (parts_height x)
  height _ = 0

  pub parts_height : {n : _} → Row_of-SynExpr n → ℕ
  parts_height end_of-SynExpr = 0
  parts_height (more_of-SynExpr place node row) = height node + parts_height row

  pub terms_height : {n : _} → Row_of-SynTerm n → ℕ
  terms_height end_of-SynTerm = 0
  terms_height (more_of-SynTerm minus place node row) = height node + terms_height row

  pub factors_height : {n : _} → Row_of-SynFactor n → ℕ
  factors_height end_of-SynFactor = 0
  factors_height (more_of-SynFactor way place node row) = height node + factors_height row

below_suc : (a m : ℕ) → suc a ≤ suc m → a ≤ m
below_suc a m h = omega arith

none_below : (a : ℕ) → suc a ≤ 0 → ⊥
none_below a h = omega arith

left_below : (a b m : ℕ) → a + b ≤ m → a ≤ m
left_below a b m h = omega arith

right_below : (a b m : ℕ) → a + b ≤ m → b ≤ m
right_below a b m h = omega arith

up_below : (a m : ℕ) → a ≤ m → a ≤ suc m
up_below a m h = omega arith

abbrev NodeTiers : ℕ → SynNode → Type 0
NodeTiers n node = Tiers (expression_within n) (expression 0 node) (node_text node) (level_of node)

-- an operand at the end of a text
at_end : (r : Rule SynExpr) (goal : SynExpr) (sign z : Text) → Printed r unplaced goal hard (sign ++ z) → Printed r unplaced goal hard (sign ++ (z ++ []))
at_end r goal sign z p = subst (λ l. Printed r unplaced goal hard (sign ++ l)) (sym (append-nil z)) p

both_ends : (r : Rule SynExpr) (goal : SynExpr) (x sign y : Text) → Printed r unplaced goal hard (x ++ (sign ++ y))
    → Printed r unplaced goal hard ((x ++ []) ++ (sign ++ (y ++ [])))
both_ends r goal x sign y p =
    subst (λ l. Printed r unplaced goal hard (l ++ (sign ++ (y ++ [])))) (sym (append-nil x))
    (subst (λ l. Printed r unplaced goal hard (x ++ (sign ++ l))) (sym (append-nil y)) p)

sum_parts : (terms : List (Bool × Bool)) → is_sum terms ≡ true → list_all (λ part. part) (map (λ term. term.1) terms) ≡ true
sum_parts [] f = cc
sum_parts ((minus, first) ∷ terms) f =
    (and_parts (nat_le 2 (length (first ∷ map (λ term. term.1) terms))) (list_all (λ part. part) (first ∷ map (λ term. term.1) terms))
    (and_parts (not minus) _ f).1).1

product_parts : (factors : List (How × Bool)) → is_product factors ≡ true → list_all (λ part. part) (map (λ factor. factor.1) factors) ≡ true
product_parts [] f = cc
product_parts ((way, first) ∷ factors) f =
    (and_parts (nat_le 2 (length (first ∷ map (λ factor. factor.1) factors))) (list_all (λ part. part) (first ∷ map (λ factor. factor.1) factors))
    (and_parts (is_times way) _ f).1).1

mutual
  pub node_tiers : (node : SynNode) → is_formed_node node ≡ true → (n : ℕ) → height node ≤ n → NodeTiers n node
  node_tiers (Int k) f n h = tiers-primary (expression_within n) (expression 0 (Int k)) _ (leaf_primary (expression_within n) (Int k) _ (leaf-Int k f))
  node_tiers (Literal z) f n h =
      tiers-primary (expression_within n) (expression 0 (Literal z)) _ (leaf_primary (expression_within n) (Literal z) _ (leaf-Literal z))
  node_tiers (Truth b) f n h = tiers-primary (expression_within n) (expression 0 (Truth b)) _ (leaf_primary (expression_within n) (Truth b) _ (leaf-Truth b))
  node_tiers (Field name) f n h =
      tiers-primary (expression_within n) (expression 0 (Field name)) _ (leaf_primary (expression_within n) (Field name) _ (leaf-Field name f))
  node_tiers (Count name) f n h =
      tiers-primary (expression_within n) (expression 0 (Count name)) _ (leaf_primary (expression_within n) (Count name) _ (leaf-Count name f))
  node_tiers (Of what name field) f n h =
      let k = and_parts (is_name name.text) (is_word field.text) f in
      tiers-primary (expression_within n) (expression 0 (Of what name field)) _
      (leaf_primary (expression_within n) (Of what name field) _ (leaf-Of what name field k.0 k.1))
  node_tiers (Any' s row) f zero h = absurd (none_below (parts_height row) h)
  node_tiers (Any' s row) f (suc m) h =
      tiers-any (expression_within (suc m)) (expression 0 (Any' s row)) _
      (shown-Any (expression_within (suc m)) row f
      (parts_operands row (and_parts (nat_le 2 (length (formed_parts row))) (list_all (λ part. part) (formed_parts row)) f).1 m
      (below_suc (parts_height row) m h)))
  node_tiers (All' s row) f zero h = absurd (none_below (parts_height row) h)
  node_tiers (All' s row) f (suc m) h =
      tiers-all (expression_within (suc m)) (expression 0 (All' s row)) _
      (shown-All (expression_within (suc m)) row f
      (parts_operands row (and_parts (nat_le 2 (length (formed_parts row))) (list_all (λ part. part) (formed_parts row)) f).1 m
      (below_suc (parts_height row) m h)))
  node_tiers (Add' s row) f zero h = absurd (none_below (terms_height row) h)
  node_tiers (Add' s row) f (suc m) h =
      tiers-sum (expression_within (suc m)) (expression 0 (Add' s row)) _
      (shown-Add (expression_within (suc m)) row f (terms_operands row (sum_parts (formed_terms row) f) m (below_suc (terms_height row) m h)))
  node_tiers (Mul' s row) f zero h = absurd (none_below (factors_height row) h)
  node_tiers (Mul' s row) f (suc m) h =
      tiers-product (expression_within (suc m)) (expression 0 (Mul' s row)) _
      (shown-Mul (expression_within (suc m)) row f
      (factors_operands row (product_parts (formed_factors row) f) m (below_suc (factors_height row) m h)))
  node_tiers (Compare' c s (more_of-SynExpr p x end_of-SynExpr) t (more_of-SynExpr q y end_of-SynExpr)) f zero h =
      absurd (none_below ((height x + 0) + (height y + 0)) h)
  node_tiers (Compare' c s (more_of-SynExpr p x end_of-SynExpr) t (more_of-SynExpr q y end_of-SynExpr)) f (suc m) h =
      let e = expression_within (suc m) in
      let k = and_parts (is_formed_node x) (is_formed_node y) f in
      let low = below_suc ((height x + 0) + (height y + 0)) m h in
      let a = left_below (height x) 0 m (left_below (height x + 0) (height y + 0) m low) in
      let b = left_below (height y) 0 m (right_below (height x + 0) (height y + 0) m low) in
      let left = operands m x (node_tiers x k.0 (suc m) (up_below (height x) m a)) (node_tiers x k.0 m a) in
      let right = operands m y (node_tiers y k.1 (suc m) (up_below (height y) m b)) (node_tiers y k.1 m b) in
      tiers-comparison e (expression 0 (Compare' c s (more_of-SynExpr p x end_of-SynExpr) t (more_of-SynExpr q y end_of-SynExpr))) _
      (both_ends (grammar.comparison e) (expression 0 (Compare c (unplaced (expression 0 x)) (unplaced (expression 0 y))))
      (enclosed 3 (level_of x) (node_text x)) (cmp_text c) (enclosed 3 (level_of y) (node_text y)) (shown-Compare e c x y left right))
  node_tiers (Not' s (more_of-SynExpr p x end_of-SynExpr)) f zero h = absurd (none_below (height x + 0) h)
  node_tiers (Not' s (more_of-SynExpr p x end_of-SynExpr)) f (suc m) h =
      let e = expression_within (suc m) in
      let a = left_below (height x) 0 m (below_suc (height x + 0) m h) in
      let o = operands m x (node_tiers x f (suc m) (up_below (height x) m a)) (node_tiers x f m a) in
      tiers-unary e (expression 0 (Not' s (more_of-SynExpr p x end_of-SynExpr))) _ (at_end (grammar.unary e) (expression 0 (Not (unplaced (expression 0 x)))) (codes "!") (enclosed 6 (level_of x) (node_text x)) (shown-Not e x o))
  node_tiers (Neg' s (more_of-SynExpr p x end_of-SynExpr)) f zero h = absurd (none_below (height x + 0) h)
  node_tiers (Neg' s (more_of-SynExpr p x end_of-SynExpr)) f (suc m) h =
      let e = expression_within (suc m) in
      let a = left_below (height x) 0 m (below_suc (height x + 0) m h) in
      let o = operands m x (node_tiers x f (suc m) (up_below (height x) m a)) (node_tiers x f m a) in
      tiers-unary e (expression 0 (Neg' s (more_of-SynExpr p x end_of-SynExpr))) _ (at_end (grammar.unary e) (expression 0 (Neg (unplaced (expression 0 x)))) (codes "-") (enclosed 6 (level_of x) (node_text x)) (shown-Neg e x o))

  parts_operands : {n : _} (row : Row_of-SynExpr n) → list_all (λ part. part) (formed_parts row) ≡ true → (m : ℕ) → parts_height row ≤ m
      → EachPart (Operands (expression_within (suc m))) row
  parts_operands end_of-SynExpr f m h = tt
  parts_operands (more_of-SynExpr place node row) f m h =
      let k = and_parts (is_formed_node node) (list_all (λ part. part) (formed_parts row)) f in
      let a = left_below (height node) (parts_height row) m h in (
        operands m node (node_tiers node k.0 (suc m) (up_below (height node) m a)) (node_tiers node k.0 m a),
        parts_operands row k.1 m
            (right_below (height node) (parts_height row) m h),
      )

  terms_operands : {n : _} (row : Row_of-SynTerm n) → list_all (λ part. part) (map (λ term. term.1) (formed_terms row)) ≡ true → (m : ℕ)
      → terms_height row ≤ m → EachTerm (Operands (expression_within (suc m))) row
  terms_operands end_of-SynTerm f m h = tt
  terms_operands (more_of-SynTerm minus place node row) f m h =
      let k = and_parts (is_formed_node node) (list_all (λ part. part) (map (λ term. term.1) (formed_terms row))) f in
      let a = left_below (height node) (terms_height row) m h in (
        operands m node (node_tiers node k.0 (suc m) (up_below (height node) m a)) (node_tiers node k.0 m a),
        terms_operands row k.1 m
            (right_below (height node) (terms_height row) m h),
      )

  factors_operands : {n : _} (row : Row_of-SynFactor n) → list_all (λ part. part) (map (λ factor. factor.1) (formed_factors row)) ≡ true → (m : ℕ)
      → factors_height row ≤ m → EachFactor (Operands (expression_within (suc m))) row
  factors_operands end_of-SynFactor f m h = tt
  factors_operands (more_of-SynFactor way place node row) f m h =
      let k = and_parts (is_formed_node node) (list_all (λ part. part) (map (λ factor. factor.1) (formed_factors row))) f in
      let a = left_below (height node) (factors_height row) m h in (
        operands m node (node_tiers node k.0 (suc m) (up_below (height node) m a)) (node_tiers node k.0 m a),
        factors_operands row k.1 m
            (right_below (height node) (factors_height row) m h),
      )

-- a printed expression, where parentheses may nest as deep as it has nodes
pub expression_printed : (e : SynExpr) → is_formed e ≡ true → (n : ℕ) → height e.node ≤ n → Shown (expression_within (suc n)) e (expression_text e)
unfolding expression_within
expression_printed e f n h = (node_tiers e.node f n h).any
