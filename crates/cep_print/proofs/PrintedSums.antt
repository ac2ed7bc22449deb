-- The tokens of printed sums, products, comparisons and signed operands, from those of their parts.
use Rattle.std.proofs.Common.{◌≡◌, ℕ, Bool, true, false, not, List, [], ◌∷◌, ◌++◌, map, refl, sym, ◌∙◌, ap, subst, append_assoc}
use Rattle.std.specs.Prelude.{Option, Some, None, option_map, codes, flat_map}
use Rattle.cep_token.specs.declared.token.TokenKind.TheVariants as kind
use Rattle.cep_reading.specs.Rule.{Rule, InTurn}
use Rattle.cep_reading.specs.Rule as rule
use Rattle.cep_expression.specs.declared.expr.Cmp.{Cmp}
use Rattle.cep_expression.specs.declared.expr.Cmp.TheVariants as cmp
use Rattle.cep_expression.specs.declared.expr.How.{How}
use Rattle.cep_expression.specs.declared.expr.How.TheVariants as how
use Rattle.cep_expression.specs.declared.expr.SynExpr.{SynExpr}
use Rattle.cep_expression.specs.declared.expr.SynTerm.{SynTerm}
use Rattle.cep_expression.specs.declared.expr.SynFactor.{SynFactor}
use Rattle.cep_expression.specs.declared.expr.SynNode.{SynNode, Compare, Add, Mul, Not, Neg, Row_of-SynTerm, end_of-SynTerm, more_of-SynTerm, Row_of-SynFactor, end_of-SynFactor, more_of-SynFactor}
use Rattle.cep_expression.specs.declared.sign.Prefix.{Prefix}
use Rattle.cep_expression.specs.declared.sign.Prefix.TheVariants as prefix
use Rattle.cep_expression.specs.Terminal as terminal
use Rattle.cep_expression.specs.Grammar as grammar
use Rattle.cep_expression.specs.Grammar.{expression, expression_within}
use Rattle.cep_syntax.specs.WellFormed.{is_sum, is_product, is_times, formed_terms, formed_factors}
use Rattle.cep_print.specs.Literal.{Text}
use Rattle.cep_print.specs.Expression.{cmp_text, term_sign, factor_sign, level_of, enclosed, chained, node_text, term_texts, factor_texts}
use Rattle.cep_print.specs.Same.{unplaced_node, unplaced_terms, unplaced_factors, unplaced, unplaced_term, unplaced_factor}
use Rattle.cep_print.proofs.SameLaws.{unplaced-Compare, unplaced-Add, unplaced-Mul, unplaced-Not, unplaced-Neg}
use Rattle.cep_print.proofs.Scanned.{front, soft, hard, no_need, and_parts, Mark}
use Rattle.cep_print.proofs.Marks.{is_token-single, is_token-double}
use Rattle.cep_print.proofs.Prints.{Prints, Printed, Prints-then, Prints-made, Prints-left, Prints-placed, Prints-one, Prints-spaced, soft_stays}
use Rattle.cep_print.proofs.PrintedParts.{Operands, EachTerm, EachFactor, next, next_shown, chain_more, Rest, rest_none, rest_more}

abbrev with_sign : Text × Text → Text
with_sign part = part.0 ++ part.1

-- ---- `+` and `-`

sign_term : (minus : Bool) → Printed (rule.one terminal.term_sign) (λ o. o) minus soft (term_sign minus)
unfolding terminal.term_sign
sign_term true = (_, Prints-spaced terminal.term_sign (λ o. o) true kind.Symbol (codes "-") soft refl (is_token-single 45 refl) (λ place. (true, refl, refl)))
sign_term false = (_, Prints-spaced terminal.term_sign (λ o. o) false kind.Symbol (codes "+") soft refl (is_token-single 43 refl) (λ place. (false, refl, refl)))

term_starts : (minus : Bool) (rest : Text) → hard (front (term_sign minus ++ rest)) ≡ true
term_starts true rest = refl
term_starts false rest = refl

abbrev next_term : Rule SynExpr → Rule SynTerm
next_term e = next terminal.term_sign grammar.term (grammar.product e) unplaced_term

rest_terms : {n : _} (e : Rule SynExpr) (row : Row_of-SynTerm n) → EachTerm (Operands e) row
    → Rest (next_term e) unplaced_term (unplaced_terms row) (flat_map with_sign (term_texts row))
rest_terms e end_of-SynTerm each = rest_none (next_term e) unplaced_term
rest_terms e (more_of-SynTerm minus place node row) each =
    let sign = sign_term minus in
    rest_more (next_term e) unplaced_term (grammar.term minus (unplaced (expression 0 node))) (unplaced_terms row) (term_sign minus)
    (enclosed 4 (level_of node) (node_text node)) (flat_map with_sign (term_texts row)) (term_starts minus)
    (next_shown terminal.term_sign grammar.term (grammar.product e) unplaced_term minus (expression 0 node)
    (grammar.term minus (unplaced (expression 0 node))) (term_sign minus) _ sign.0 sign.1 each.0.product (λ y is. ap (grammar.term minus) is))
    (rest_terms e row each.1)

sum_law : (minus : Bool) (x : SynExpr) (second : SynTerm) (targets : List SynTerm) → minus ≡ false → (place : ℕ) (y : SynExpr) (ys : List SynTerm)
    → unplaced y ≡ unplaced x → map unplaced_term ys ≡ second ∷ targets
    → unplaced (grammar.sum_of (place, (y, ys))) ≡ expression 0 (Add (grammar.term minus (unplaced x) ∷ second ∷ targets))
sum_law minus x second targets plus place y [] is same = cc
sum_law minus x second targets plus place y (s ∷ ys) is same =
    ap (expression 0) (unplaced-Add (grammar.term false y ∷ s ∷ ys) ∙ ap Add (λ i. grammar.term (sym plus i) (is i) ∷ same i))

is_false : (b : Bool) → not b ≡ true → b ≡ false
is_false true e = cc
is_false false e = refl

pub shown-Add : {n : _} (e : Rule SynExpr) (row : Row_of-SynTerm n) → is_sum (formed_terms row) ≡ true → EachTerm (Operands e) row
    → Printed (grammar.sum e) unplaced (expression 0 (Add (unplaced_terms row))) hard (chained (term_texts row))
unfolding grammar.sum
shown-Add e end_of-SynTerm formed each = cc
shown-Add e (more_of-SynTerm minus place node end_of-SynTerm) formed each = let bad = (and_parts (not minus) _ formed).1 in cc
shown-Add e (more_of-SynTerm minus place node (more_of-SynTerm sign other second row)) formed each =
    let rest = rest_terms e (more_of-SynTerm sign other second row) each.1 in
    chain_more terminal.term_sign grammar.term (grammar.product e) unplaced_term grammar.sum_of (expression 0 node) _ _ _ _ each.0.product rest.found
    rest.begins
    (sum_law minus (expression 0 node) (grammar.term sign (unplaced (expression 0 second))) (unplaced_terms row)
    (is_false minus (and_parts (not minus) _ formed).0))

-- ---- `*`, `/` and `%`

sign_factor : (way : How) → Printed (rule.one terminal.factor_sign) (λ o. o) way soft (factor_sign way)
unfolding terminal.factor_sign
sign_factor how.Times = (_, Prints-spaced terminal.factor_sign (λ o. o) how.Times kind.Symbol (codes "*") soft refl (is_token-single 42 refl) (λ place. (how.Times, refl, refl)))
sign_factor how.Over = (_, Prints-spaced terminal.factor_sign (λ o. o) how.Over kind.Symbol (codes "/") soft refl (is_token-single 47 refl) (λ place. (how.Over, refl, refl)))
sign_factor how.Rest = (_, Prints-spaced terminal.factor_sign (λ o. o) how.Rest kind.Symbol (codes "%") soft refl (is_token-single 37 refl) (λ place. (how.Rest, refl, refl)))

factor_starts : (way : How) (rest : Text) → hard (front (factor_sign way ++ rest)) ≡ true
factor_starts how.Times rest = refl
factor_starts how.Over rest = refl
factor_starts how.Rest rest = refl

abbrev next_factor : Rule SynExpr → Rule SynFactor
next_factor e = next terminal.factor_sign grammar.factor (grammar.unary e) unplaced_factor

rest_factors : {n : _} (e : Rule SynExpr) (row : Row_of-SynFactor n) → EachFactor (Operands e) row
    → Rest (next_factor e) unplaced_factor (unplaced_factors row) (flat_map with_sign (factor_texts row))
rest_factors e end_of-SynFactor each = rest_none (next_factor e) unplaced_factor
rest_factors e (more_of-SynFactor way place node row) each =
    let sign = sign_factor way in
    rest_more (next_factor e) unplaced_factor (grammar.factor way (unplaced (expression 0 node))) (unplaced_factors row) (factor_sign way)
    (enclosed 5 (level_of node) (node_text node)) (flat_map with_sign (factor_texts row)) (factor_starts way)
    (next_shown terminal.factor_sign grammar.factor (grammar.unary e) unplaced_factor way (expression 0 node)
    (grammar.factor way (unplaced (expression 0 node))) (factor_sign way) _ sign.0 sign.1 each.0.unary (λ y is. ap (grammar.factor way) is))
    (rest_factors e row each.1)

product_law : (way : How) (x : SynExpr) (second : SynFactor) (targets : List SynFactor) → way ≡ how.Times
    → (place : ℕ) (y : SynExpr) (ys : List SynFactor) → unplaced y ≡ unplaced x → map unplaced_factor ys ≡ second ∷ targets
    → unplaced (grammar.product_of (place, (y, ys))) ≡ expression 0 (Mul (grammar.factor way (unplaced x) ∷ second ∷ targets))
product_law way x second targets so place y [] is same = cc
product_law way x second targets so place y (s ∷ ys) is same =
    ap (expression 0) (unplaced-Mul (grammar.factor how.Times y ∷ s ∷ ys) ∙ ap Mul (λ i. grammar.factor (sym so i) (is i) ∷ same i))

times_is : (way : How) → is_times way ≡ true → way ≡ how.Times
times_is how.Times e = refl
times_is how.Over e = cc
times_is how.Rest e = cc

pub shown-Mul : {n : _} (e : Rule SynExpr) (row : Row_of-SynFactor n) → is_product (formed_factors row) ≡ true → EachFactor (Operands e) row
    → Printed (grammar.product e) unplaced (expression 0 (Mul (unplaced_factors row))) hard (chained (factor_texts row))
unfolding grammar.product
shown-Mul e end_of-SynFactor formed each = cc
shown-Mul e (more_of-SynFactor way place node end_of-SynFactor) formed each = let bad = (and_parts (is_times way) _ formed).1 in cc
shown-Mul e (more_of-SynFactor way place node (more_of-SynFactor sign other second row)) formed each =
    let rest = rest_factors e (more_of-SynFactor sign other second row) each.1 in
    chain_more terminal.factor_sign grammar.factor (grammar.unary e) unplaced_factor grammar.product_of (expression 0 node) _ _ _ _ each.0.unary
    rest.found rest.begins
    (product_law way (expression 0 node) (grammar.factor sign (unplaced (expression 0 second))) (unplaced_factors row)
    (times_is way (and_parts (is_times way) _ formed).0))

-- ---- comparisons

sign_cmp : (c : Cmp) → Printed (rule.one terminal.comparator) (λ o. o) c soft (cmp_text c)
unfolding terminal.comparator
sign_cmp cmp.Eq = (_, Prints-spaced terminal.comparator (λ o. o) cmp.Eq kind.Symbol (codes "==") no_need refl (is_token-double 61 61 refl) (λ place. (cmp.Eq, refl, refl)))
sign_cmp cmp.Ne = (_, Prints-spaced terminal.comparator (λ o. o) cmp.Ne kind.Symbol (codes "!=") no_need refl (is_token-double 33 61 refl) (λ place. (cmp.Ne, refl, refl)))
sign_cmp cmp.Lt = (_, Prints-spaced terminal.comparator (λ o. o) cmp.Lt kind.Symbol (codes "<") soft refl (is_token-single 60 refl) (λ place. (cmp.Lt, refl, refl)))
sign_cmp cmp.Le = (_, Prints-spaced terminal.comparator (λ o. o) cmp.Le kind.Symbol (codes "<=") no_need refl (is_token-double 60 61 refl) (λ place. (cmp.Le, refl, refl)))
sign_cmp cmp.Gt = (_, Prints-spaced terminal.comparator (λ o. o) cmp.Gt kind.Symbol (codes ">") soft refl (is_token-single 62 refl) (λ place. (cmp.Gt, refl, refl)))
sign_cmp cmp.Ge = (_, Prints-spaced terminal.comparator (λ o. o) cmp.Ge kind.Symbol (codes ">=") no_need refl (is_token-double 62 61 refl) (λ place. (cmp.Ge, refl, refl)))

cmp_starts : (c : Cmp) (rest : Text) → hard (front (cmp_text c ++ rest)) ≡ true
cmp_starts cmp.Eq rest = refl
cmp_starts cmp.Ne rest = refl
cmp_starts cmp.Lt rest = refl
cmp_starts cmp.Le rest = refl
cmp_starts cmp.Gt rest = refl
cmp_starts cmp.Ge rest = refl

abbrev unplaced_other : Cmp × SynExpr → Cmp × SynExpr
unplaced_other found = (found.0, unplaced found.1)

abbrev see_sides : SynExpr × Option (Cmp × SynExpr) → SynExpr × Option (Cmp × SynExpr)
see_sides found = (unplaced found.0, option_map unplaced_other found.1)

none_some : (found : Cmp × SynExpr) → None ≡ Some found → ⊥
none_some found e = cc

comparison_law : (c : Cmp) (x y : SynExpr) (found : ℕ × (SynExpr × Option (Cmp × SynExpr))) → see_sides found.1 ≡ (unplaced x, Some (c, unplaced y))
    → unplaced (grammar.comparison_of found) ≡ expression 0 (Compare c (unplaced x) (unplaced y))
comparison_law c x y (place, (left, None)) e = absurd (none_some (c, unplaced y) (ap (λ z. z.1) e))
comparison_law c x y (place, (left, Some (d, right))) e =
    let one = ap (λ z. z.0) e in
    let other : (d, unplaced right) ≡ (c, unplaced y) = some_is (ap (λ z. z.1) e) in
    ap (expression 0) (unplaced-Compare d left right ∙ (λ i. Compare (other i).0 (one i) (other i).1)) where
      some_is : {A : Type 0} {a b : A} → Some a ≡ Some b → a ≡ b
      some_is h = cc

pub shown-Compare : (e : Rule SynExpr) (c : Cmp) (left right : SynNode) → Operands e left → Operands e right
    → Printed (grammar.comparison e) unplaced (expression 0 (Compare c (unplaced (expression 0 left)) (unplaced (expression 0 right)))) hard
    (enclosed 3 (level_of left) (node_text left) ++ (cmp_text c ++ enclosed 3 (level_of right) (node_text right)))
unfolding grammar.comparison
shown-Compare e c left right one other =
    let x = expression 0 left in
    let y = expression 0 right in
    let sign = sign_cmp c in
    let behind = next_shown terminal.comparator (λ d r. (d, r)) (grammar.sum e) unplaced_other c y (c, unplaced y) (cmp_text c) (enclosed 3 (level_of right) (node_text right)) sign.0 sign.1 other.sum (λ z is. λ i. (c, is i)) in
    let goal : SynExpr × Option (Cmp × SynExpr) = (unplaced x, Some (c, unplaced y)) in (
      one.sum.0 ++ behind.0,
      Prints-made (rule.placed (rule.◌>>=◌ (grammar.sum e)
          (λ a. rule.◌>>=◌ (rule.maybe (next terminal.comparator (λ d r. (d, r)) (grammar.sum e) unplaced_other)) (λ b. rule.pure (a, b)))))
          grammar.comparison_of (λ found. see_sides found.1) unplaced goal (expression 0 (Compare c (unplaced x) (unplaced y))) hard _ _
          (Prints-placed _ see_sides goal hard _ _
          (Prints-then (grammar.sum e) _ unplaced see_sides x (unplaced x) goal hard hard (enclosed 3 (level_of left) (node_text left)) _ one.sum.0
          behind.0 refl one.sum.1
          (λ a is. Prints-made (rule.maybe _) (λ b. (a, b)) (option_map unplaced_other) see_sides (Some (c, unplaced y)) goal hard _ behind.0
          (Prints-left _ _ (option_map unplaced_other) (Some (c, unplaced y)) hard _ behind.0
          (Prints-made _ Some unplaced_other (option_map unplaced_other) (c, unplaced y) (Some (c, unplaced y)) hard _ behind.0 behind.1
          (λ b same. ap Some same)))
          (λ b same. λ i. (is i, same i)))
          (λ rest may. subst (λ l. hard (front l) ≡ true) (sym (append_assoc (cmp_text c) (enclosed 3 (level_of right) (node_text right)) rest))
          (cmp_starts c (enclosed 3 (level_of right) (node_text right) ++ rest)))))
          (λ found same. comparison_law c x y found same),
    )

-- ---- `!` and `-`

sign_not : Prints (rule.one terminal.prefix_sign) (λ o. o) prefix.Not soft (codes "!") ((kind.Symbol, codes "!") ∷ [])
unfolding terminal.prefix_sign
sign_not = Prints-one terminal.prefix_sign (λ o. o) prefix.Not kind.Symbol (codes "!") soft soft_stays (is_token-single 33 refl) (λ rest may. refl) (λ place. (prefix.Not, refl, refl))

sign_neg : Prints (rule.one terminal.prefix_sign) (λ o. o) prefix.Neg soft (codes "-") ((kind.Symbol, codes "-") ∷ [])
unfolding terminal.prefix_sign
sign_neg = Prints-one terminal.prefix_sign (λ o. o) prefix.Neg kind.Symbol (codes "-") soft soft_stays (is_token-single 45 refl) (λ rest may. refl) (λ place. (prefix.Neg, refl, refl))

prefix_shown : (e : Rule SynExpr) (way : Prefix) (sign : Text) (marks : List Mark) (goal : SynNode) (node : SynNode)
    → Prints (rule.one terminal.prefix_sign) (λ o. o) way soft sign marks → Operands e node
    → ((y : SynExpr) → unplaced y ≡ unplaced (expression 0 node) → unplaced_node (grammar.prefixed way y) ≡ goal)
    → Printed (grammar.unary e) unplaced (expression 0 goal) hard (sign ++ enclosed 6 (level_of node) (node_text node))
unfolding grammar.unary
prefix_shown e way sign marks goal node p o so =
    let q = next_shown terminal.prefix_sign grammar.prefixed (grammar.primary e) unplaced_node way (expression 0 node) goal sign (enclosed 6 (level_of node) (node_text node)) marks p o.primary so in (
      q.0,
      Prints-left _ (grammar.primary e) unplaced (expression 0 goal) hard _ q.0
          (Prints-made _ grammar.at_first (λ found. unplaced_node found.1) unplaced goal (expression 0 goal) hard _ q.0
          (Prints-placed _ unplaced_node goal hard _ q.0 q.1) (λ found same. ap (expression 0) same)),
    )

pub shown-Not : (e : Rule SynExpr) (node : SynNode) → Operands e node → Printed (grammar.unary e) unplaced (expression 0 (Not (unplaced (expression 0 node)))) hard (codes "!" ++ enclosed 6 (level_of node) (node_text node))
shown-Not e node o = prefix_shown e prefix.Not (codes "!") _ (Not (unplaced (expression 0 node))) node sign_not o (λ y is. unplaced-Not y ∙ ap Not is)

pub shown-Neg : (e : Rule SynExpr) (node : SynNode) → Operands e node → Printed (grammar.unary e) unplaced (expression 0 (Neg (unplaced (expression 0 node)))) hard (codes "-" ++ enclosed 6 (level_of node) (node_text node))
shown-Neg e node o = prefix_shown e prefix.Neg (codes "-") _ (Neg (unplaced (expression 0 node))) node sign_neg o (λ y is. unplaced-Neg y ∙ ap Neg is)
