-- The tokens of printed chains, from those of their parts.
use Rattle.std.proofs.Common.{◌≡◌, ℕ, suc, Bool, true, false, cond, List, [], ◌∷◌, ◌++◌, map, refl, sym, ◌∙◌, ap, subst, append-nil, append_assoc}
use Rattle.std.specs.Prelude.{Option, nat_lt, codes, flat_map}
use Rattle.cep_token.specs.declared.token.TokenKind.TheVariants as kind
use Rattle.cep_reading.specs.Lexeme.{Lexeme}
use Rattle.cep_reading.specs.Terminal.{only, symbol}
use Rattle.cep_reading.specs.Rule.{Rule, InTurn}
use Rattle.cep_reading.specs.Rule as rule
use Rattle.cep_reading.specs.Reading.{place_of}
use Rattle.cep_expression.specs.declared.expr.SynExpr.{SynExpr}
use Rattle.cep_expression.specs.declared.expr.SynNode.{SynNode, Any, All, Row_of-SynExpr, end_of-SynExpr, more_of-SynExpr, Row_of-SynTerm, end_of-SynTerm, more_of-SynTerm, Row_of-SynFactor, end_of-SynFactor, more_of-SynFactor}
use Rattle.cep_expression.specs.Grammar as grammar
use Rattle.cep_expression.specs.Grammar.{expression, expression_within}
use Rattle.cep_syntax.specs.WellFormed.{is_chain, formed_parts}
use Rattle.cep_print.specs.Literal.{Text}
use Rattle.cep_print.specs.Expression.{level_of, in_parentheses, enclosed, chained, node_text, part_texts}
use Rattle.cep_print.specs.Same.{unplaced_parts, unplaced}
use Rattle.cep_print.proofs.SameLaws.{unplaced-Any, unplaced-All}
use Rattle.cep_print.proofs.Scanned.{front, soft, hard, no_need, hard_is_soft, Mark, scanned-append}
use Rattle.cep_print.proofs.Marks.{is_token-double}
use Rattle.cep_print.proofs.Prints.{Prints, Printed, split, Prints-then, Prints-made, Prints-spaced, Prints-no_more, Prints-more, softly}
use Rattle.cep_print.proofs.PrintedChains.{Shown, Tiers, to_unary, to_product, to_sum, to_comparison, to_all, in_primary}

-- ---- operands

-- the rules above each level accept the text of an operand there
pub record Operands (e : Rule SynExpr) (node : SynNode) : Type 0 where
  pub all : Shown (grammar.all e) (expression 0 node) (enclosed 1 (level_of node) (node_text node))
  pub comparison : Shown (grammar.comparison e) (expression 0 node) (enclosed 2 (level_of node) (node_text node))
  pub sum : Shown (grammar.sum e) (expression 0 node) (enclosed 3 (level_of node) (node_text node))
  pub product : Shown (grammar.product e) (expression 0 node) (enclosed 4 (level_of node) (node_text node))
  pub unary : Shown (grammar.unary e) (expression 0 node) (enclosed 5 (level_of node) (node_text node))
  pub primary : Shown (grammar.primary e) (expression 0 node) (enclosed 6 (level_of node) (node_text node))

either_way : (r : Rule SynExpr) (x : SynExpr) (z : Text) (b : Bool) → (b ≡ true → Shown r x z) → Shown r x (in_parentheses z)
    → Shown r x (cond b z (in_parentheses z))
either_way r x z true bare boxed = bare refl
either_way r x z false bare boxed = boxed

pub operands : (m : ℕ) (node : SynNode) → Tiers (expression_within (suc m)) (expression 0 node) (node_text node) (level_of node)
    → Tiers (expression_within m) (expression 0 node) (node_text node) (level_of node) → Operands (expression_within (suc m)) node
unfolding expression_within
operands m node upper lower =
    let e = expression_within (suc m) in
    let x = expression 0 node in
    let z = node_text node in
    let w = in_parentheses z in
    let p = in_primary e x z lower.any in
    let u = to_unary e x w p in
    let r = to_product e x w u in
    let s = to_sum e x w r in
    let c = to_comparison e x w s in
    let a = to_all e x w c in
    record {
      all = either_way (grammar.all e) x z (nat_lt 1 (level_of node)) upper.all a;
      comparison = either_way (grammar.comparison e) x z (nat_lt 2 (level_of node)) upper.comparison c;
      sum = either_way (grammar.sum e) x z (nat_lt 3 (level_of node)) upper.sum s;
      product = either_way (grammar.product e) x z (nat_lt 4 (level_of node)) upper.product r;
      unary = either_way (grammar.unary e) x z (nat_lt 5 (level_of node)) upper.unary u;
      primary = either_way (grammar.primary e) x z (nat_lt 6 (level_of node)) upper.primary p;
    }

-- ---- chains

module _ {O T V : Type 0} (signs : Lexeme → Option O) (made : O → SynExpr → T) (operand : Rule SynExpr) (see : T → V) where
  -- a sign and an operand
  abbrev pub next : Rule T
  next = rule.◌>>=◌ (rule.one signs) (λ sign. rule.◌>>=◌ operand (λ e. rule.pure (made sign e)))

  pub next_shown : (sign : O) (x : SynExpr) (goal : V) (sz z : Text) (sm : List Mark) → Prints (rule.one signs) (λ o. o) sign soft sz sm → Shown operand x z
      → ((y : SynExpr) → unplaced y ≡ unplaced x → see (made sign y) ≡ goal) → Printed next see goal hard (sz ++ z)
  next_shown sign x goal sz z sm p (marks, q) so = (
    sm ++ marks,
    Prints-then (rule.one signs) _ (λ o. o) see sign sign goal soft hard sz z sm marks refl p
        (λ o same. Prints-made operand (made o) unplaced see (unplaced x) goal hard z marks q (λ y is. ap (λ h. see (made h y)) same ∙ so y is))
        (softly operand unplaced (unplaced x) hard z marks q),
  )

  pub chain_more : (of : ℕ × (SynExpr × List T) → SynExpr) (x goal : SynExpr) (targets : List V) (z w : Text) → Shown operand x z
      → Printed (rule.many next) (map see) targets hard w
      → ((rest : Text) → hard (front rest) ≡ true → hard (front (w ++ rest)) ≡ true)
      → ((place : ℕ) (y : SynExpr) (ys : List T) → unplaced y ≡ unplaced x → map see ys ≡ targets → unplaced (of (place, (y, ys))) ≡ goal)
      → Printed (rule.◌>>=◌ (grammar.chain signs made operand) (λ found. rule.pure (of found))) unplaced goal hard (z ++ w)
  chain_more of x goal targets z w (marks, p) (others, q) so law = (
    marks ++ others,
    record {
      weak = p.weak;
      scan = scanned-append hard hard z w marks others p.scan q.scan so;
      begins = λ rest may. subst (λ l. soft (front l) ≡ true) (sym (append_assoc z w rest)) (p.begins (w ++ rest) (q.begins rest may));
      means = λ used e.
          let parts = split used marks others e in
          let a = p.means parts.front parts.first in
          let b = q.means parts.back parts.second in (
            of (place_of used, (a.0, b.0)),
            record {
              front = used;
              back = [];
              value = (place_of used, (a.0, b.0));
              is = sym (append-nil used);
              first = (
                record {
                  front = parts.front;
                  back = parts.back;
                  value = a.0;
                  is = parts.is;
                  first = a.1;
                  second =
                      record { front = parts.back; back = []; value = b.0; is = sym (append-nil parts.back); first = b.1; second = (refl, refl) };
                },
                refl,
              );
              second = (refl, refl);
            },
            law (place_of used) a.0 b.0 a.2 b.2,
          );
    },
  )

-- the rest of a chain: its tokens, and that no word before it goes on
pub record Rest {T V : Type 0} (r : Rule T) (see : T → V) (targets : List V) (w : Text) : Type 0 where
  pub found : Printed (rule.many r) (map see) targets hard w
  pub begins : (rest : Text) → hard (front rest) ≡ true → hard (front (w ++ rest)) ≡ true

pub rest_none : {T V : Type 0} (r : Rule T) (see : T → V) → Rest r see [] []
rest_none r see = record { found = ([], Prints-no_more r see hard hard_is_soft); begins = λ rest may. may }

pub rest_more : {T V : Type 0} (r : Rule T) (see : T → V) (target : V) (targets : List V) (sign z w : Text)
    → ((rest : Text) → hard (front (sign ++ rest)) ≡ true) → Printed r see target hard (sign ++ z) → Rest r see targets w
    → Rest r see (target ∷ targets) ((sign ++ z) ++ w)
rest_more r see target targets sign z w starts (marks, p) later = record {
  found = (_, Prints-more r see target targets hard hard (sign ++ z) w marks later.found.0 p later.found.1 later.begins);
  begins = λ rest may. subst (λ l. hard (front l) ≡ true) (sym (append_assoc (sign ++ z) w rest ∙ append_assoc sign z (w ++ rest))) (starts (z ++ (w ++ rest)));
}

-- ---- rows

abbrev pub EachPart : {n : _} → (SynNode → Type 0) → Row_of-SynExpr n → Type 0
EachPart P end_of-SynExpr = Unit {0}
EachPart P (more_of-SynExpr place node row) = P node × EachPart P row

abbrev pub EachTerm : {n : _} → (SynNode → Type 0) → Row_of-SynTerm n → Type 0
EachTerm P end_of-SynTerm = Unit {0}
EachTerm P (more_of-SynTerm minus place node row) = P node × EachTerm P row

abbrev pub EachFactor : {n : _} → (SynNode → Type 0) → Row_of-SynFactor n → Type 0
EachFactor P end_of-SynFactor = Unit {0}
EachFactor P (more_of-SynFactor way place node row) = P node × EachFactor P row

abbrev with_sign : Text × Text → Text
with_sign part = part.0 ++ part.1

rest_parts : {n : _} (e : Rule SynExpr) (r : Rule SynExpr) (between : Text) (around : ℕ) → ((rest : Text) → hard (front (between ++ rest)) ≡ true)
    → ((node : SynNode) → Operands e node
    → Printed r unplaced (unplaced (expression 0 node)) hard (between ++ enclosed around (level_of node) (node_text node)))
    → (row : Row_of-SynExpr n) → EachPart (Operands e) row → Rest r unplaced (unplaced_parts row) (flat_map with_sign (part_texts between around row))
rest_parts e r between around starts pick end_of-SynExpr each = rest_none r unplaced
rest_parts e r between around starts pick (more_of-SynExpr place node row) each =
    rest_more r unplaced (unplaced (expression 0 node)) (unplaced_parts row) between (enclosed around (level_of node) (node_text node))
    (flat_map with_sign (part_texts between around row)) starts (pick node each.0) (rest_parts e r between around starts pick row each.1)

-- ---- `||` and `&&`

sign_or : Prints (rule.one (only (symbol (codes "||")))) (λ o. o) tt soft (codes " || ") ((kind.Symbol, codes "||") ∷ [])
sign_or = Prints-spaced (only (symbol (codes "||"))) (λ o. o) tt kind.Symbol (codes "||") no_need refl (is_token-double 124 124 refl) (λ place. (tt, refl, refl))

sign_and : Prints (rule.one (only (symbol (codes "&&")))) (λ o. o) tt soft (codes " && ") ((kind.Symbol, codes "&&") ∷ [])
sign_and = Prints-spaced (only (symbol (codes "&&"))) (λ o. o) tt kind.Symbol (codes "&&") no_need refl (is_token-double 38 38 refl) (λ place. (tt, refl, refl))

any_law : (x : SynExpr) (second : SynExpr) (targets : List SynExpr) (place : ℕ) (y : SynExpr) (ys : List SynExpr) → unplaced y ≡ unplaced x
    → map unplaced ys ≡ second ∷ targets
    → unplaced (grammar.any_of (place, (y, ys))) ≡ expression 0 (Any (unplaced x ∷ second ∷ targets))
any_law x second targets place y [] is same = cc
any_law x second targets place y (s ∷ ys) is same = ap (expression 0) (unplaced-Any (y ∷ s ∷ ys) ∙ ap Any (λ i. is i ∷ same i))

all_law : (x : SynExpr) (second : SynExpr) (targets : List SynExpr) (place : ℕ) (y : SynExpr) (ys : List SynExpr) → unplaced y ≡ unplaced x
    → map unplaced ys ≡ second ∷ targets
    → unplaced (grammar.all_of (place, (y, ys))) ≡ expression 0 (All (unplaced x ∷ second ∷ targets))
all_law x second targets place y [] is same = cc
all_law x second targets place y (s ∷ ys) is same = ap (expression 0) (unplaced-All (y ∷ s ∷ ys) ∙ ap All (λ i. is i ∷ same i))

pub shown-Any : {n : _} (e : Rule SynExpr) (row : Row_of-SynExpr n) → is_chain (formed_parts row) ≡ true → EachPart (Operands e) row → Printed (grammar.any e) unplaced (expression 0 (Any (unplaced_parts row))) hard (chained (part_texts (codes " || ") 1 row))
unfolding grammar.any
shown-Any e end_of-SynExpr formed each = cc
shown-Any e (more_of-SynExpr place node end_of-SynExpr) formed each = cc
shown-Any e (more_of-SynExpr place node (more_of-SynExpr other second row)) formed each =
    let signs = only (symbol (codes "||")) in
    let rest = rest_parts e (next signs grammar.part (grammar.all e) unplaced) (codes " || ") 1 (λ rest. refl)
    (λ part o. next_shown signs grammar.part (grammar.all e) unplaced tt (expression 0 part) (unplaced (expression 0 part)) (codes " || ") _ _ sign_or o.all (λ y is. is)) (more_of-SynExpr other second row) each.1 in
    chain_more signs grammar.part (grammar.all e) unplaced grammar.any_of (expression 0 node) _ _ _ _ each.0.all rest.found rest.begins
    (any_law (expression 0 node) (unplaced (expression 0 second)) (unplaced_parts row))

pub shown-All : {n : _} (e : Rule SynExpr) (row : Row_of-SynExpr n) → is_chain (formed_parts row) ≡ true → EachPart (Operands e) row → Printed (grammar.all e) unplaced (expression 0 (All (unplaced_parts row))) hard (chained (part_texts (codes " && ") 2 row))
unfolding grammar.all
shown-All e end_of-SynExpr formed each = cc
shown-All e (more_of-SynExpr place node end_of-SynExpr) formed each = cc
shown-All e (more_of-SynExpr place node (more_of-SynExpr other second row)) formed each =
    let signs = only (symbol (codes "&&")) in
    let rest = rest_parts e (next signs grammar.part (grammar.comparison e) unplaced) (codes " && ") 2 (λ rest. refl)
    (λ part o. next_shown signs grammar.part (grammar.comparison e) unplaced tt (expression 0 part) (unplaced (expression 0 part)) (codes " && ") _ _ sign_and o.comparison (λ y is. is)) (more_of-SynExpr other second row) each.1 in
    chain_more signs grammar.part (grammar.comparison e) unplaced grammar.all_of (expression 0 node) _ _ _ _ each.0.comparison rest.found rest.begins
    (all_law (expression 0 node) (unplaced (expression 0 second)) (unplaced_parts row))
