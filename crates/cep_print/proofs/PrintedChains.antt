-- What a printed expression is at each level of the grammar, and the tokens of printed chains.
use Rattle.std.proofs.Common.{◌≡◌, ℕ, true, inr, List, [], ◌∷◌, ◌++◌, refl, sym, ◌∙◌, ap, append-nil}
use Rattle.std.specs.Prelude.{Option, None, nat_lt}
use Rattle.cep_reading.specs.Lexeme.{Lexeme}
use Rattle.cep_reading.specs.Rule.{Rule, InTurn}
use Rattle.cep_reading.specs.Rule as rule
use Rattle.cep_reading.specs.Reading.{place_of}
use Rattle.cep_expression.specs.declared.expr.SynExpr.{SynExpr}
use Rattle.cep_expression.specs.declared.expr.SynNode.{SynNode}
use Rattle.cep_expression.specs.Terminal.{factor_sign, term_sign}
use Rattle.cep_expression.specs.Grammar as grammar
use Rattle.cep_expression.specs.Grammar.{expression_within}
use Rattle.cep_print.specs.Literal.{Text}
use Rattle.cep_print.specs.Expression.{in_parentheses}
use Rattle.cep_print.specs.Same.{unplaced_node, unplaced}
use Rattle.cep_print.proofs.Scanned.{soft, hard}
use Rattle.cep_print.proofs.Prints.{Printed, Prints-then, Prints-made, Prints-right, Prints-left, Prints-placed, harder, sign_then, sign_last}
use Rattle.cep_print.proofs.PrintedLeaves.{leaf, ShownLeaf}

-- the rule accepts the text for this expression, whatever its places are
abbrev pub Shown : Rule SynExpr → SynExpr → Text → Type 0
Shown r x z = Printed r unplaced (unplaced x) hard z

-- ---- one operand alone

module _ (operand : Rule SynExpr) (x : SynExpr) (z : Text) where
  pub chain_one : {O T : Type 0} (signs : Lexeme → Option O) (made : O → SynExpr → T) (of : ℕ × (SynExpr × List T) → SynExpr)
      → ((place : ℕ) (e : SynExpr) → of (place, (e, [])) ≡ e)
      → Shown operand x z → Shown (rule.◌>>=◌ (grammar.chain signs made operand) (λ found. rule.pure (of found))) x z
  chain_one {O} {T} signs made of law (marks, p) = (
    marks,
    record {
      weak = p.weak;
      scan = p.scan;
      begins = p.begins;
      means = λ used e.
          let a = p.means used e in (
            of (place_of used, (a.0, [])),
            record {
              front = used;
              back = [];
              value = (place_of used, (a.0, []));
              is = sym (append-nil used);
              first = (
                record {
                  front = used;
                  back = [];
                  value = a.0;
                  is = sym (append-nil used);
                  first = a.1;
                  second =
                      record { front = []; back = []; value = []; is = refl; first = refl; second = (refl, refl) };
                },
                refl,
              );
              second = (refl, refl);
            },
            ap unplaced (law (place_of used) a.0) ∙ a.2,
          );
    },
  )

  pub comparison_one : {C : Type 0} (other : Rule C) (of : ℕ × (SynExpr × Option C) → SynExpr) → ((place : ℕ) (e : SynExpr) → of (place, (e, None)) ≡ e)
      → Shown operand x z
      → Shown (rule.◌>>=◌ (rule.placed (rule.◌>>=◌ operand (λ left. rule.◌>>=◌ (rule.maybe other) (λ more. rule.pure (left, more)))))
      (λ found. rule.pure (of found))) x z
  comparison_one {C} other of law (marks, p) = (
    marks,
    record {
      weak = p.weak;
      scan = p.scan;
      begins = p.begins;
      means = λ used e.
          let a = p.means used e in (
            of (place_of used, (a.0, None)),
            record {
              front = used;
              back = [];
              value = (place_of used, (a.0, None));
              is = sym (append-nil used);
              first = (
                record {
                  front = used;
                  back = [];
                  value = a.0;
                  is = sym (append-nil used);
                  first = a.1;
                  second =
                      record { front = []; back = []; value = None; is = refl; first = inr (refl, refl); second = (refl, refl) };
                },
                refl,
              );
              second = (refl, refl);
            },
            ap unplaced (law (place_of used) a.0) ∙ a.2,
          );
    },
  )

-- ---- levels

module _ (e : Rule SynExpr) (x : SynExpr) (z : Text) where
  -- the rules of this level and of those below accept the text
  pub record Tiers (level : ℕ) : Type 0 where
    pub any : Shown (grammar.any e) x z
    pub all : nat_lt 1 level ≡ true → Shown (grammar.all e) x z
    pub comparison : nat_lt 2 level ≡ true → Shown (grammar.comparison e) x z
    pub sum : nat_lt 3 level ≡ true → Shown (grammar.sum e) x z
    pub product : nat_lt 4 level ≡ true → Shown (grammar.product e) x z
    pub unary : nat_lt 5 level ≡ true → Shown (grammar.unary e) x z
    pub primary : nat_lt 6 level ≡ true → Shown (grammar.primary e) x z

  pub to_unary : Shown (grammar.primary e) x z → Shown (grammar.unary e) x z
  unfolding grammar.unary
  to_unary (marks, p) = (marks, Prints-right _ (grammar.primary e) unplaced (unplaced x) hard z marks p)

  pub to_product : Shown (grammar.unary e) x z → Shown (grammar.product e) x z
  unfolding grammar.product
  to_product p = chain_one (grammar.unary e) x z factor_sign grammar.factor grammar.product_of (λ place f. refl) p

  pub to_sum : Shown (grammar.product e) x z → Shown (grammar.sum e) x z
  unfolding grammar.sum
  to_sum p = chain_one (grammar.product e) x z term_sign grammar.term grammar.sum_of (λ place f. refl) p

  pub to_comparison : Shown (grammar.sum e) x z → Shown (grammar.comparison e) x z
  unfolding grammar.comparison
  to_comparison p = comparison_one (grammar.sum e) x z _ grammar.comparison_of (λ place f. refl) p

  pub to_all : Shown (grammar.comparison e) x z → Shown (grammar.all e) x z
  unfolding grammar.all
  to_all p = chain_one (grammar.comparison e) x z _ grammar.part grammar.all_of (λ place f. refl) p

  pub to_any : Shown (grammar.all e) x z → Shown (grammar.any e) x z
  unfolding grammar.any
  to_any p = chain_one (grammar.all e) x z _ grammar.part grammar.any_of (λ place f. refl) p

  pub tiers-any : Shown (grammar.any e) x z → Tiers 1
  tiers-any p = record { any = p; all = λ h. cc; comparison = λ h. cc; sum = λ h. cc; product = λ h. cc; unary = λ h. cc; primary = λ h. cc }

  pub tiers-all : Shown (grammar.all e) x z → Tiers 2
  tiers-all p = record { any = to_any p; all = λ h. p; comparison = λ h. cc; sum = λ h. cc; product = λ h. cc; unary = λ h. cc; primary = λ h. cc }

  pub tiers-comparison : Shown (grammar.comparison e) x z → Tiers 3
  tiers-comparison p = let a = to_all p in
      record { any = to_any a; all = λ h. a; comparison = λ h. p; sum = λ h. cc; product = λ h. cc; unary = λ h. cc; primary = λ h. cc }

  pub tiers-sum : Shown (grammar.sum e) x z → Tiers 4
  tiers-sum p = let c = to_comparison p in let a = to_all c in
      record { any = to_any a; all = λ h. a; comparison = λ h. c; sum = λ h. p; product = λ h. cc; unary = λ h. cc; primary = λ h. cc }

  pub tiers-product : Shown (grammar.product e) x z → Tiers 5
  tiers-product p = let s = to_sum p in let c = to_comparison s in let a = to_all c in
      record { any = to_any a; all = λ h. a; comparison = λ h. c; sum = λ h. s; product = λ h. p; unary = λ h. cc; primary = λ h. cc }

  pub tiers-unary : Shown (grammar.unary e) x z → Tiers 6
  tiers-unary p =
      let r = to_product p in let s = to_sum r in let c = to_comparison s in let a = to_all c in
      record { any = to_any a; all = λ h. a; comparison = λ h. c; sum = λ h. s; product = λ h. r; unary = λ h. p; primary = λ h. cc }

  pub tiers-primary : Shown (grammar.primary e) x z → Tiers 7
  tiers-primary p =
      let u = to_unary p in let r = to_product u in let s = to_sum r in let c = to_comparison s in let a = to_all c in
      record { any = to_any a; all = λ h. a; comparison = λ h. c; sum = λ h. s; product = λ h. r; unary = λ h. u; primary = λ h. p }

-- in parentheses it is a primary
pub in_primary : (e : Rule SynExpr) (x : SynExpr) (z : Text) → Shown e x z → Shown (grammar.primary e) x (in_parentheses z)
unfolding grammar.primary
in_primary e x z (marks, p) = (
  _,
  Prints-left (grammar.in_parentheses e) _ unplaced (unplaced x) hard (in_parentheses z) _
      (harder (grammar.in_parentheses e) unplaced (unplaced x) (in_parentheses z) _
      (sign_then 40 _ unplaced (unplaced x) soft (z ++ 41 ∷ []) _ refl refl
      (Prints-then e _ unplaced unplaced x (unplaced x) (unplaced x) hard soft z (41 ∷ []) marks _ refl p
      (λ y same. sign_last 41 y unplaced (unplaced x) refl refl same) (λ rest may. refl)))),
)

-- a leaf is a primary
pub leaf_primary : (e : Rule SynExpr) (node : SynNode) (z : Text) → ShownLeaf node z → Shown (grammar.primary e) (grammar.expression 0 node) z
unfolding grammar.primary
leaf_primary e node z (marks, p) = (
  marks,
  Prints-right (grammar.in_parentheses e) _ unplaced (grammar.expression 0 (unplaced_node node)) hard z marks
      (Prints-made (rule.placed leaf) grammar.at_first (λ found. unplaced_node found.1) unplaced (unplaced_node node)
      (grammar.expression 0 (unplaced_node node)) hard z marks
      (Prints-placed leaf unplaced_node (unplaced_node node) hard z marks p) (λ y same. ap (grammar.expression 0) same)),
)
