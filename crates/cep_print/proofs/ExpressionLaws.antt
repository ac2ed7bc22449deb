-- The text of an expression with parts, from the texts of its parts: what a proof about code that matches on an expression needs.
use Rattle.std.proofs.Common.{◌≡◌, ℕ, refl, ap, ◌∙◌, sym, append-nil, append_assoc, List, [], ◌∷◌, ◌++◌, map}
use Rattle.std.specs.Prelude.{codes}
use Rattle.cep_expression.specs.declared.expr.Cmp.{Cmp}
use Rattle.cep_expression.specs.declared.expr.SynExpr.{SynExpr}
use Rattle.cep_expression.specs.declared.expr.SynTerm.{SynTerm}
use Rattle.cep_expression.specs.declared.expr.SynFactor.{SynFactor}
use Rattle.cep_expression.specs.declared.expr.SynNode.{SynNode, Any, All, Compare, Add, Mul, Not, Neg, Row_of-SynExpr, end_of-SynExpr, more_of-SynExpr, Row_of-SynTerm, end_of-SynTerm, more_of-SynTerm, Row_of-SynFactor, end_of-SynFactor, more_of-SynFactor, items-the_row-SynExpr, items-the_row-SynTerm, items-the_row-SynFactor, items_hidden-the_row-SynExpr-0, items_hidden-the_row-SynTerm-2, items_hidden-the_row-SynFactor-3}
use Rattle.cep_expression.specs.declared.expr.SynNode.TheBlock.{hidden-the_row-SynExpr-0, hidden-the_row-SynExpr-1, hidden-the_row-SynTerm-2, hidden-the_row-SynFactor-3}
use Rattle.cep_print.specs.Literal.{Text}
use Rattle.cep_print.specs.Expression.{cmp_text, term_sign, factor_sign, chained, node_text, part_texts, term_texts, factor_texts, operand_text, part_of, term_of, factor_of}

parts-items : {n : _} (between : Text) (around : ℕ) (row : Row_of-SynExpr n)
    → part_texts between around row ≡ map (part_of between around) (items-the_row-SynExpr n row)
parts-items between around end_of-SynExpr = refl
parts-items between around (more_of-SynExpr place node row) =
    ap (λ later. part_of between around (record { place = place; node = node }) ∷ later) (parts-items between around row)

terms-items : {n : _} (row : Row_of-SynTerm n) → term_texts row ≡ map term_of (items-the_row-SynTerm n row)
terms-items end_of-SynTerm = refl
terms-items (more_of-SynTerm minus place node row) =
    ap (λ later. (term_sign minus, operand_text 4 (record { place = place; node = node })) ∷ later) (terms-items row)

factors-items : {n : _} (row : Row_of-SynFactor n) → factor_texts row ≡ map factor_of (items-the_row-SynFactor n row)
factors-items end_of-SynFactor = refl
factors-items (more_of-SynFactor way place node row) =
    ap (λ later. (factor_sign way, operand_text 5 (record { place = place; node = node })) ∷ later) (factors-items row)

parts-hidden : (between : Text) (around : ℕ) (parts : List SynExpr)
    → part_texts between around (hidden-the_row-SynExpr-0 parts) ≡ map (part_of between around) parts
parts-hidden between around parts = parts-items between around (hidden-the_row-SynExpr-0 parts)
    ∙ ap (map (part_of between around)) (items_hidden-the_row-SynExpr-0 parts)

-- each law is over equations, as where the code takes an expression apart
pub text-Any : (n : SynNode) (parts slice : List SynExpr) → n ≡ Any parts → slice ≡ parts → chained (map (part_of (codes " || ") 1) slice) ≡ node_text n
text-Any n parts slice is same = ap (λ xs. chained (map (part_of (codes " || ") 1) xs)) same ∙ sym (ap node_text is ∙ ap chained (parts-hidden (codes " || ") 1 parts))

pub text-All : (n : SynNode) (parts slice : List SynExpr) → n ≡ All parts → slice ≡ parts → chained (map (part_of (codes " && ") 2) slice) ≡ node_text n
text-All n parts slice is same = ap (λ xs. chained (map (part_of (codes " && ") 2) xs)) same ∙ sym (ap node_text is ∙ ap chained (parts-hidden (codes " && ") 2 parts))

pub text-Add : (n : SynNode) (terms slice : List SynTerm) → n ≡ Add terms → slice ≡ terms → chained (map term_of slice) ≡ node_text n
text-Add n terms slice is same = ap (λ xs. chained (map term_of xs)) same
    ∙ sym (ap node_text is ∙ ap chained (terms-items (hidden-the_row-SynTerm-2 terms) ∙ ap (map term_of) (items_hidden-the_row-SynTerm-2 terms)))

pub text-Mul : (n : SynNode) (factors slice : List SynFactor) → n ≡ Mul factors → slice ≡ factors → chained (map factor_of slice) ≡ node_text n
text-Mul n factors slice is same = ap (λ xs. chained (map factor_of xs)) same
    ∙ sym (ap node_text is
    ∙ ap chained (factors-items (hidden-the_row-SynFactor-3 factors) ∙ ap (map factor_of) (items_hidden-the_row-SynFactor-3 factors)))

node_text-Compare : (c : Cmp) (x y : SynExpr) → node_text (Compare c x y) ≡ (operand_text 3 x ++ []) ++ (cmp_text c ++ (operand_text 3 y ++ []))
unfolding hidden-the_row-SynExpr-1 denote.Hole.Carrier.hidden
node_text-Compare c x y = refl

node_text-Not : (x : SynExpr) → node_text (Not x) ≡ codes "!" ++ (operand_text 6 x ++ [])
unfolding hidden-the_row-SynExpr-1 denote.Hole.Carrier.hidden
node_text-Not x = refl

node_text-Neg : (x : SynExpr) → node_text (Neg x) ≡ codes "-" ++ (operand_text 6 x ++ [])
unfolding hidden-the_row-SynExpr-1 denote.Hole.Carrier.hidden
node_text-Neg x = refl

pub text-Compare : (n : SynNode) (c : Cmp) (x y z w : SynExpr) → n ≡ Compare c x y → z ≡ x → w ≡ y
    → operand_text 3 z ++ (cmp_text c ++ operand_text 3 w) ≡ node_text n
text-Compare n c x y z w is left right =
    (λ i. operand_text 3 (left i) ++ (cmp_text c ++ operand_text 3 (right i)))
    ∙ sym (ap node_text is ∙ node_text-Compare c x y ∙ (λ i. append-nil (operand_text 3 x) i ++ (cmp_text c ++ append-nil (operand_text 3 y) i)))

pub text-Not : (n : SynNode) (x z : SynExpr) → n ≡ Not x → z ≡ x → codes "!" ++ operand_text 6 z ≡ node_text n
text-Not n x z is same = ap (λ e. codes "!" ++ operand_text 6 e) same ∙ sym (ap node_text is ∙ node_text-Not x ∙ ap (λ l. codes "!" ++ l) (append-nil (operand_text 6 x)))

pub text-Neg : (n : SynNode) (x z : SynExpr) → n ≡ Neg x → z ≡ x → codes "-" ++ operand_text 6 z ≡ node_text n
text-Neg n x z is same = ap (λ e. codes "-" ++ operand_text 6 e) same ∙ sym (ap node_text is ∙ node_text-Neg x ∙ ap (λ l. codes "-" ++ l) (append-nil (operand_text 6 x)))

-- ---- what was added one after the other

pub behind_one : (old out first last all : Text) → out ≡ old ++ first → first ++ last ≡ all → out ++ last ≡ old ++ all
behind_one old out first last all add law = ap (λ l. l ++ last) add ∙ append_assoc old first last ∙ ap (λ l. old ++ l) law

pub behind_two : (old one two first sign added last all : Text) → one ≡ old ++ first → two ≡ one ++ added → added ≡ sign
    → first ++ (sign ++ last) ≡ all → two ++ last ≡ old ++ all
behind_two old one two first sign added last all add add_sign so law =
    ap (λ l. l ++ last) (add_sign ∙ (λ i. add i ++ so i))
    ∙ append_assoc (old ++ first) sign last ∙ append_assoc old first (sign ++ last) ∙ ap (λ l. old ++ l) law
