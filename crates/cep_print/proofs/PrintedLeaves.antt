-- The tokens of printed operands without parts, and what a printed operand is at each level.
use Rattle.std.proofs.Common.{◌≡◌, ℕ, ◌≤◌, Bool, true, false, not, ◌&&◌, cond, List, [], ◌∷◌, ◌++◌, refl, sym, ap, subst, arith}
use Rattle.std.specs.Prelude.{Some, codes, decimal}
use Rattle.std.specs.Str.{bytes_eq}
use Rattle.std.proofs.lemmas.Bool.Decides.{nat_tests}
use Rattle.cep_token.specs.declared.token.TokenKind.TheVariants as kind
use Rattle.cep_token.specs.declared.token.TheConstants.{GREATEST_NUMBER}
use Rattle.cep_token.specs.Form.{is_word}
use Rattle.cep_reading.specs.declared.name.Name.{Name}
use Rattle.cep_reading.specs.Terminal.{any_word, stage_name, is_name}
use Rattle.cep_reading.specs.Rule.{Rule, InTurn}
use Rattle.cep_reading.specs.Rule as rule
use Rattle.cep_expression.specs.declared.aggregate.Call.{Call}
use Rattle.cep_expression.specs.declared.aggregate.Call.TheVariants.{Count as CountOf, Edge, Total}
use Rattle.cep_expression.specs.declared.expr.Agg.{Agg}
use Rattle.cep_expression.specs.declared.expr.Agg.TheVariants as agg
use Rattle.cep_expression.specs.declared.expr.SynNode.{SynNode, Int, Text as Literal, Bool as Truth, Field, Count, Of}
use Rattle.cep_expression.specs.Terminal.{constant, plain, call}
use Rattle.cep_expression.specs.Grammar as grammar
use Rattle.cep_syntax.specs.WellFormed.{is_field, is_number}
use Rattle.cep_print.specs.Literal.{Text, literal}
use Rattle.cep_print.specs.Expression.{truth_text, count_text, aggregate_text}
use Rattle.cep_print.specs.Same.{unplaced_name, unplaced_node}
use Rattle.cep_print.proofs.Scanned.{front, soft, hard, and_parts, hard_is_soft, Mark}
use Rattle.cep_print.proofs.Marks.{is_token-word, word_begins, is_token-literal, content_of-literal, is_token-number, number_begins, value_of-decimal}
use Rattle.cep_print.proofs.Prints.{Prints, Printed, Prints-then, Prints-made, Prints-left, Prints-right, Prints-one, harder, softer, soft_stays, sign_then, sign_last, Prints-any_word, Prints-stage_name}

-- ---- leaves

abbrev pub leaf : Rule SynNode
leaf = rule.◌or◌ (rule.◌or◌ (rule.one plain) grammar.aggregate) (rule.one constant)

-- the node, whatever its places are
abbrev pub ShownLeaf : SynNode → Text → Type 0
ShownLeaf node z = Printed leaf unplaced_node (unplaced_node node) hard z

by_constant : (node : SynNode) (z : Text) (marks : List Mark) → Prints (rule.one constant) unplaced_node (unplaced_node node) hard z marks → ShownLeaf node z
by_constant node z marks p =
    (marks, Prints-right (rule.◌or◌ (rule.one plain) grammar.aggregate) (rule.one constant) unplaced_node (unplaced_node node) hard z marks p)

by_plain : (node : SynNode) (z : Text) (marks : List Mark) → Prints (rule.one plain) unplaced_node (unplaced_node node) hard z marks → ShownLeaf node z
by_plain node z marks p = (
  marks,
  Prints-left (rule.◌or◌ (rule.one plain) grammar.aggregate) (rule.one constant) unplaced_node (unplaced_node node) hard z marks
      (Prints-left (rule.one plain) grammar.aggregate unplaced_node (unplaced_node node) hard z marks p),
)

by_aggregate : (node : SynNode) (z : Text) (marks : List Mark) → Prints grammar.aggregate unplaced_node (unplaced_node node) hard z marks → ShownLeaf node z
by_aggregate node z marks p = (
  marks,
  Prints-left (rule.◌or◌ (rule.one plain) grammar.aggregate) (rule.one constant) unplaced_node (unplaced_node node) hard z marks
      (Prints-right (rule.one plain) grammar.aggregate unplaced_node (unplaced_node node) hard z marks p),
)

at_most_greatest : (n : ℕ) → is_number n ≡ true → n ≤ GREATEST_NUMBER
at_most_greatest n e = grind (arith, nat_tests)

pub leaf-Int : (n : ℕ) → is_number n ≡ true → ShownLeaf (Int n) (decimal n)
unfolding constant
leaf-Int n e =
    let le = at_most_greatest n e in
    by_constant (Int n) (decimal n) _ (Prints-one constant unplaced_node (Int n) kind.Number (decimal n) hard hard_is_soft (is_token-number n le)
    (λ rest may. number_begins n rest le)
    (λ place. (Int n, ap (λ v. Some (Int v)) (value_of-decimal n le), refl)))

pub leaf-Literal : (z : Text) → ShownLeaf (Literal z) (literal z)
unfolding constant
leaf-Literal z =
    by_constant (Literal z) (literal z) _ (harder (rule.one constant) unplaced_node (Literal z) (literal z) _
    (Prints-one constant unplaced_node (Literal z) kind.Literal (literal z) soft soft_stays (softer (literal z) (is_token-literal z))
    (λ rest may. refl)
    (λ place. (Literal z, ap (λ v. Some (Literal v)) (content_of-literal z), refl))))

pub leaf-Truth : (b : Bool) → ShownLeaf (Truth b) (truth_text b)
unfolding plain
leaf-Truth true =
    by_plain (Truth true) (codes "true") _ (Prints-one plain unplaced_node (Truth true) kind.Word (codes "true") hard hard_is_soft (is_token-word (codes "true") refl) (λ rest may. refl)
    (λ place. (Truth true, refl, refl)))
leaf-Truth false =
    by_plain (Truth false) (codes "false") _ (Prints-one plain unplaced_node (Truth false) kind.Word (codes "false") hard hard_is_soft (is_token-word (codes "false") refl) (λ rest may. refl)
    (λ place. (Truth false, refl, refl)))

no_truth : (a b : Bool) (x y z : SynNode) → not a && not b ≡ true → cond a x (cond b y z) ≡ z
no_truth true b x y z e = cc
no_truth false true x y z e = cc
no_truth false false x y z e = refl

pub leaf-Field : (name : Name) → is_field name.text ≡ true → ShownLeaf (Field name) name.text
unfolding plain
leaf-Field name e =
    let k = and_parts (is_word name.text) _ e in
    by_plain (Field name) name.text _ (Prints-one plain unplaced_node (Field (unplaced_name name)) kind.Word name.text hard hard_is_soft
    (is_token-word name.text k.0) (λ rest may. word_begins name.text rest k.0)
    (λ place. (Field (record { text = name.text; place = place }), ap Some (no_truth (bytes_eq name.text (codes "true")) (bytes_eq name.text (codes "false")) (Truth true) (Truth false) (Field (record { text = name.text; place = place })) k.1), refl)))

-- ---- aggregates

-- the word of an aggregate, and what stands behind it
called : (word : Text) (c : Call) (node : SynNode) (w : Text) (marks : List Mark) → is_word word ≡ true
    → ((place : ℕ) → call (record { kind = kind.Word; text = word; place = place }) ≡ Some c)
    → ((rest : Text) → hard (front (w ++ rest)) ≡ true) → Prints (grammar.arguments c) unplaced_node (unplaced_node node) hard w marks
    → ShownLeaf node (word ++ w)
called word c node w marks e is begins p =
    by_aggregate node (word ++ w) _
    (Prints-then (rule.one call) grammar.arguments (λ x. x) unplaced_node c c (unplaced_node node) hard hard word w _ marks refl
    (Prints-one call (λ x. x) c kind.Word word hard hard_is_soft (is_token-word word e) (λ rest may. word_begins word rest e) (λ place. (c, is place, refl)))
    (λ y same. subst (λ x. Prints (grammar.arguments x) unplaced_node (unplaced_node node) hard w marks) (sym same) p)
    (λ rest may. begins rest))

pub leaf-Count : (name : Name) → is_name name.text ≡ true → ShownLeaf (Count name) (count_text name.text)
unfolding call
leaf-Count name e =
    called (codes "count") CountOf (Count name) (40 ∷ (literal name.text ++ 41 ∷ [])) _ refl (λ place. refl) (λ rest. refl)
    (harder (grammar.arguments CountOf) unplaced_node (Count (unplaced_name name)) _ _
    (sign_then 40 _ unplaced_node (Count (unplaced_name name)) soft _ _ refl refl
    (Prints-then (rule.one stage_name) _ unplaced_name unplaced_node name (unplaced_name name) (Count (unplaced_name name)) soft soft
    (literal name.text) (41 ∷ []) _ _ refl (Prints-stage_name name e)
    (λ y same. sign_last 41 (Count y) unplaced_node (Count (unplaced_name name)) refl refl (ap Count same))
    (λ rest may. refl))))

edge_arguments : (how : Agg) (name field : Name) → is_name name.text ≡ true → is_word field.text ≡ true
    → (marks : List Mark)
    × Prints (grammar.arguments (Edge how)) unplaced_node (Of how (unplaced_name name) (unplaced_name field)) hard
    (40 ∷ (literal name.text ++ (41 ∷ 46 ∷ field.text))) marks
edge_arguments how name field e f =
    let goal = Of how (unplaced_name name) (unplaced_name field) in (
      _,
      sign_then 40 _ unplaced_node goal hard _ _ refl refl
          (Prints-then (rule.one stage_name) _ unplaced_name unplaced_node name (unplaced_name name) goal soft hard (literal name.text)
          (41 ∷ 46 ∷ field.text) _ _ refl (Prints-stage_name name e)
          (λ y same. sign_then 41 _ unplaced_node goal hard _ _ refl refl (sign_then 46 _ unplaced_node goal hard _ _ refl refl
          (Prints-made (rule.one any_word) (λ z. Of how y z) unplaced_name unplaced_node (unplaced_name field) goal hard field.text _
          (Prints-any_word field f) (λ z other. λ i. Of how (same i) (other i)))))
          (λ rest may. refl)),
    )

total_arguments : (how : Agg) (name field : Name) → is_name name.text ≡ true → is_word field.text ≡ true
    → (marks : List Mark)
    × Prints (grammar.arguments (Total how)) unplaced_node (Of how (unplaced_name name) (unplaced_name field)) hard
    (40 ∷ (literal name.text ++ (46 ∷ (field.text ++ 41 ∷ [])))) marks
total_arguments how name field e f =
    let goal = Of how (unplaced_name name) (unplaced_name field) in (
      _,
      harder (grammar.arguments (Total how)) unplaced_node goal _ _
          (sign_then 40 _ unplaced_node goal soft _ _ refl refl
          (Prints-then (rule.one stage_name) _ unplaced_name unplaced_node name (unplaced_name name) goal soft soft (literal name.text)
          (46 ∷ (field.text ++ 41 ∷ [])) _ _ refl (Prints-stage_name name e)
          (λ y same. sign_then 46 _ unplaced_node goal soft _ _ refl refl
          (Prints-then (rule.one any_word) _ unplaced_name unplaced_node field (unplaced_name field) goal hard soft field.text (41 ∷ []) _ _ refl
          (Prints-any_word field f)
          (λ z other. sign_last 41 (Of how y z) unplaced_node goal refl refl (λ i. Of how (same i) (other i)))
          (λ rest may. refl)))
          (λ rest may. refl))),
    )

pub leaf-Of : (what : Agg) (name field : Name) → is_name name.text ≡ true → is_word field.text ≡ true
    → ShownLeaf (Of what name field) (aggregate_text what name.text field.text)
unfolding call
leaf-Of agg.Sum name field e f = let p = total_arguments agg.Sum name field e f in called (codes "sum") (Total agg.Sum) (Of agg.Sum name field) _ p.0 refl (λ place. refl) (λ rest. refl) p.1
leaf-Of agg.Min name field e f = let p = total_arguments agg.Min name field e f in called (codes "min") (Total agg.Min) (Of agg.Min name field) _ p.0 refl (λ place. refl) (λ rest. refl) p.1
leaf-Of agg.Max name field e f = let p = total_arguments agg.Max name field e f in called (codes "max") (Total agg.Max) (Of agg.Max name field) _ p.0 refl (λ place. refl) (λ rest. refl) p.1
leaf-Of agg.First name field e f = let p = edge_arguments agg.First name field e f in called (codes "first") (Edge agg.First) (Of agg.First name field) _ p.0 refl (λ place. refl) (λ rest. refl) p.1
leaf-Of agg.Last name field e f = let p = edge_arguments agg.Last name field e f in called (codes "last") (Edge agg.Last) (Of agg.Last name field) _ p.0 refl (λ place. refl) (λ rest. refl) p.1
