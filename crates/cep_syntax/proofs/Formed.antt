-- Each expression of the grammar is well formed, where the tokens have the form of their kinds.
use Rattle.std.proofs.Common.{◌≡◌, ℕ, zero, suc, Bool, true, false, not, ◌&&◌, cond, List, [], ◌∷◌, length, map, refl, ◌∙◌, ap, subst, arith}
use Rattle.std.specs.Prelude.{nat_le, codes, Option, Some, None}
use Rattle.std.specs.List.{list_all}
use Rattle.std.specs.Str.{bytes_eq}
use Rattle.std.proofs.lemmas.List.Folds.{list_all-map}
use Rattle.std.proofs.lemmas.Bool.Decides.{nat_tests}
use Rattle.cep_token.specs.declared.token.TokenKind.{TokenKind}
use Rattle.cep_token.specs.declared.token.TokenKind.TheVariants as token
use Rattle.cep_token.specs.Piece.{value_of}
use Rattle.cep_token.specs.Form as form
use Rattle.cep_token.specs.Content.{content_of}
use Rattle.cep_reading.specs.declared.name.Name.{Name}
use Rattle.cep_reading.specs.Lexeme.{Lexeme}
use Rattle.cep_reading.specs.Terminal as reading
use Rattle.cep_reading.specs.Terminal.{any_word, stage_name, number, is_name}
use Rattle.cep_reading.specs.Rule.{Rule}
use Rattle.cep_reading.specs.Rule as rule
use Rattle.cep_reading.proofs.Starts.{and_true}
use Rattle.cep_reading.proofs.Gives.{Gives, Gives-pure, Gives-one, Gives-then, Gives-last, Gives-or, Gives-many, Gives-placed, Gives-maybe, of_some, both_true}
use Rattle.cep_expression.specs.declared.aggregate.Call.{Call}
use Rattle.cep_expression.specs.declared.aggregate.Call.TheVariants.{Count as CountOf, Edge, Total}
use Rattle.cep_expression.specs.declared.expr.Cmp.{Cmp}
use Rattle.cep_expression.specs.declared.expr.How.{How}
use Rattle.cep_expression.specs.declared.expr.How.TheVariants as how
use Rattle.cep_expression.specs.declared.expr.SynExpr.{SynExpr}
use Rattle.cep_expression.specs.declared.expr.SynTerm.{SynTerm}
use Rattle.cep_expression.specs.declared.expr.SynFactor.{SynFactor}
use Rattle.cep_expression.specs.declared.expr.SynNode.{SynNode, Int, Bool as Truth, Field, Count, Of, Any, All, Compare, Add, Mul, Not, Neg, Row_of-SynExpr, end_of-SynExpr, more_of-SynExpr, Row_of-SynTerm, end_of-SynTerm, more_of-SynTerm, Row_of-SynFactor, end_of-SynFactor, more_of-SynFactor, items-the_row-SynExpr, items-the_row-SynTerm, items-the_row-SynFactor, items_hidden-the_row-SynExpr-0, items_hidden-the_row-SynTerm-2, items_hidden-the_row-SynFactor-3}
use Rattle.cep_expression.specs.declared.expr.SynNode.TheBlock.{hidden-the_row-SynExpr-0, hidden-the_row-SynExpr-1, hidden-the_row-SynTerm-2, hidden-the_row-SynFactor-3}
use Rattle.cep_expression.specs.declared.sign.Prefix.{Prefix}
use Rattle.cep_expression.specs.declared.sign.Prefix.TheVariants as prefix
use Rattle.cep_expression.specs.Terminal.{constant, plain, constant_by, plain_by, plain_word, factor_sign, term_sign}
use Rattle.cep_expression.specs.Grammar as grammar
use Rattle.cep_syntax.specs.WellFormed.{is_number, is_chain, is_sum, is_product, is_formed_node, formed_parts, formed_terms, formed_factors, is_formed}

-- ---- nodes with parts

abbrev pub term_test : SynTerm → Bool × Bool
term_test t = (t.minus, is_formed t.expr)

abbrev pub factor_test : SynFactor → How × Bool
factor_test f = (f.how, is_formed f.expr)

parts-items : {n : _} (row : Row_of-SynExpr n) → formed_parts row ≡ map is_formed (items-the_row-SynExpr n row)
parts-items end_of-SynExpr = refl
parts-items (more_of-SynExpr place node row) = ap (λ later. is_formed_node node ∷ later) (parts-items row)

terms-items : {n : _} (row : Row_of-SynTerm n) → formed_terms row ≡ map term_test (items-the_row-SynTerm n row)
terms-items end_of-SynTerm = refl
terms-items (more_of-SynTerm minus place node row) = ap (λ later. (minus, is_formed_node node) ∷ later) (terms-items row)

factors-items : {n : _} (row : Row_of-SynFactor n) → formed_factors row ≡ map factor_test (items-the_row-SynFactor n row)
factors-items end_of-SynFactor = refl
factors-items (more_of-SynFactor way place node row) = ap (λ later. (way, is_formed_node node) ∷ later) (factors-items row)

parts-hidden : (parts : List SynExpr) → formed_parts (hidden-the_row-SynExpr-0 parts) ≡ map is_formed parts
parts-hidden parts = parts-items (hidden-the_row-SynExpr-0 parts) ∙ ap (map is_formed) (items_hidden-the_row-SynExpr-0 parts)

pub is_formed-Any : (parts : List SynExpr) → is_formed_node (Any parts) ≡ is_chain (map is_formed parts)
is_formed-Any parts = ap is_chain (parts-hidden parts)

pub is_formed-All : (parts : List SynExpr) → is_formed_node (All parts) ≡ is_chain (map is_formed parts)
is_formed-All parts = ap is_chain (parts-hidden parts)

pub is_formed-Compare : (c : Cmp) (x y : SynExpr) → is_formed_node (Compare c x y) ≡ (is_formed x && is_formed y)
unfolding hidden-the_row-SynExpr-1 denote.Hole.Carrier.hidden
is_formed-Compare c x y = refl

pub is_formed-Add : (terms : List SynTerm) → is_formed_node (Add terms) ≡ is_sum (map term_test terms)
is_formed-Add terms = ap is_sum (terms-items (hidden-the_row-SynTerm-2 terms) ∙ ap (map term_test) (items_hidden-the_row-SynTerm-2 terms))

pub is_formed-Mul : (factors : List SynFactor) → is_formed_node (Mul factors) ≡ is_product (map factor_test factors)
is_formed-Mul factors = ap is_product (factors-items (hidden-the_row-SynFactor-3 factors) ∙ ap (map factor_test) (items_hidden-the_row-SynFactor-3 factors))

pub is_formed-Not : (x : SynExpr) → is_formed_node (Not x) ≡ is_formed x
unfolding hidden-the_row-SynExpr-1 denote.Hole.Carrier.hidden
is_formed-Not x = refl

pub is_formed-Neg : (x : SynExpr) → is_formed_node (Neg x) ≡ is_formed x
unfolding hidden-the_row-SynExpr-1 denote.Hole.Carrier.hidden
is_formed-Neg x = refl

-- ---- single tokens

pub at_most_greatest : (text : List ℕ) → form.is_number text ≡ true → is_number (value_of text) ≡ true
at_most_greatest text e = (and_true _ _ (and_true _ _ e).1).1

name_form : (k : TokenKind) (text : List ℕ) (place : ℕ) (a : Name) → form.has_form k text ≡ true → reading.any_word_by k text place ≡ Some a
    → form.is_word a.text ≡ true
name_form token.Word text place a formed e = let is : text ≡ a.text = ap (λ x. x.text) (some_is e) in subst (λ x. form.is_word x ≡ true) is formed where
  some_is : {A : Type 0} {x y : A} → Some x ≡ Some y → x ≡ y
  some_is h = cc
name_form token.Number text place a formed e = cc
name_form token.Literal text place a formed e = cc
name_form token.Symbol text place a formed e = cc

pub gives-any_word : Gives (rule.one any_word) (λ name. form.is_word name.text)
unfolding any_word
gives-any_word = Gives-one any_word (λ name. form.is_word name.text) (λ t a formed e. name_form t.kind t.text t.place a formed e)

stage_name_form : (k : TokenKind) (text : List ℕ) (place : ℕ) (a : Name) → reading.stage_name_by k text place ≡ Some a → is_name a.text ≡ true
stage_name_form token.Literal text place a e = cases (is_name (content_of text)) refl e where
  cases : (b : Bool) → is_name (content_of text) ≡ b → cond b (Some (record { text = content_of text; place = place })) None ≡ Some a → is_name a.text ≡ true
  cases true f h = let is : content_of text ≡ a.text = ap (λ x. x.text) (some_is h) in subst (λ x. is_name x ≡ true) is f where
    some_is : {A : Type 0} {x y : A} → Some x ≡ Some y → x ≡ y
    some_is g = cc
  cases false f h = cc
stage_name_form token.Word text place a e = cc
stage_name_form token.Number text place a e = cc
stage_name_form token.Symbol text place a e = cc

pub gives-stage_name : Gives (rule.one stage_name) (λ name. is_name name.text)
unfolding stage_name
gives-stage_name = Gives-one stage_name (λ name. is_name name.text) (λ t a formed e. stage_name_form t.kind t.text t.place a e)

number_form : (k : TokenKind) (text : List ℕ) (n : ℕ) → form.has_form k text ≡ true → reading.number_by k text ≡ Some n → is_number n ≡ true
number_form token.Number text n formed e = let is : value_of text ≡ n = cc in subst (λ x. is_number x ≡ true) is (at_most_greatest text formed)
number_form token.Word text n formed e = cc
number_form token.Literal text n formed e = cc
number_form token.Symbol text n formed e = cc

pub gives-number : Gives (rule.one number) is_number
unfolding number
gives-number = Gives-one number is_number (λ t n formed e. number_form t.kind t.text n formed e)

constant_form : (k : TokenKind) (text : List ℕ) (node : SynNode) → form.has_form k text ≡ true → constant_by k text ≡ Some node → is_formed_node node ≡ true
constant_form token.Number text node formed e = let is : Int (value_of text) ≡ node = cc in
    subst (λ x. is_formed_node x ≡ true) is (at_most_greatest text formed)
constant_form token.Literal text node formed e = let is = some_is e in subst (λ x. is_formed_node x ≡ true) is refl where
  some_is : {A : Type 0} {x y : A} → Some x ≡ Some y → x ≡ y
  some_is h = cc
constant_form token.Word text node formed e = cc
constant_form token.Symbol text node formed e = cc

-- a word by itself, by what the two tests say
abbrev plain_node : Bool → Bool → List ℕ → ℕ → SynNode
plain_node is_true is_false text place = cond is_true (Truth true) (cond is_false (Truth false) (Field (record { text = text; place = place })))

plain_node_form : (a b : Bool) (text : List ℕ) (place : ℕ) → form.is_word text ≡ true → bytes_eq text (codes "true") ≡ a → bytes_eq text (codes "false") ≡ b → is_formed_node (plain_node a b text place) ≡ true
plain_node_form true b text place formed e f = refl
plain_node_form false true text place formed e f = refl
plain_node_form false false text place formed e f = both_true (form.is_word text) _ formed (both_true _ _ (ap not e) (ap not f))

plain_word_form : (text : List ℕ) (place : ℕ) → form.is_word text ≡ true → is_formed_node (plain_word text place) ≡ true
plain_word_form text place formed = plain_node_form (bytes_eq text (codes "true")) (bytes_eq text (codes "false")) text place formed refl refl

plain_form : (k : TokenKind) (text : List ℕ) (place : ℕ) (node : SynNode) → form.has_form k text ≡ true → plain_by k text place ≡ Some node
    → is_formed_node node ≡ true
plain_form token.Word text place node formed e = let is : plain_word text place ≡ node = some_is e in
    subst (λ x. is_formed_node x ≡ true) is (plain_word_form text place formed) where
      some_is : {A : Type 0} {x y : A} → Some x ≡ Some y → x ≡ y
      some_is h = cc
plain_form token.Number text place node formed e = cc
plain_form token.Literal text place node formed e = cc
plain_form token.Symbol text place node formed e = cc

-- ---- productions

gives-arguments : (c : Call) → Gives (grammar.arguments c) is_formed_node
gives-arguments CountOf =
    Gives-last _ _ is_formed_node (λ _. Gives-then _ _ (λ name. is_name name.text) is_formed_node gives-stage_name
    (λ name e. Gives-last _ _ is_formed_node (λ _. Gives-pure (Count name) is_formed_node e)))
gives-arguments (Edge way) =
    Gives-last _ _ is_formed_node (λ _. Gives-then _ _ (λ name. is_name name.text) is_formed_node gives-stage_name
    (λ name e. Gives-last _ _ is_formed_node (λ _. Gives-last _ _ is_formed_node
    (λ _. Gives-then _ _ (λ field. form.is_word field.text) is_formed_node gives-any_word
    (λ field f. Gives-pure (Of way name field) is_formed_node (both_true _ _ e f))))))
gives-arguments (Total way) =
    Gives-last _ _ is_formed_node (λ _. Gives-then _ _ (λ name. is_name name.text) is_formed_node gives-stage_name
    (λ name e. Gives-last _ _ is_formed_node (λ _. Gives-then _ _ (λ field. form.is_word field.text) is_formed_node gives-any_word
    (λ field f. Gives-last _ _ is_formed_node (λ _. Gives-pure (Of way name field) is_formed_node (both_true _ _ e f))))))

gives-node : Gives (rule.◌or◌ (rule.◌or◌ (rule.one plain) grammar.aggregate) (rule.one constant)) is_formed_node
unfolding plain constant
gives-node =
    Gives-or _ _ is_formed_node
    (Gives-or _ _ is_formed_node (Gives-one plain is_formed_node (λ t node formed e. plain_form t.kind t.text t.place node formed e))
    (Gives-last _ _ is_formed_node gives-arguments))
    (Gives-one constant is_formed_node (λ t node formed e. constant_form t.kind t.text node formed e))

two_parts : (n : ℕ) → nat_le 2 (suc (suc n)) ≡ true
two_parts n = grind (arith, nat_tests)

-- parts that are well formed are a chain
chain_form : {T : Type 0} (test : T → Bool) (first : Bool) (second : T) (more : List T) → first ≡ true → list_all test (second ∷ more) ≡ true
    → is_chain (first ∷ map test (second ∷ more)) ≡ true
chain_form test first second more e f =
    both_true _ _ (two_parts (length (map test more))) (both_true first _ e (list_all-map (λ part. part) test (second ∷ more) ∙ f))

-- an operand and the parts behind it
abbrev ChainTest : {T : Type 0} → (T → Bool) → ℕ × (SynExpr × List T) → Bool
ChainTest test found = is_formed found.1.0 && list_all test found.1.1

gives-chain : {O T : Type 0} (signs : Lexeme → Option O) (made : O → SynExpr → T) (r : Rule SynExpr) (test : T → Bool) → Gives r is_formed
    → ((o : O) (e : SynExpr) → is_formed e ≡ true → test (made o e) ≡ true) → Gives (grammar.chain signs made r) (ChainTest test)
gives-chain signs made r test operand so =
    Gives-placed _ (λ found. is_formed found.0 && list_all test found.1)
    (Gives-then r _ is_formed _ operand
    (λ first e. Gives-then _ _ (list_all test) _
    (Gives-many _ test (Gives-last _ _ test (λ o. Gives-then r _ is_formed test operand (λ x f. Gives-pure (made o x) test (so o x f)))))
    (λ more f. Gives-pure (first, more) _ (both_true (is_formed first) (list_all test more) e f))))

product_form : (found : ℕ × (SynExpr × List SynFactor)) → ChainTest (λ f. is_formed f.expr) found ≡ true → is_formed (grammar.product_of found) ≡ true
product_form (place, (first, [])) e = (and_true _ _ e).0
product_form (place, (first, second ∷ more)) e =
    let k = and_true (is_formed first) _ e in
    is_formed-Mul (grammar.factor how.Times first ∷ second ∷ more)
    ∙ ap (λ parts. is_chain (is_formed first ∷ parts)) (map-map factor_test (second ∷ more))
    ∙ chain_form (λ f. is_formed f.expr) (is_formed first) second more k.0 k.1 where
      map-map : (test : SynFactor → How × Bool) (xs : List SynFactor) → map (λ x. x.1) (map test xs) ≡ map (λ x. (test x).1) xs
      map-map test [] = refl
      map-map test (x ∷ xs) = ap (λ l. (test x).1 ∷ l) (map-map test xs)

sum_form : (found : ℕ × (SynExpr × List SynTerm)) → ChainTest (λ t. is_formed t.expr) found ≡ true → is_formed (grammar.sum_of found) ≡ true
sum_form (place, (first, [])) e = (and_true _ _ e).0
sum_form (place, (first, second ∷ more)) e =
    let k = and_true (is_formed first) _ e in
    is_formed-Add (grammar.term false first ∷ second ∷ more)
    ∙ ap (λ parts. is_chain (is_formed first ∷ parts)) (map-map term_test (second ∷ more))
    ∙ chain_form (λ t. is_formed t.expr) (is_formed first) second more k.0 k.1 where
      map-map : (test : SynTerm → Bool × Bool) (xs : List SynTerm) → map (λ x. x.1) (map test xs) ≡ map (λ x. (test x).1) xs
      map-map test [] = refl
      map-map test (x ∷ xs) = ap (λ l. (test x).1 ∷ l) (map-map test xs)

all_form : (found : ℕ × (SynExpr × List SynExpr)) → ChainTest is_formed found ≡ true → is_formed (grammar.all_of found) ≡ true
all_form (place, (first, [])) e = (and_true _ _ e).0
all_form (place, (first, second ∷ more)) e = let k = and_true (is_formed first) _ e in is_formed-All (first ∷ second ∷ more)
    ∙ chain_form is_formed (is_formed first) second more k.0 k.1

any_form : (found : ℕ × (SynExpr × List SynExpr)) → ChainTest is_formed found ≡ true → is_formed (grammar.any_of found) ≡ true
any_form (place, (first, [])) e = (and_true _ _ e).0
any_form (place, (first, second ∷ more)) e = let k = and_true (is_formed first) _ e in is_formed-Any (first ∷ second ∷ more)
    ∙ chain_form is_formed (is_formed first) second more k.0 k.1

abbrev OtherTest : ℕ × (SynExpr × Option (Cmp × SynExpr)) → Bool
OtherTest found = is_formed found.1.0 && of_some (λ other. is_formed other.1) found.1.1

comparison_form : (found : ℕ × (SynExpr × Option (Cmp × SynExpr))) → OtherTest found ≡ true → is_formed (grammar.comparison_of found) ≡ true
comparison_form (place, (left, None)) e = (and_true _ _ e).0
comparison_form (place, (left, Some (way, right))) e = is_formed-Compare way left right ∙ e

prefixed_form : (way : Prefix) (e : SynExpr) → is_formed e ≡ true → is_formed_node (grammar.prefixed way e) ≡ true
prefixed_form prefix.Not e h = is_formed-Not e ∙ h
prefixed_form prefix.Neg e h = is_formed-Neg e ∙ h

at_first_form : (found : ℕ × SynNode) → is_formed_node found.1 ≡ true → is_formed (grammar.at_first found) ≡ true
at_first_form (place, node) e = e

module _ (e : Rule SynExpr) (inner : Gives e is_formed) where
  gives-primary : Gives (grammar.primary e) is_formed
  unfolding grammar.primary
  gives-primary =
      Gives-or _ _ is_formed
      (Gives-last _ _ is_formed (λ _. Gives-then e _ is_formed is_formed inner (λ x h. Gives-last _ _ is_formed (λ _. Gives-pure x is_formed h))))
      (Gives-then _ _ (λ found. is_formed_node found.1) is_formed (Gives-placed _ is_formed_node gives-node)
      (λ found h. Gives-pure (grammar.at_first found) is_formed (at_first_form found h)))

  gives-unary : Gives (grammar.unary e) is_formed
  unfolding grammar.unary
  gives-unary =
      Gives-or _ _ is_formed
      (Gives-then _ _ (λ found. is_formed_node found.1) is_formed
      (Gives-placed _ is_formed_node (Gives-last _ _ is_formed_node
      (λ way. Gives-then _ _ is_formed is_formed_node gives-primary
      (λ x h. Gives-pure (grammar.prefixed way x) is_formed_node (prefixed_form way x h)))))
      (λ found h. Gives-pure (grammar.at_first found) is_formed (at_first_form found h)))
      gives-primary

  gives-product : Gives (grammar.product e) is_formed
  unfolding grammar.product
  gives-product =
      Gives-then _ _ (ChainTest (λ f. is_formed f.expr)) is_formed (gives-chain factor_sign grammar.factor _ (λ f. is_formed f.expr) gives-unary (λ o x h. h))
      (λ found h. Gives-pure (grammar.product_of found) is_formed (product_form found h))

  gives-sum : Gives (grammar.sum e) is_formed
  unfolding grammar.sum
  gives-sum =
      Gives-then _ _ (ChainTest (λ t. is_formed t.expr)) is_formed (gives-chain term_sign grammar.term _ (λ t. is_formed t.expr) gives-product (λ o x h. h))
      (λ found h. Gives-pure (grammar.sum_of found) is_formed (sum_form found h))

  gives-comparison : Gives (grammar.comparison e) is_formed
  unfolding grammar.comparison
  gives-comparison =
      Gives-then _ _ OtherTest is_formed
      (Gives-placed _ (λ found. is_formed found.0 && of_some (λ other. is_formed other.1) found.1)
      (Gives-then _ _ is_formed _ gives-sum
      (λ left h. Gives-then _ _ (of_some (λ other. is_formed other.1)) _
      (Gives-maybe _ (λ other. is_formed other.1)
      (Gives-last _ _ (λ other. is_formed other.1) (λ way. Gives-then _ _ is_formed _ gives-sum (λ right f. Gives-pure (way, right) _ f))))
      (λ other f. Gives-pure (left, other) _ (both_true (is_formed left) _ h f)))))
      (λ found h. Gives-pure (grammar.comparison_of found) is_formed (comparison_form found h))

  gives-all : Gives (grammar.all e) is_formed
  unfolding grammar.all
  gives-all =
      Gives-then _ _ (ChainTest is_formed) is_formed (gives-chain _ grammar.part _ is_formed gives-comparison (λ o x h. h))
      (λ found h. Gives-pure (grammar.all_of found) is_formed (all_form found h))

  gives-any : Gives (grammar.any e) is_formed
  unfolding grammar.any
  gives-any =
      Gives-then _ _ (ChainTest is_formed) is_formed (gives-chain _ grammar.part _ is_formed gives-all (λ o x h. h))
      (λ found h. Gives-pure (grammar.any_of found) is_formed (any_form found h))

pub gives-expression : (k : ℕ) → Gives (grammar.expression_within k) is_formed
unfolding grammar.expression_within
gives-expression zero = record { gives = λ used a formed h. absurd h }
gives-expression (suc k) = gives-any (grammar.expression_within k) (gives-expression k)
