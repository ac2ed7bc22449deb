-- Two expressions with parts are the same exactly where their parts are. What a proof about code that matches on both needs.
use Rattle.std.proofs.Common.{◌≡◌, ℕ, refl, sym, ap, ◌∙◌, ◌<◌, List, [], ◌∷◌, length, get_or, map}
use Rattle.std.proofs.lemmas.List.{get_or-map}
use Rattle.cep_expression.specs.declared.expr.Cmp.{Cmp}
use Rattle.cep_expression.specs.declared.expr.Cmp.TheVariants as cmp
use Rattle.cep_expression.specs.declared.expr.SynExpr.{SynExpr}
use Rattle.cep_expression.specs.declared.expr.SynTerm.{SynTerm}
use Rattle.cep_expression.specs.declared.expr.SynFactor.{SynFactor}
use Rattle.cep_expression.specs.declared.expr.SynNode.{SynNode, Any, All, Compare, Add, Mul, Not, Neg, Any', All', Compare', Add', Mul', Not', Neg', Row_of-SynExpr, end_of-SynExpr, more_of-SynExpr, Row_of-SynTerm, end_of-SynTerm, more_of-SynTerm, Row_of-SynFactor, end_of-SynFactor, more_of-SynFactor, items-the_row-SynExpr, items-the_row-SynTerm, items-the_row-SynFactor, items_hidden-the_row-SynExpr-0, items_hidden-the_row-SynTerm-2, items_hidden-the_row-SynFactor-3}
use Rattle.cep_expression.specs.declared.expr.SynNode.TheBlock.{hidden-the_row-SynExpr-0, hidden-the_row-SynExpr-1, hidden-the_row-SynTerm-2, hidden-the_row-SynFactor-3}
use Rattle.cep_expression.specs.Grammar.{expression}
use Rattle.cep_print.specs.Same.{only, unplaced_node, unplaced_parts, unplaced_terms, unplaced_factors, unplaced, unplaced_term, unplaced_factor}

-- ---- parts without their places

parts-items : {n : _} (row : Row_of-SynExpr n) → unplaced_parts row ≡ map unplaced (items-the_row-SynExpr n row)
parts-items end_of-SynExpr = refl
parts-items (more_of-SynExpr place node row) = ap (λ later. expression 0 (unplaced_node node) ∷ later) (parts-items row)

terms-items : {n : _} (row : Row_of-SynTerm n) → unplaced_terms row ≡ map unplaced_term (items-the_row-SynTerm n row)
terms-items end_of-SynTerm = refl
terms-items (more_of-SynTerm minus place node row) =
    ap (λ later. unplaced_term (record { minus = minus; expr = record { place = place; node = node } }) ∷ later) (terms-items row)

factors-items : {n : _} (row : Row_of-SynFactor n) → unplaced_factors row ≡ map unplaced_factor (items-the_row-SynFactor n row)
factors-items end_of-SynFactor = refl
factors-items (more_of-SynFactor way place node row) =
    ap (λ later. unplaced_factor (record { how = way; expr = record { place = place; node = node } }) ∷ later) (factors-items row)

parts-hidden : (parts : List SynExpr) → unplaced_parts (hidden-the_row-SynExpr-0 parts) ≡ map unplaced parts
parts-hidden parts = parts-items (hidden-the_row-SynExpr-0 parts) ∙ ap (map unplaced) (items_hidden-the_row-SynExpr-0 parts)

pub unplaced-Any : (parts : List SynExpr) → unplaced_node (Any parts) ≡ Any (map unplaced parts)
unplaced-Any parts = ap Any (parts-hidden parts)

pub unplaced-All : (parts : List SynExpr) → unplaced_node (All parts) ≡ All (map unplaced parts)
unplaced-All parts = ap All (parts-hidden parts)

pub unplaced-Add : (terms : List SynTerm) → unplaced_node (Add terms) ≡ Add (map unplaced_term terms)
unplaced-Add terms = ap Add (terms-items (hidden-the_row-SynTerm-2 terms) ∙ ap (map unplaced_term) (items_hidden-the_row-SynTerm-2 terms))

pub unplaced-Mul : (factors : List SynFactor) → unplaced_node (Mul factors) ≡ Mul (map unplaced_factor factors)
unplaced-Mul factors = ap Mul (factors-items (hidden-the_row-SynFactor-3 factors) ∙ ap (map unplaced_factor) (items_hidden-the_row-SynFactor-3 factors))

pub unplaced-Compare : (c : Cmp) (x y : SynExpr) → unplaced_node (Compare c x y) ≡ Compare c (unplaced x) (unplaced y)
unfolding hidden-the_row-SynExpr-1 denote.Hole.Carrier.hidden
unplaced-Compare c x y = refl

pub unplaced-Not : (x : SynExpr) → unplaced_node (Not x) ≡ Not (unplaced x)
unfolding hidden-the_row-SynExpr-1 denote.Hole.Carrier.hidden
unplaced-Not x = refl

pub unplaced-Neg : (x : SynExpr) → unplaced_node (Neg x) ≡ Neg (unplaced x)
unfolding hidden-the_row-SynExpr-1 denote.Hole.Carrier.hidden
unplaced-Neg x = refl

-- ---- what a node holds

abbrev row_parts : {n : _} → Row_of-SynExpr n → List SynExpr
row_parts {n} row = items-the_row-SynExpr n row

abbrev row_terms : {n : _} → Row_of-SynTerm n → List SynTerm
row_terms {n} row = items-the_row-SynTerm n row

abbrev row_factors : {n : _} → Row_of-SynFactor n → List SynFactor
row_factors {n} row = items-the_row-SynFactor n row

abbrev parts_in : SynNode → List SynExpr
parts_in (Any' _ row) = row_parts row
parts_in (All' _ row) = row_parts row
parts_in _ = []

abbrev terms_in : SynNode → List SynTerm
terms_in (Add' _ row) = row_terms row
terms_in _ = []

abbrev factors_in : SynNode → List SynFactor
factors_in (Mul' _ row) = row_factors row
factors_in _ = []

abbrev cmp_in : SynNode → Cmp
cmp_in (Compare' c _ x _ y) = c
cmp_in _ = cmp.Eq

abbrev left_in : SynNode → SynExpr
left_in (Compare' c _ x _ y) = only (row_parts x)
left_in (Not' _ x) = only (row_parts x)
left_in (Neg' _ x) = only (row_parts x)
left_in n = expression 0 n

abbrev right_in : SynNode → SynExpr
right_in (Compare' c _ x _ y) = only (row_parts y)
right_in n = expression 0 n

inside-Any : (xs ys : List SynExpr) → Any xs ≡ Any ys → xs ≡ ys
inside-Any xs ys e = sym (items_hidden-the_row-SynExpr-0 xs) ∙ ap parts_in e ∙ items_hidden-the_row-SynExpr-0 ys

inside-All : (xs ys : List SynExpr) → All xs ≡ All ys → xs ≡ ys
inside-All xs ys e = sym (items_hidden-the_row-SynExpr-0 xs) ∙ ap parts_in e ∙ items_hidden-the_row-SynExpr-0 ys

inside-Add : (xs ys : List SynTerm) → Add xs ≡ Add ys → xs ≡ ys
inside-Add xs ys e = sym (items_hidden-the_row-SynTerm-2 xs) ∙ ap terms_in e ∙ items_hidden-the_row-SynTerm-2 ys

inside-Mul : (xs ys : List SynFactor) → Mul xs ≡ Mul ys → xs ≡ ys
inside-Mul xs ys e = sym (items_hidden-the_row-SynFactor-3 xs) ∙ ap factors_in e ∙ items_hidden-the_row-SynFactor-3 ys

inside-Compare : (c d : Cmp) (x y z w : SynExpr) → Compare c x y ≡ Compare d z w → (c ≡ d) × (x ≡ z) × (y ≡ w)
unfolding hidden-the_row-SynExpr-1 denote.Hole.Carrier.hidden
inside-Compare c d x y z w e = (ap cmp_in e, ap left_in e, ap right_in e)

inside-Not : (x y : SynExpr) → Not x ≡ Not y → x ≡ y
unfolding hidden-the_row-SynExpr-1 denote.Hole.Carrier.hidden
inside-Not x y e = ap left_in e

inside-Neg : (x y : SynExpr) → Neg x ≡ Neg y → x ≡ y
unfolding hidden-the_row-SynExpr-1 denote.Hole.Carrier.hidden
inside-Neg x y e = ap left_in e

-- ---- an answer about two expressions, from one about what their nodes hold

abbrev Both : Type 0 → Type 0 → Type 0
Both P Q = (P → Q) × (Q → P)

nodes : (P Q : Type 0) (e f : SynExpr) (n m a b : SynNode) → e.node ≡ n → f.node ≡ m → unplaced_node n ≡ a → unplaced_node m ≡ b → (Q → a ≡ b)
    → (a ≡ b → Q) → Both P Q → Both P (unplaced e ≡ unplaced f)
nodes P Q e f n m a b is other_is n_is m_is make take h =
    let en = ap unplaced_node is ∙ n_is in
    let fm = ap unplaced_node other_is ∙ m_is in
    (λ p. ap (expression 0) (en ∙ make (h.0 p) ∙ sym fm), λ q. h.1 (take (sym en ∙ ap (λ x. x.node) q ∙ fm)))

-- what was asked of slices, of the lists that they are
slices : {X : Type 0} (P : Type 0) (g : X → X) (s t xs ys : List X) → s ≡ xs → t ≡ ys → Both P (map g s ≡ map g t) → Both P (map g xs ≡ map g ys)
slices P g s t xs ys same other h = (λ p. sym (ap (map g) same) ∙ h.0 p ∙ ap (map g) other, λ q. h.1 (ap (map g) same ∙ q ∙ sym (ap (map g) other)))

pub same-Any : (P : Type 0) (e f : SynExpr) (xs ys s t : List SynExpr) → e.node ≡ Any xs → f.node ≡ Any ys → s ≡ xs → t ≡ ys
    → Both P (map unplaced s ≡ map unplaced t) → Both P (unplaced e ≡ unplaced f)
same-Any P e f xs ys s t is other_is same other h =
    nodes P (map unplaced xs ≡ map unplaced ys) e f (Any xs) (Any ys) (Any (map unplaced xs)) (Any (map unplaced ys)) is other_is (unplaced-Any xs)
    (unplaced-Any ys) (ap Any) (inside-Any (map unplaced xs) (map unplaced ys)) (slices P unplaced s t xs ys same other h)

pub same-All : (P : Type 0) (e f : SynExpr) (xs ys s t : List SynExpr) → e.node ≡ All xs → f.node ≡ All ys → s ≡ xs → t ≡ ys
    → Both P (map unplaced s ≡ map unplaced t) → Both P (unplaced e ≡ unplaced f)
same-All P e f xs ys s t is other_is same other h =
    nodes P (map unplaced xs ≡ map unplaced ys) e f (All xs) (All ys) (All (map unplaced xs)) (All (map unplaced ys)) is other_is (unplaced-All xs)
    (unplaced-All ys) (ap All) (inside-All (map unplaced xs) (map unplaced ys)) (slices P unplaced s t xs ys same other h)

pub same-Add : (P : Type 0) (e f : SynExpr) (xs ys s t : List SynTerm) → e.node ≡ Add xs → f.node ≡ Add ys → s ≡ xs → t ≡ ys
    → Both P (map unplaced_term s ≡ map unplaced_term t) → Both P (unplaced e ≡ unplaced f)
same-Add P e f xs ys s t is other_is same other h =
    nodes P (map unplaced_term xs ≡ map unplaced_term ys) e f (Add xs) (Add ys) (Add (map unplaced_term xs)) (Add (map unplaced_term ys)) is other_is
    (unplaced-Add xs) (unplaced-Add ys) (ap Add) (inside-Add (map unplaced_term xs) (map unplaced_term ys))
    (slices P unplaced_term s t xs ys same other h)

pub same-Mul : (P : Type 0) (e f : SynExpr) (xs ys s t : List SynFactor) → e.node ≡ Mul xs → f.node ≡ Mul ys → s ≡ xs → t ≡ ys
    → Both P (map unplaced_factor s ≡ map unplaced_factor t) → Both P (unplaced e ≡ unplaced f)
same-Mul P e f xs ys s t is other_is same other h =
    nodes P (map unplaced_factor xs ≡ map unplaced_factor ys) e f (Mul xs) (Mul ys) (Mul (map unplaced_factor xs)) (Mul (map unplaced_factor ys)) is
    other_is (unplaced-Mul xs) (unplaced-Mul ys) (ap Mul) (inside-Mul (map unplaced_factor xs) (map unplaced_factor ys))
    (slices P unplaced_factor s t xs ys same other h)

pub same-Compare : (P : Type 0) (e f : SynExpr) (c d : Cmp) (x y z w : SynExpr) → e.node ≡ Compare c x y → f.node ≡ Compare d z w
    → Both P ((c ≡ d) × (unplaced x ≡ unplaced z) × (unplaced y ≡ unplaced w)) → Both P (unplaced e ≡ unplaced f)
same-Compare P e f c d x y z w is other_is h =
    nodes P ((c ≡ d) × (unplaced x ≡ unplaced z) × (unplaced y ≡ unplaced w)) e f (Compare c x y) (Compare d z w)
    (Compare c (unplaced x) (unplaced y)) (Compare d (unplaced z) (unplaced w)) is other_is (unplaced-Compare c x y) (unplaced-Compare d z w)
    (λ q i. Compare (q.0 i) (q.1 i) (q.2 i)) (inside-Compare c d (unplaced x) (unplaced y) (unplaced z) (unplaced w)) h

pub same-Not : (P : Type 0) (e f x y s t : SynExpr) → e.node ≡ Not x → f.node ≡ Not y → s ≡ x → t ≡ y → Both P (unplaced s ≡ unplaced t)
    → Both P (unplaced e ≡ unplaced f)
same-Not P e f x y s t is other_is same other h =
    nodes P (unplaced x ≡ unplaced y) e f (Not x) (Not y) (Not (unplaced x)) (Not (unplaced y)) is other_is (unplaced-Not x) (unplaced-Not y)
    (ap Not) (inside-Not (unplaced x) (unplaced y))
    (λ p. sym (ap unplaced same) ∙ h.0 p ∙ ap unplaced other, λ q. h.1 (ap unplaced same ∙ q ∙ sym (ap unplaced other)))

pub same-Neg : (P : Type 0) (e f x y s t : SynExpr) → e.node ≡ Neg x → f.node ≡ Neg y → s ≡ x → t ≡ y → Both P (unplaced s ≡ unplaced t)
    → Both P (unplaced e ≡ unplaced f)
same-Neg P e f x y s t is other_is same other h =
    nodes P (unplaced x ≡ unplaced y) e f (Neg x) (Neg y) (Neg (unplaced x)) (Neg (unplaced y)) is other_is (unplaced-Neg x) (unplaced-Neg y)
    (ap Neg) (inside-Neg (unplaced x) (unplaced y))
    (λ p. sym (ap unplaced same) ∙ h.0 p ∙ ap unplaced other, λ q. h.1 (ap unplaced same ∙ q ∙ sym (ap unplaced other)))

-- ---- an element of two lists

pub map_at : {X Y : Type 0} (g : X → Y) (xs ys : List X) (i : ℕ) (x y : X) → i < length xs → i < length ys → x ≡ get_or xs i x → y ≡ get_or ys i y
    → map g xs ≡ map g ys → g x ≡ g y
map_at g xs ys i x y lt other_lt is other_is e =
    ap g is ∙ sym (get_or-map g xs i x (g x) lt) ∙ ap (λ l. get_or l i (g x)) e ∙ get_or-map g ys i y (g x) other_lt ∙ sym (ap g other_is)
