-- What the parts of an expression ask is among what it asks. Each law is over equations, as the code has them where it takes an expression apart.
use Rattle.std.proofs.Common.{◌≡◌, refl, sym, ◌∙◌, ap, subst, ℕ, zero, suc, ◌<◌, List, [], ◌∷◌, ◌++◌, length, get_or, arith}
use Rattle.std.specs.List.{All, flat_map}
use Rattle.std.proofs.lemmas.List.{append-nil}
use Rattle.std.proofs.lemmas.List.Elements.{All-nil, All-cons, All-head, All-tail}
use Rattle.cep_plan.specs.declared.condition.Cmp.{Cmp}
use Rattle.cep_plan.specs.declared.condition.Expr.{Expr, Any, All as AllOf, Compare, Add, Mul, Not, Neg, Row_of-Expr, end_of-Expr, more_of-Expr, Row_of-Term, end_of-Term, more_of-Term, Row_of-Factor, end_of-Factor, more_of-Factor, items-the_row-Expr, items-the_row-Term, items-the_row-Factor, items_hidden-the_row-Expr-0, items_hidden-the_row-Term-2, items_hidden-the_row-Factor-3}
use Rattle.cep_plan.specs.declared.condition.Expr.TheBlock.{hidden-the_row-Expr-0, hidden-the_row-Expr-1, hidden-the_row-Term-2, hidden-the_row-Factor-3}
use Rattle.cep_plan.specs.declared.condition.Term.{Term}
use Rattle.cep_plan.specs.declared.condition.Factor.{Factor}
use Rattle.cep_plan.specs.Question.{Question}
use Rattle.cond_eval.specs.Asked.{questions_of, part_questions, term_questions, factor_questions}

part_questions-items : {n : _} (row : Row_of-Expr n) → part_questions row ≡ flat_map questions_of (items-the_row-Expr n row)
part_questions-items end_of-Expr = refl
part_questions-items (more_of-Expr x row) = ap (λ later. questions_of x ++ later) (part_questions-items row)

term_questions-items : {n : _} (row : Row_of-Term n) → term_questions row ≡ flat_map (λ term. questions_of term.expr) (items-the_row-Term n row)
term_questions-items end_of-Term = refl
term_questions-items (more_of-Term minus x row) = ap (λ later. questions_of x ++ later) (term_questions-items row)

factor_questions-items : {n : _} (row : Row_of-Factor n) → factor_questions row ≡ flat_map (λ factor. questions_of factor.expr) (items-the_row-Factor n row)
factor_questions-items end_of-Factor = refl
factor_questions-items (more_of-Factor how x row) = ap (λ later. questions_of x ++ later) (factor_questions-items row)

pub part_questions-hidden : (parts : List Expr) → part_questions (hidden-the_row-Expr-0 parts) ≡ flat_map questions_of parts
part_questions-hidden parts = part_questions-items (hidden-the_row-Expr-0 parts) ∙ ap (flat_map questions_of) (items_hidden-the_row-Expr-0 parts)

pub questions_of-Add : (terms : List Term) → questions_of (Add terms) ≡ flat_map (λ term. questions_of term.expr) terms
questions_of-Add terms = term_questions-items (hidden-the_row-Term-2 terms) ∙ ap (flat_map (λ term. questions_of term.expr)) (items_hidden-the_row-Term-2 terms)

pub questions_of-Mul : (factors : List Factor) → questions_of (Mul factors) ≡ flat_map (λ factor. questions_of factor.expr) factors
questions_of-Mul factors = factor_questions-items (hidden-the_row-Factor-3 factors)
    ∙ ap (flat_map (λ factor. questions_of factor.expr)) (items_hidden-the_row-Factor-3 factors)

pub questions_of-Compare : (c : Cmp) (x y : Expr) → questions_of (Compare c x y) ≡ questions_of x ++ questions_of y
unfolding hidden-the_row-Expr-1 denote.Hole.Carrier.hidden
questions_of-Compare c x y = ap (λ qs. qs ++ (questions_of y ++ [])) (append-nil (questions_of x))
    ∙ ap (λ qs. questions_of x ++ qs) (append-nil (questions_of y))

pub questions_of-Not : (x : Expr) → questions_of (Not x) ≡ questions_of x
unfolding hidden-the_row-Expr-1 denote.Hole.Carrier.hidden
questions_of-Not x = append-nil (questions_of x)

pub questions_of-Neg : (x : Expr) → questions_of (Neg x) ≡ questions_of x
unfolding hidden-the_row-Expr-1 denote.Hole.Carrier.hidden
questions_of-Neg x = append-nil (questions_of x)

module _ (can : Question → Type 0) where
  abbrev CanAnswer : List Question → Type 0
  CanAnswer = All can

  front : (xs ys : List Question) → All can (xs ++ ys) → All can xs
  front [] ys can_all = All-nil can
  front (x ∷ xs) ys can_all = All-cons can x xs (All-head can x (xs ++ ys) can_all) (front xs ys (All-tail can x (xs ++ ys) can_all))

  back : (xs ys : List Question) → All can (xs ++ ys) → All can ys
  back [] ys can_all = can_all
  back (x ∷ xs) ys can_all = back xs ys (All-tail can x (xs ++ ys) can_all)

  -- one of many
  pub can-one : {A : Type 0} (f : A → List Question) (xs : List A) (i : ℕ) (x : A) → i < length xs → x ≡ get_or xs i x → All can (flat_map f xs) → All can (f x)
  can-one {A} f xs i x within is can_all = let P : A → Type 0 = λ y. All can (f y) in subst P (sym is) (at xs i x within can_all)
    where
      at : (ys : List A) (i : ℕ) (d : A) → i < length ys → All can (flat_map f ys) → All can (f (get_or ys i d))
      at [] i d w a = absurd (omega arith)
      at (y ∷ ys) zero d w a = front (f y) (flat_map f ys) a
      at (y ∷ ys) (suc i) d w a = at ys i d (omega arith) (back (f y) (flat_map f ys) a)

  -- all but the first
  pub can-later : {A : Type 0} (f : A → List Question) (x : A) (xs : List A) → All can (flat_map f (x ∷ xs)) → All can (flat_map f xs)
  can-later f x xs can_all = back (f x) (flat_map f xs) can_all

  pub can-Any : (e : Expr) (parts slice : List Expr) → e ≡ Any parts → slice ≡ parts → All can (questions_of e) → All can (flat_map questions_of slice)
  can-Any e parts slice is same can_all = subst CanAnswer (ap questions_of is ∙ part_questions-hidden parts ∙ ap (flat_map questions_of) (sym same)) can_all

  pub can-All : (e : Expr) (parts slice : List Expr) → e ≡ AllOf parts → slice ≡ parts → All can (questions_of e) → All can (flat_map questions_of slice)
  can-All e parts slice is same can_all = subst CanAnswer (ap questions_of is ∙ part_questions-hidden parts ∙ ap (flat_map questions_of) (sym same)) can_all

  pub can-Add : (e : Expr) (terms slice : List Term) → e ≡ Add terms → slice ≡ terms → All can (questions_of e)
      → All can (flat_map (λ term. questions_of term.expr) slice)
  can-Add e terms slice is same can_all =
      subst CanAnswer (ap questions_of is ∙ questions_of-Add terms ∙ ap (flat_map (λ term. questions_of term.expr)) (sym same)) can_all

  pub can-Mul : (e : Expr) (factors slice : List Factor) → e ≡ Mul factors → slice ≡ factors → All can (questions_of e)
      → All can (flat_map (λ factor. questions_of factor.expr) slice)
  can-Mul e factors slice is same can_all =
      subst CanAnswer (ap questions_of is ∙ questions_of-Mul factors ∙ ap (flat_map (λ factor. questions_of factor.expr)) (sym same)) can_all

  pub can-left : (e : Expr) (c : Cmp) (x y z : Expr) → e ≡ Compare c x y → z ≡ x → All can (questions_of e) → All can (questions_of z)
  can-left e c x y z is same can_all =
      subst CanAnswer (ap questions_of (sym same))
      (front (questions_of x) (questions_of y) (subst CanAnswer (ap questions_of is ∙ questions_of-Compare c x y) can_all))

  pub can-right : (e : Expr) (c : Cmp) (x y z : Expr) → e ≡ Compare c x y → z ≡ y → All can (questions_of e) → All can (questions_of z)
  can-right e c x y z is same can_all =
      subst CanAnswer (ap questions_of (sym same))
      (back (questions_of x) (questions_of y) (subst CanAnswer (ap questions_of is ∙ questions_of-Compare c x y) can_all))

  pub can-Not : (e x z : Expr) → e ≡ Not x → z ≡ x → All can (questions_of e) → All can (questions_of z)
  can-Not e x z is same can_all = subst CanAnswer (ap questions_of is ∙ questions_of-Not x ∙ ap questions_of (sym same)) can_all

  pub can-Neg : (e x z : Expr) → e ≡ Neg x → z ≡ x → All can (questions_of e) → All can (questions_of z)
  can-Neg e x z is same can_all = subst CanAnswer (ap questions_of is ∙ questions_of-Neg x ∙ ap questions_of (sym same)) can_all
