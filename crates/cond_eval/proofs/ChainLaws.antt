-- The value of an expression, from those of its parts, as the code has them. Each law is over equations, as where the code takes an expression apart.
use Rattle.std.proofs.Common.{◌≡◌, refl, sym, ◌∙◌, ap, pos, not, ◌||◌, ◌&&◌, List, [], ◌∷◌, map, fold}
use Rattle.std.specs.Prelude.{Option}
use Rattle.std.specs.List.{list_any, list_all}
use Rattle.cep_event.specs.declared.event.Event.{Event}
use Rattle.cep_event.specs.declared.event.EventType.{EventType}
use Rattle.cep_plan.specs.declared.condition.Cmp.{Cmp}
use Rattle.cep_plan.specs.declared.condition.Expr.{Expr, Any, All, Compare, Add, Mul, Not, Neg}
use Rattle.cep_plan.specs.declared.condition.Term.{Term}
use Rattle.cep_plan.specs.declared.condition.Factor.{Factor}
use Rattle.cep_plan.specs.declared.item.Taken.{Taken}
use Rattle.cep_plan.specs.Answer.{Answer, number, truth, is_true, negated, add_part, multiply_part, compared}
use Rattle.cep_plan.specs.Value.{value_of}
use Rattle.cep_plan.proofs.ValueLaws.{term_answer, factor_answer, value_of-Any, value_of-All, value_of-Compare, value_of-Add, value_of-Mul, value_of-Not, value_of-Neg}
use Rattle.cond_eval.specs.Chain.{sum_of, product_of}

module _ (types : List EventType) (event : Option Event) (list : List Taken) where
  abbrev val : Expr → Answer
  val = value_of types event list

  any-map : (xs : List Expr) → list_any is_true (map val xs) ≡ list_any (λ x. is_true (val x)) xs
  any-map [] = refl
  any-map (x ∷ xs) = ap (λ b. is_true (val x) || b) (any-map xs)

  all-map : (xs : List Expr) → list_all is_true (map val xs) ≡ list_all (λ x. is_true (val x)) xs
  all-map [] = refl
  all-map (x ∷ xs) = ap (λ b. is_true (val x) && b) (all-map xs)

  sum-map : (a : Answer) (terms : List Term)
      → fold add_part a (map (term_answer types event list) terms) ≡ fold (λ so_far term. add_part so_far (term.minus, val term.expr)) a terms
  sum-map a [] = refl
  sum-map a (t ∷ terms) = sum-map (add_part a (t.minus, val t.expr)) terms

  product-map : (a : Answer) (factors : List Factor)
      → fold multiply_part a (map (factor_answer types event list) factors)
      ≡ fold (λ so_far factor. multiply_part so_far (factor.how, val factor.expr)) a factors
  product-map a [] = refl
  product-map a (f ∷ factors) = product-map (multiply_part a (f.how, val f.expr)) factors

  pub value-Any : (e : Expr) (parts slice : List Expr) → e ≡ Any parts → slice ≡ parts → truth (list_any (λ x. is_true (val x)) slice) ≡ val e
  value-Any e parts slice is same = ap truth (ap (list_any (λ x. is_true (val x))) same ∙ sym (any-map parts))
      ∙ sym (ap val is ∙ value_of-Any types event list parts)

  pub value-All : (e : Expr) (parts slice : List Expr) → e ≡ All parts → slice ≡ parts → truth (list_all (λ x. is_true (val x)) slice) ≡ val e
  value-All e parts slice is same = ap truth (ap (list_all (λ x. is_true (val x))) same ∙ sym (all-map parts))
      ∙ sym (ap val is ∙ value_of-All types event list parts)

  pub value-Add : (e : Expr) (terms slice : List Term) → e ≡ Add terms → slice ≡ terms → sum_of val slice ≡ val e
  value-Add e terms slice is same = ap (sum_of val) same ∙ sym (ap val is ∙ value_of-Add types event list terms ∙ sum-map (number (pos 0)) terms)

  pub value-Mul : (e : Expr) (factors slice : List Factor) → e ≡ Mul factors → slice ≡ factors → product_of val slice ≡ val e
  value-Mul e factors slice is same = ap (product_of val) same ∙ sym (ap val is ∙ value_of-Mul types event list factors ∙ product-map (number (pos 1)) factors)

  pub value-Compare : (e : Expr) (c : Cmp) (x y z w : Expr) → e ≡ Compare c x y → z ≡ x → w ≡ y → truth (compared c (val z) (val w)) ≡ val e
  value-Compare e c x y z w is left right = (λ i. truth (compared c (val (left i)) (val (right i)))) ∙ sym (ap val is ∙ value_of-Compare types event list c x y)

  pub value-Not : (e x z : Expr) → e ≡ Not x → z ≡ x → truth (not (is_true (val z))) ≡ val e
  value-Not e x z is same = ap (λ y. truth (not (is_true (val y)))) same ∙ sym (ap val is ∙ value_of-Not types event list x)

  pub value-Neg : (e x z : Expr) → e ≡ Neg x → z ≡ x → negated (val z) ≡ val e
  value-Neg e x z is same = ap (λ y. negated (val y)) same ∙ sym (ap val is ∙ value_of-Neg types event list x)
