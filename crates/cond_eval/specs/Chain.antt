-- The value of a sum and of a product, from the values of their parts, folded from the left. This is this project's own.
use Rattle.std.specs.Prelude.{pos, List, fold}
use Rattle.cep_plan.specs.declared.condition.Expr.{Expr}
use Rattle.cep_plan.specs.declared.condition.Term.{Term}
use Rattle.cep_plan.specs.declared.condition.Factor.{Factor}
use Rattle.cep_plan.specs.Answer.{Answer, number, add_part, multiply_part}

abbrev pub sum_of : (Expr → Answer) → List Term → Answer
sum_of value terms = fold (λ so_far term. add_part so_far (term.minus, value term.expr)) (number (pos 0)) terms

abbrev pub product_of : (Expr → Answer) → List Factor → Answer
product_of value factors = fold (λ so_far factor. multiply_part so_far (factor.how, value factor.expr)) (number (pos 1)) factors
