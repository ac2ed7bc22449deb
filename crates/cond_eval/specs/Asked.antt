-- What expressions and conditions ask of the events taken so far, in order, a question as often as it stands there. This is this project's own.
use Rattle.std.specs.Prelude.{List, [], ◌∷◌, ◌++◌}
use Rattle.std.specs.List.{flat_map}
use Rattle.cep_plan.specs.declared.condition.Cond.{Cond}
use Rattle.cep_plan.specs.declared.condition.Expr.{Expr, Int, Text, Bool, Field, Count, Of, Any', All', Compare', Add', Mul', Not', Neg', Row_of-Expr, end_of-Expr, more_of-Expr, Row_of-Term, end_of-Term, more_of-Term, Row_of-Factor, end_of-Factor, more_of-Factor}
use Rattle.cep_plan.specs.Question.{Question, how_many, aggregate}

abbrev mutual
  -- A count and an aggregate ask one question each, and all else asks what its parts ask.
  pub questions_of : Expr → List Question
  questions_of (Int n) = []
  questions_of (Text t) = []
  questions_of (Bool b) = []
  questions_of (Field field) = []
  questions_of (Count stage) = how_many stage ∷ []
  questions_of (Of agg stage field) = aggregate agg stage field ∷ []
  questions_of (Any' _ parts) = part_questions parts
  questions_of (All' _ parts) = part_questions parts
  questions_of (Compare' c _ x _ y) = part_questions x ++ part_questions y
  questions_of (Add' _ terms) = term_questions terms
  questions_of (Mul' _ factors) = factor_questions factors
  questions_of (Not' _ x) = part_questions x
  questions_of (Neg' _ x) = part_questions x

  pub part_questions : {n : _} → Row_of-Expr n → List Question
  part_questions end_of-Expr = []
  part_questions (more_of-Expr x parts) = questions_of x ++ part_questions parts

  pub term_questions : {n : _} → Row_of-Term n → List Question
  term_questions end_of-Term = []
  term_questions (more_of-Term minus x terms) = questions_of x ++ term_questions terms

  pub factor_questions : {n : _} → Row_of-Factor n → List Question
  factor_questions end_of-Factor = []
  factor_questions (more_of-Factor how x factors) = questions_of x ++ factor_questions factors

-- what the parts of a condition ask
abbrev pub questions_in : Cond → List Question
questions_in cond = flat_map (λ part. questions_of part.expr) cond.parts
