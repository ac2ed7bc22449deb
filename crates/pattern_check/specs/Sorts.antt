-- Which kinds the operands of a plan's expressions have. It speaks of plans alone, and is this project's own.
-- The parts of an expression stand in rows: `end_of-Expr` is the empty row, `more_of-Expr x parts` has x before the others, and the sign `_` before a
-- row is its shape, which says nothing of the parts.
use Rattle.std.specs.Prelude.{◌≡◌, ℕ, Bool, true, ◌&&◌, ◌==◌, List, Option, Some, None, if◌then◌else◌}
use Rattle.std.specs.List.{list_all}
use Rattle.cep_event.specs.declared.event.Field.{Field}
use Rattle.cep_event.specs.declared.event.EventType.{EventType}
use Rattle.cep_event.specs.declared.value.Kind.{Kind}
use Rattle.cep_event.specs.declared.value.Kind.TheVariants as kind
use Rattle.cep_plan.specs.declared.condition.Agg.{Agg}
use Rattle.cep_plan.specs.declared.condition.Agg.TheVariants as agg
use Rattle.cep_plan.specs.declared.condition.Cond.{Cond}
use Rattle.cep_plan.specs.declared.condition.Expr.{Expr, Int, Text, Bool as Truth, Field as OneField, Count, Of, Any', All', Compare', Add', Mul', Not', Neg', Row_of-Expr, end_of-Expr, more_of-Expr, Row_of-Term, end_of-Term, more_of-Term, Row_of-Factor, end_of-Factor, more_of-Factor}
use Rattle.cep_plan.specs.declared.plan.Plan.{Plan}
use Rattle.pattern_rules.specs.declared.kind.Sort.{Sort}
use Rattle.pattern_rules.specs.declared.kind.Sort.TheVariants as sort
use Rattle.pattern_rules.specs.declared.kind.Wanted.{Wanted}
use Rattle.pattern_rules.specs.declared.kind.Wanted.TheVariants as want
use Rattle.pattern_rules.specs.First.{first_some}
use Rattle.pattern_rules.specs.Kinds.{same_sort, fits}
use Rattle.pattern_check.specs.FieldNumbers.{all_fields}

-- the kind of the field with a number
abbrev pub kind_if : ℕ → Field → Option Kind
kind_if number f = if f.number == number then Some f.kind else None

abbrev pub kind_of : List EventType → ℕ → Option Kind
kind_of types number = first_some (kind_if number) (all_fields types)

-- a field that no type has is refused by another rule
abbrev pub sort_of_kind : Option Kind → Sort
sort_of_kind None = sort.Int
sort_of_kind (Some kind.Int) = sort.Int
sort_of_kind (Some kind.Text) = sort.Text

abbrev pub sort_of_field : List EventType → ℕ → Sort
sort_of_field types number = sort_of_kind (kind_of types number)

-- the first and the last of a field are of its kind, all other aggregates are numbers
abbrev pub sort_of_aggregate : Agg → Sort → Sort
sort_of_aggregate agg.First held = held
sort_of_aggregate agg.Last held = held
sort_of_aggregate _ held = sort.Int

-- `sum`, `min` and `max` are taken of numbers
abbrev pub is_aggregate : Agg → Sort → Bool
is_aggregate agg.First held = true
is_aggregate agg.Last held = true
is_aggregate _ held = same_sort held sort.Int

-- number, text or truth value, which the outermost node tells
abbrev pub sort_of : List EventType → Expr → Sort
sort_of types (Int n) = sort.Int
sort_of types (Text t) = sort.Text
sort_of types (Truth b) = sort.Bool
sort_of types (OneField field) = sort_of_field types field
sort_of types (Count stage) = sort.Int
sort_of types (Of what stage field) = sort_of_aggregate what (sort_of_field types field)
sort_of types (Any' _ parts) = sort.Bool
sort_of types (All' _ parts) = sort.Bool
sort_of types (Compare' c _ x _ y) = sort.Bool
sort_of types (Add' _ terms) = sort.Int
sort_of types (Mul' _ factors) = sort.Int
sort_of types (Not' _ x) = sort.Bool
sort_of types (Neg' _ x) = sort.Int

abbrev pub sort_of_first : {n : _} → List EventType → Row_of-Expr n → Sort
sort_of_first types end_of-Expr = sort.Int
sort_of_first types (more_of-Expr x parts) = sort_of types x

-- Each operand has the kind that its operator asks for. The two sides of a comparison are numbers or texts, and the right side is of the left side's kind.
abbrev mutual
  pub is_sorted : List EventType → Expr → Bool
  is_sorted types (Int n) = true
  is_sorted types (Text t) = true
  is_sorted types (Truth b) = true
  is_sorted types (OneField field) = true
  is_sorted types (Count stage) = true
  is_sorted types (Of what stage field) = is_aggregate what (sort_of_field types field)
  is_sorted types (Any' _ parts) = sorted_parts types (want.Only sort.Bool) parts
  is_sorted types (All' _ parts) = sorted_parts types (want.Only sort.Bool) parts
  is_sorted types (Compare' c _ x _ y) = sorted_parts types want.Value x && sorted_parts types (want.Only (sort_of_first types x)) y
  is_sorted types (Add' _ terms) = sorted_terms types terms
  is_sorted types (Mul' _ factors) = sorted_factors types factors
  is_sorted types (Not' _ x) = sorted_parts types (want.Only sort.Bool) x
  is_sorted types (Neg' _ x) = sorted_parts types (want.Only sort.Int) x

  pub sorted_parts : {n : _} → List EventType → Wanted → Row_of-Expr n → Bool
  sorted_parts types asked end_of-Expr = true
  sorted_parts types asked (more_of-Expr x parts) = (fits asked (sort_of types x) && is_sorted types x) && sorted_parts types asked parts

  pub sorted_terms : {n : _} → List EventType → Row_of-Term n → Bool
  sorted_terms types end_of-Term = true
  sorted_terms types (more_of-Term minus x terms) = (fits (want.Only sort.Int) (sort_of types x) && is_sorted types x) && sorted_terms types terms

  pub sorted_factors : {n : _} → List EventType → Row_of-Factor n → Bool
  sorted_factors types end_of-Factor = true
  sorted_factors types (more_of-Factor how x factors) = (fits (want.Only sort.Int) (sort_of types x) && is_sorted types x) && sorted_factors types factors

-- an expression of a kind that is wanted, and so are its operands
abbrev pub has_sort : List EventType → Wanted → Expr → Bool
has_sort types asked x = fits asked (sort_of types x) && is_sorted types x

-- each part of a condition is a truth value
abbrev pub is_truth : List EventType → Cond → Bool
is_truth types cond = list_all (λ part. has_sort types (want.Only sort.Bool) part.expr) cond.parts

abbrev pub if_truth : List EventType → Option Cond → Bool
if_truth types None = true
if_truth types (Some cond) = is_truth types cond

-- what is shown are numbers and texts
abbrev pub are_values : List EventType → Option (List Expr) → Bool
are_values types None = true
are_values types (Some shown) = list_all (has_sort types want.Value) shown

-- the expressions of a plan
pub record HasSorts (plan : Plan) : Type 0 where
  pub conditions : list_all (λ s. is_truth plan.types s.cond) plan.stages ≡ true
  pub untils : list_all (λ s. if_truth plan.types s.until) plan.stages ≡ true
  pub negations : list_all (λ n. is_truth plan.types n.cond) plan.negations ≡ true
  pub shown : are_values plan.types plan.select ≡ true
