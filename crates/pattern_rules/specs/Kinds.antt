-- Which kinds the operands of an expression must have. This is this project's own.
-- The parts of an expression stand in rows: `end_of-SynExpr` is the empty row, `more_of-SynExpr place node parts` has an expression before the
-- others, and the sign `_` before a row is its shape, which says nothing of the parts.
use Rattle.std.specs.Prelude.{ℕ, Bool, true, false, List, Option, Some, None, if◌then◌else◌}
use Rattle.cep_event.specs.declared.event.Field.{Field}
use Rattle.cep_event.specs.declared.value.Kind.{Kind}
use Rattle.cep_event.specs.declared.value.Kind.TheVariants as kind
use Rattle.cep_expression.specs.declared.expr.Agg.{Agg}
use Rattle.cep_expression.specs.declared.expr.Agg.TheVariants as agg
use Rattle.cep_expression.specs.declared.expr.SynExpr.{SynExpr}
use Rattle.cep_expression.specs.declared.expr.SynNode.{SynNode, Int, Text, Bool as Truth, Field as OneField, Count, Of, Any', All', Compare', Add', Mul', Not', Neg', Row_of-SynExpr, end_of-SynExpr, more_of-SynExpr, Row_of-SynTerm, end_of-SynTerm, more_of-SynTerm, Row_of-SynFactor, end_of-SynFactor, more_of-SynFactor}
use Rattle.cep_syntax.specs.declared.file.ModKind.{ModKind}
use Rattle.cep_syntax.specs.declared.file.ModKind.TheVariants as modifier
use Rattle.cep_syntax.specs.declared.file.Opener.{Opener}
use Rattle.cep_syntax.specs.declared.file.File.{File}
use Rattle.pattern_rules.specs.declared.kind.Sort.{Sort}
use Rattle.pattern_rules.specs.declared.kind.Sort.TheVariants as sort
use Rattle.pattern_rules.specs.declared.kind.Wanted.{Wanted}
use Rattle.pattern_rules.specs.declared.kind.Wanted.TheVariants as want
use Rattle.pattern_rules.specs.First.{or_else, first_some}
use Rattle.pattern_rules.specs.Named.{meaning}

abbrev pub same_sort : Sort → Sort → Bool
same_sort sort.Int sort.Int = true
same_sort sort.Text sort.Text = true
same_sort sort.Bool sort.Bool = true
same_sort _ _ = false

-- the kind that a field was declared with; an unknown field is refused by another rule
abbrev pub field_sort : Option (ℕ × Kind) → Sort
field_sort None = sort.Int
field_sort (Some (number, kind.Int)) = sort.Int
field_sort (Some (number, kind.Text)) = sort.Text

abbrev pub aggregate_sort : Agg → Sort → Sort
aggregate_sort agg.First held = held
aggregate_sort agg.Last held = held
aggregate_sort _ held = sort.Int

-- the kind of an expression, which its outermost node tells
abbrev pub sort_of : List Field → SynNode → Sort
sort_of fields (Int n) = sort.Int
sort_of fields (Text t) = sort.Text
sort_of fields (Truth b) = sort.Bool
sort_of fields (OneField name) = field_sort (meaning fields name.text)
sort_of fields (Count name) = sort.Int
sort_of fields (Of how name field) = aggregate_sort how (field_sort (meaning fields field.text))
sort_of fields (Any' _ parts) = sort.Bool
sort_of fields (All' _ parts) = sort.Bool
sort_of fields (Compare' c _ x _ y) = sort.Bool
sort_of fields (Add' _ terms) = sort.Int
sort_of fields (Mul' _ factors) = sort.Int
sort_of fields (Not' _ x) = sort.Bool
sort_of fields (Neg' _ x) = sort.Int

-- `sum`, `min` and `max` are taken of numbers
abbrev pub aggregate_clash : Agg → Sort → ℕ → Option ℕ
aggregate_clash agg.First held place = None
aggregate_clash agg.Last held place = None
aggregate_clash _ held place = if same_sort held sort.Int then None else Some place

-- a kind is one that is wanted there
abbrev pub fits : Wanted → Sort → Bool
fits (want.Only sort) found = same_sort found sort
fits want.Value sort.Bool = false
fits want.Value _ = true

-- the place, where what stands there does not fit, and else what is found inside
abbrev pub unless : Bool → ℕ → Option ℕ → Option ℕ
unless does_fit place inside = if does_fit then inside else Some place

-- The first operand, in the order of the text, that has not the kind that its operator asks for. The two sides of a comparison are numbers or texts,
-- and the right side is of the left side's kind.
abbrev mutual
  pub clash_in : List Field → ℕ → SynNode → Option ℕ
  clash_in fields place (Int n) = None
  clash_in fields place (Text t) = None
  clash_in fields place (Truth b) = None
  clash_in fields place (OneField name) = None
  clash_in fields place (Count name) = None
  clash_in fields place (Of how name field) = aggregate_clash how (field_sort (meaning fields field.text)) place
  clash_in fields place (Any' _ parts) = clash_in_parts fields (want.Only sort.Bool) parts
  clash_in fields place (All' _ parts) = clash_in_parts fields (want.Only sort.Bool) parts
  clash_in fields place (Compare' c _ x _ y) = or_else (clash_in_parts fields want.Value x) (clash_in_parts fields (want.Only (sort_of_first fields x)) y)
  clash_in fields place (Add' _ terms) = clash_in_terms fields terms
  clash_in fields place (Mul' _ factors) = clash_in_factors fields factors
  clash_in fields place (Not' _ x) = clash_in_parts fields (want.Only sort.Bool) x
  clash_in fields place (Neg' _ x) = clash_in_parts fields (want.Only sort.Int) x

  pub clash_in_parts : {n : _} → List Field → Wanted → Row_of-SynExpr n → Option ℕ
  clash_in_parts fields asked end_of-SynExpr = None
  clash_in_parts fields asked (more_of-SynExpr place node parts) =
      or_else (unless (fits asked (sort_of fields node)) place (clash_in fields place node)) (clash_in_parts fields asked parts)

  pub sort_of_first : {n : _} → List Field → Row_of-SynExpr n → Sort
  sort_of_first fields end_of-SynExpr = sort.Int
  sort_of_first fields (more_of-SynExpr place node parts) = sort_of fields node

  pub clash_in_terms : {n : _} → List Field → Row_of-SynTerm n → Option ℕ
  clash_in_terms fields end_of-SynTerm = None
  clash_in_terms fields (more_of-SynTerm minus place node terms) =
      or_else (unless (fits (want.Only sort.Int) (sort_of fields node)) place (clash_in fields place node)) (clash_in_terms fields terms)

  pub clash_in_factors : {n : _} → List Field → Row_of-SynFactor n → Option ℕ
  clash_in_factors fields end_of-SynFactor = None
  clash_in_factors fields (more_of-SynFactor how place node factors) =
      or_else (unless (fits (want.Only sort.Int) (sort_of fields node)) place (clash_in fields place node)) (clash_in_factors fields factors)

-- the expression must have a kind that is wanted
unfoldable pub clash_unless : List Field → Wanted → SynExpr → Option ℕ
clash_unless fields asked e = unless (fits asked (sort_of fields e.node)) e.place (clash_in fields e.place e.node)

-- the argument of a condition must be a truth value
abbrev pub clash_in_modifier : List Field → ModKind → Option ℕ
clash_in_modifier fields (modifier.Filter join e) = clash_unless fields (want.Only sort.Bool) e
clash_in_modifier fields (modifier.Until e) = clash_unless fields (want.Only sort.Bool) e
clash_in_modifier fields _ = None

unfoldable pub clash_in_opener : List Field → Opener → Option ℕ
clash_in_opener fields o = first_some (λ m. clash_in_modifier fields m.what) o.mods

unfoldable pub clash_in_openers : List Field → List Opener → Option ℕ
clash_in_openers fields openers = first_some (clash_in_opener fields) openers

-- what is shown is a number or a text
abbrev pub clash_in_select : List Field → Option (List SynExpr) → Option ℕ
clash_in_select fields None = None
clash_in_select fields (Some es) = first_some (clash_unless fields want.Value) es

unfoldable pub kind_clash : List Field → File → Option ℕ
kind_clash fields file = or_else (clash_in_openers fields file.openers) (clash_in_select fields file.select)
