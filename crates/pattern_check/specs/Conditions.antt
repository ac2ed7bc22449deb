-- The conditions of a stage: `where` and `or` are joined from the left, as in the FlinkCEP chapter of the Flink manual.
use Rattle.std.specs.Prelude.{List, [], ◌∷◌, Option, Some, None}
use Rattle.std.specs.List.{flat_map}
use Rattle.cep_event.specs.declared.event.Field.{Field}
use Rattle.cep_plan.specs.declared.condition.Cond.{Cond}
use Rattle.cep_plan.specs.declared.condition.Part.{Part}
use Rattle.cep_plan.specs.declared.condition.Join.TheVariants as join
use Rattle.cep_expression.specs.declared.expr.SynExpr.{SynExpr}
use Rattle.cep_syntax.specs.declared.file.ModKind.{ModKind}
use Rattle.cep_syntax.specs.declared.file.ModKind.TheVariants as modifier
use Rattle.cep_syntax.specs.declared.file.Modifier.{Modifier}
use Rattle.cep_syntax.specs.declared.file.Opener.{Opener}
use Rattle.pattern_rules.specs.First.{first_some}
use Rattle.pattern_check.specs.Translated.{expr_of, join_of}

-- a `where` or `or` is one part, any other modifier none
abbrev pub parts_of : List Field → List Opener → ModKind → List Part
parts_of fields openers (modifier.Filter way e) = record { join = join_of way; expr = expr_of fields openers e } ∷ []
parts_of fields openers _ = []

unfoldable pub cond_of : List Field → List Opener → List Modifier → Cond
cond_of fields openers mods = record { parts = flat_map (λ m. parts_of fields openers m.what) mods }

-- a condition of one part
abbrev pub cond_of_one : List Field → List Opener → SynExpr → Cond
cond_of_one fields openers e = record { parts = record { join = join.Both; expr = expr_of fields openers e } ∷ [] }

abbrev pub until_in : List Field → List Opener → ModKind → Option Cond
until_in fields openers (modifier.Until e) = Some (cond_of_one fields openers e)
until_in fields openers _ = None

unfoldable pub until_of : List Field → List Opener → List Modifier → Option Cond
until_of fields openers mods = first_some (λ m. until_in fields openers m.what) mods
