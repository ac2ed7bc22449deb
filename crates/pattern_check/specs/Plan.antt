-- The plan of a file: what an accepted file says, with numbers in place of names. The contiguities, loops and skip strategies are those of the
-- FlinkCEP chapter of the Flink manual.
use Rattle.std.specs.Prelude.{ℕ, ◌-◌, Bool, true, false, List, map, Option, Some, None, if◌then◌else◌}
use Rattle.std.specs.List.{filter}
use Rattle.std.specs.Option.{option_map}
use Rattle.cep_event.specs.declared.event.Field.{Field}
use Rattle.cep_event.specs.declared.event.EventType.{EventType}
use Rattle.cep_plan.specs.declared.condition.Expr.{Expr}
use Rattle.cep_plan.specs.declared.plan.Plan.{Plan}
use Rattle.cep_plan.specs.declared.plan.Stage.{Stage}
use Rattle.cep_plan.specs.declared.plan.Negation.{Negation}
use Rattle.cep_plan.specs.declared.plan.Contiguity.{Contiguity}
use Rattle.cep_plan.specs.declared.plan.Contiguity.TheVariants as contiguity
use Rattle.cep_plan.specs.declared.plan.Skip.{Skip}
use Rattle.cep_plan.specs.declared.plan.Skip.TheVariants as plan_skip
use Rattle.cep_expression.specs.declared.expr.SynExpr.{SynExpr}
use Rattle.cep_syntax.specs.declared.file.FieldDecl.{FieldDecl}
use Rattle.cep_syntax.specs.declared.file.TypeDecl.{TypeDecl}
use Rattle.cep_syntax.specs.declared.file.OpenKind.{OpenKind}
use Rattle.cep_syntax.specs.declared.file.OpenKind.TheVariants as how
use Rattle.cep_syntax.specs.declared.file.Modifier.{Modifier}
use Rattle.cep_syntax.specs.declared.file.Opener.{Opener}
use Rattle.cep_syntax.specs.declared.file.PlacedNumber.{PlacedNumber}
use Rattle.cep_syntax.specs.declared.file.SkipDecl.{SkipDecl}
use Rattle.cep_syntax.specs.declared.file.SkipDecl.TheVariants as skip
use Rattle.cep_syntax.specs.declared.file.File.{File}
use Rattle.pattern_rules.specs.declared.role.Role.TheVariants as role
use Rattle.pattern_rules.specs.Role.{has}
use Rattle.pattern_rules.specs.Bounds.{is_negated, bounds_of}
use Rattle.pattern_rules.specs.Fields.{known_fields}
use Rattle.pattern_check.specs.Numbers.{times, is_positive, stages_before, field_number, of_number}
use Rattle.pattern_check.specs.Translated.{expr_of}
use Rattle.pattern_check.specs.Conditions.{cond_of, until_of}

-- ---- types

abbrev pub field_of : List Field → FieldDecl → Field
field_of fields d = record { name = d.name.text; number = field_number fields d.name.text; kind = d.kind }

abbrev pub fields_of : List Field → List FieldDecl → List Field
fields_of fields declared = map (field_of fields) declared

abbrev pub type_of : List Field → TypeDecl → EventType
type_of fields d = record { name = d.name.text; fields = fields_of fields d.fields }

abbrev pub types_of : List Field → List TypeDecl → List EventType
types_of fields types = map (type_of fields) types

-- ---- stages

-- the contiguity between the stage before and the first event of this one
abbrev pub first_of : OpenKind → Contiguity
first_of how.Next = contiguity.Strict
first_of how.FollowedBy = contiguity.Relaxed
first_of _ = contiguity.Any

-- the contiguity between the events of one stage
abbrev pub inner_of : List Modifier → Contiguity
inner_of mods =
    if has role.Consecutive mods then contiguity.Strict
    else (if has role.Combining mods then contiguity.Any else contiguity.Relaxed)

unfoldable pub stage_of : List Field → File → Opener → Stage
stage_of fields file o = record {
  name = o.name.text;
  of = of_number file.types o.of;
  cond = cond_of fields file.openers o.mods;
  until = until_of fields file.openers o.mods;
  first = first_of o.how;
  inner = inner_of o.mods;
  min = times (bounds_of o.mods).0;
  max = option_map times (bounds_of o.mods).1;
  optional = has role.Optional o.mods;
}

-- the positive stages in the order of the pattern
unfoldable pub stages_of : List Field → File → List Stage
stages_of fields file = map (stage_of fields file) (filter is_positive file.openers)

abbrev pub is_not_next : OpenKind → Bool
is_not_next how.NotNext = true
is_not_next _ = false

-- A negation stands behind the last positive stage before it.
unfoldable pub negation_of : List Field → File → Opener → Negation
negation_of fields file o = record {
  name = o.name.text;
  after = stages_before file.openers o.name.text - 1;
  next_only = is_not_next o.how;
  of = of_number file.types o.of;
  cond = cond_of fields file.openers o.mods;
}

-- the negations in the order of the pattern
unfoldable pub negations_of : List Field → File → List Negation
negations_of fields file = map (negation_of fields file) (filter (λ o. is_negated o.how) file.openers)

-- ---- the rest

abbrev pub limit_of : Option PlacedNumber → Option ℕ
limit_of None = None
limit_of (Some n) = Some n.value

-- nothing is skipped where the file says nothing
abbrev pub skip_of : List Opener → Option SkipDecl → Skip
skip_of openers (Some skip.ToNext) = plan_skip.ToNext
skip_of openers (Some skip.PastLast) = plan_skip.PastLast
skip_of openers (Some (skip.ToFirst name)) = plan_skip.ToFirst (stages_before openers name.text)
skip_of openers (Some (skip.ToLast name)) = plan_skip.ToLast (stages_before openers name.text)
skip_of openers _ = plan_skip.No

abbrev pub select_of : List Field → List Opener → Option (List SynExpr) → Option (List Expr)
select_of fields openers None = None
select_of fields openers (Some es) = Some (map (expr_of fields openers) es)

abbrev pub plan_with : List Field → File → Plan
plan_with fields file = record {
  types = types_of fields file.types;
  stages = stages_of fields file;
  negations = negations_of fields file;
  within = limit_of file.within;
  within_gap = limit_of file.within_gap;
  by = None;
  skip = skip_of file.openers file.skip;
  select = select_of fields file.openers file.select;
}

unfoldable pub plan_of : File → Plan
plan_of file = plan_with (known_fields file.types) file
