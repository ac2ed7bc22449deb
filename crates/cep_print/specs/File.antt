-- The text of a file in its one form: each type on a line, the pattern on one line, and then the skip and the select. This is this project's own.
use Rattle.std.specs.Prelude.{ℕ, List, [], ◌++◌, flat_map, map, codes, decimal, Option, Some, None}
use Rattle.cep_event.specs.declared.value.Kind.{Kind}
use Rattle.cep_event.specs.declared.value.Kind.TheVariants as kind
use Rattle.cep_reading.specs.declared.name.Name.{Name}
use Rattle.cep_expression.specs.declared.expr.SynExpr.{SynExpr}
use Rattle.cep_syntax.specs.declared.file.FieldDecl.{FieldDecl}
use Rattle.cep_syntax.specs.declared.file.TypeDecl.{TypeDecl}
use Rattle.cep_syntax.specs.declared.file.OpenKind.{OpenKind}
use Rattle.cep_syntax.specs.declared.file.OpenKind.TheVariants.{Begin, Next, FollowedBy, FollowedByAny, NotNext, NotFollowedBy}
use Rattle.cep_syntax.specs.declared.file.Join.{Join}
use Rattle.cep_syntax.specs.declared.file.Join.TheVariants.{Both, Either}
use Rattle.cep_syntax.specs.declared.file.ModKind.{ModKind}
use Rattle.cep_syntax.specs.declared.file.ModKind.TheVariants.{Filter, Until, Times, TimesOrMore, OneOrMore, Optional, Consecutive, AllowCombinations}
use Rattle.cep_syntax.specs.declared.file.Modifier.{Modifier}
use Rattle.cep_syntax.specs.declared.file.Opener.{Opener}
use Rattle.cep_syntax.specs.declared.file.PlacedNumber.{PlacedNumber}
use Rattle.cep_syntax.specs.declared.file.SkipDecl.{SkipDecl}
use Rattle.cep_syntax.specs.declared.file.SkipDecl.TheVariants.{No, ToNext, PastLast, ToFirst, ToLast}
use Rattle.cep_syntax.specs.declared.file.File.{File}
use Rattle.cep_print.specs.Literal.{Text, literal}
use Rattle.cep_print.specs.Expression.{chained, expression_text}

-- ---- types

abbrev pub kind_text : Kind → Text
kind_text kind.Int = codes "int"
kind_text kind.Text = codes "text"

abbrev pub field_text : FieldDecl → Text
field_text f = f.name.text ++ (codes " " ++ kind_text f.kind)

-- a field with what stands before it, if it isn't the first
abbrev pub field_part : FieldDecl → Text × Text
field_part f = (codes ", ", field_text f)

abbrev pub type_text : TypeDecl → Text
type_text d = codes "event " ++ (d.name.text ++ (codes "(" ++ (chained (map field_part d.fields) ++ codes ");\n")))

-- ---- the pattern

abbrev pub opening_text : OpenKind → Text
opening_text Begin = codes "begin("
opening_text Next = codes "next("
opening_text FollowedBy = codes "followedBy("
opening_text FollowedByAny = codes "followedByAny("
opening_text NotNext = codes "notNext("
opening_text NotFollowedBy = codes "notFollowedBy("

abbrev pub of_text : Option Name → Text
of_text None = []
of_text (Some name) = codes ".of(" ++ (name.text ++ codes ")")

abbrev pub join_text : Join → Text
join_text Both = codes ".where("
join_text Either = codes ".or("

-- a second number of `times`
abbrev pub second_text : Option ℕ → Text
second_text None = []
second_text (Some n) = codes ", " ++ decimal n

abbrev pub times_text : ℕ → Option ℕ → Text
times_text from to = codes ".times(" ++ (decimal from ++ (second_text to ++ codes ")"))

abbrev pub times_or_more_text : ℕ → Text
times_or_more_text from = codes ".timesOrMore(" ++ (decimal from ++ codes ")")

abbrev pub condition_text : Text → SynExpr → Text
condition_text opening e = opening ++ (expression_text e ++ codes ")")

abbrev pub modifier_text : ModKind → Text
modifier_text (Filter join e) = condition_text (join_text join) e
modifier_text (Until e) = condition_text (codes ".until(") e
modifier_text (Times from to) = times_text from to
modifier_text (TimesOrMore from) = times_or_more_text from
modifier_text OneOrMore = codes ".oneOrMore()"
modifier_text Optional = codes ".optional()"
modifier_text Consecutive = codes ".consecutive()"
modifier_text AllowCombinations = codes ".allowCombinations()"

abbrev pub modifiers_text : List Modifier → Text
modifiers_text mods = flat_map (λ m. modifier_text m.what) mods

abbrev pub opened_text : OpenKind → Text → Text
opened_text how name = opening_text how ++ (literal name ++ codes ")")

abbrev pub stage_text : Opener → Text
stage_text o = opened_text o.how o.name.text ++ (of_text o.of ++ modifiers_text o.mods)

-- a stage with what stands before it, if it isn't the first
abbrev pub stage_part : Opener → Text × Text
stage_part o = (codes ".", stage_text o)

abbrev pub limit_text : Text → Option PlacedNumber → Text
limit_text opening None = []
limit_text opening (Some n) = opening ++ (decimal n.value ++ codes ")")

abbrev pub limits_text : Option PlacedNumber → Option PlacedNumber → Text
limits_text within gap = limit_text (codes ".within(") within ++ limit_text (codes ".withinGap(") gap

abbrev pub pattern_text : List Opener → Option PlacedNumber → Option PlacedNumber → Text
pattern_text openers within gap = codes "pattern " ++ (chained (map stage_part openers) ++ (limits_text within gap ++ codes ";\n"))

-- ---- the skip and the select

abbrev pub named_text : Text → Text → Text
named_text opening name = opening ++ (literal name ++ codes ")")

abbrev pub skip_kind_text : SkipDecl → Text
skip_kind_text No = codes "none"
skip_kind_text ToNext = codes "to_next"
skip_kind_text PastLast = codes "past_last"
skip_kind_text (ToFirst name) = named_text (codes "to_first(") name.text
skip_kind_text (ToLast name) = named_text (codes "to_last(") name.text

abbrev pub skip_text : Option SkipDecl → Text
skip_text None = []
skip_text (Some what) = codes "skip " ++ (skip_kind_text what ++ codes ";\n")

-- an expression of the select with what stands before it, if it isn't the first
abbrev pub shown_part : SynExpr → Text × Text
shown_part e = (codes ", ", expression_text e)

abbrev pub select_text : Option (List SynExpr) → Text
select_text None = []
select_text (Some shown) = codes "select " ++ (chained (map shown_part shown) ++ codes ";\n")

-- ---- all

abbrev pub types_text : List TypeDecl → Text
types_text types = flat_map type_text types

abbrev pub printed : File → Text
printed f = types_text f.types ++ (pattern_text f.openers f.within f.within_gap ++ (skip_text f.skip ++ select_text f.select))
