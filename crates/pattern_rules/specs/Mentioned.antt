-- Rules of what expressions mention. A condition sees the events that were taken before, as in the FlinkCEP chapter of the Flink manual; which names
-- it may use is this project's own.
use Rattle.std.specs.Prelude.{ℕ, Bool, true, false, not, ◌&&◌, nat_lt, List, Option, Some, None, if◌then◌else◌}
use Rattle.std.specs.List.{list_any, slice_get}
use Rattle.std.specs.Str.{bytes_eq}
use Rattle.cep_event.specs.declared.event.Field.{Field}
use Rattle.cep_reading.specs.declared.name.Name.{Name}
use Rattle.cep_expression.specs.declared.expr.SynExpr.{SynExpr}
use Rattle.cep_syntax.specs.declared.file.TypeDecl.{TypeDecl}
use Rattle.cep_syntax.specs.declared.file.Opener.{Opener}
use Rattle.cep_syntax.specs.declared.file.File.{File}
use Rattle.cep_syntax.specs.declared.file.ModKind.{ModKind}
use Rattle.cep_syntax.specs.declared.file.ModKind.TheVariants as modifier
use Rattle.pattern_rules.specs.declared.site.Site.{Site}
use Rattle.pattern_rules.specs.declared.site.Site.TheVariants as site
use Rattle.pattern_rules.specs.declared.mention.MentionRule.{MentionRule}
use Rattle.pattern_rules.specs.declared.mention.MentionRule.TheVariants as rule
use Rattle.pattern_rules.specs.First.{or_else, first_some, first_numbered, place_if}
use Rattle.pattern_rules.specs.Bounds.{is_negated}
use Rattle.pattern_rules.specs.Named.{is_declared, opener_number}
use Rattle.pattern_rules.specs.Fields.{is_known}
use Rattle.pattern_rules.specs.Mention.{Mention, a_field, a_stage, a_stage_field, mentions_of}

-- a type has this name and a field of the other name
abbrev pub has_field : List TypeDecl → List ℕ → List ℕ → Bool
has_field types type name = list_any (λ d. bytes_eq d.name.text type && is_declared d.fields name) types

-- events of this type, or of any type where none is named, may have the field
abbrev pub may_have : List TypeDecl → List Field → Option Name → List ℕ → Bool
may_have types fields None name = is_known fields name
may_have types fields (Some type) name = has_field types type.text name

-- the opener with a number names this type
abbrev pub type_of : Option Opener → Option Name
type_of None = None
type_of (Some o) = o.of

-- the type that the events of a name's stage have; of a negation's there are none, so any
abbrev pub type_taken : Option Opener → Option Name
type_taken None = None
type_taken (Some o) = if is_negated o.how then None else o.of

-- ---- fields

-- a field that stands by itself: of the event that a condition is asked of, of the event that may end a loop, or of none
abbrev pub is_unknown_field : File → List Field → Site → List ℕ → Bool
is_unknown_field file fields (site.Condition k) name = not (may_have file.types fields (type_of (slice_get file.openers k)) name)
is_unknown_field file fields (site.Until k) name = not (is_known fields name)
is_unknown_field file fields site.Select name = true

abbrev pub bad_field : MentionRule → File → List Field → Site → Name → Option ℕ
bad_field rule.UnknownField file fields spot name = place_if (is_unknown_field file fields spot name.text) name.place
bad_field _ file fields spot name = None

-- a field of the events of a stage
abbrev pub unknown_field_of : File → List Field → Name → Name → Option ℕ
unknown_field_of file fields name field =
    place_if (not (may_have file.types fields (type_taken (slice_get file.openers (opener_number file.openers name.text))) field.text)) field.place

-- ---- names of stages

abbrev pub is_none : Option Opener → Bool
is_none None = true
is_none (Some o) = false

-- a positive stage stands after the opener of this number
abbrev pub is_later : ℕ → ℕ → Option Opener → Bool
is_later own number None = false
is_later own number (Some o) = not (is_negated o.how) && nat_lt own number

abbrev pub is_later_at : Site → ℕ → Option Opener → Bool
is_later_at (site.Condition k) number found = is_later k number found
is_later_at (site.Until k) number found = is_later k number found
is_later_at site.Select number found = false

abbrev pub is_negated_one : Option Opener → Bool
is_negated_one None = false
is_negated_one (Some o) = is_negated o.how

-- the name of an aggregate breaks the rule, from where its stage stands
abbrev pub is_bad_name : MentionRule → Site → ℕ → Option Opener → Bool
is_bad_name rule.UnknownField spot number found = false
is_bad_name rule.UnknownName spot number found = is_none found
is_bad_name rule.LaterName spot number found = is_later_at spot number found
is_bad_name rule.NegatedName spot number found = is_negated_one found

abbrev pub bad_name : MentionRule → List Opener → Site → Name → Option ℕ
bad_name asked openers spot name =
    place_if (is_bad_name asked spot (opener_number openers name.text) (slice_get openers (opener_number openers name.text))) name.place

abbrev pub bad_aggregate : MentionRule → File → List Field → Site → Name → Name → Option ℕ
bad_aggregate rule.UnknownField file fields spot name field = unknown_field_of file fields name field
bad_aggregate asked file fields spot name field = bad_name asked file.openers spot name

-- ---- expressions and files

abbrev pub bad_mention : MentionRule → File → List Field → Site → Mention → Option ℕ
bad_mention asked file fields spot (a_field name) = bad_field asked file fields spot name
bad_mention asked file fields spot (a_stage name) = bad_name asked file.openers spot name
bad_mention asked file fields spot (a_stage_field name field) = bad_aggregate asked file fields spot name field

unfoldable pub bad_expression : MentionRule → File → List Field → Site → SynExpr → Option ℕ
bad_expression asked file fields spot e = first_some (bad_mention asked file fields spot) (mentions_of e)

abbrev pub bad_modifier : MentionRule → File → List Field → ℕ → ModKind → Option ℕ
bad_modifier asked file fields k (modifier.Filter join e) = bad_expression asked file fields (site.Condition k) e
bad_modifier asked file fields k (modifier.Until e) = bad_expression asked file fields (site.Until k) e
bad_modifier asked file fields k _ = None

unfoldable pub bad_opener : MentionRule → File → List Field → ℕ → Opener → Option ℕ
bad_opener asked file fields k o = first_some (λ m. bad_modifier asked file fields k m.what) o.mods

unfoldable pub bad_conditions : MentionRule → File → List Field → Option ℕ
bad_conditions asked file fields = first_numbered (bad_opener asked file fields) file.openers

abbrev pub bad_shown : MentionRule → File → List Field → Option (List SynExpr) → Option ℕ
bad_shown asked file fields None = None
bad_shown asked file fields (Some es) = first_some (bad_expression asked file fields site.Select) es

unfoldable pub bad_select : MentionRule → File → List Field → Option ℕ
bad_select asked file fields = bad_shown asked file fields file.select

unfoldable pub broken_by_mention : MentionRule → File → List Field → Option ℕ
broken_by_mention asked file fields = or_else (bad_conditions asked file fields) (bad_select asked file fields)
