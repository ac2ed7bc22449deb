-- The rules of a file, in the order in which they are asked: the first that is broken is told, at the first place where it is. The codes are this
-- project's own. A further rule is a further entry.
use Rattle.std.specs.Prelude.{ℕ, List, [], ◌∷◌, Option, Some, None}
use Rattle.cep_event.specs.declared.event.Field.{Field}
use Rattle.cep_syntax.specs.declared.file.File.{File}
use Rattle.pattern_rules.specs.declared.stage.StageRule.TheVariants as stage
use Rattle.pattern_rules.specs.declared.mention.MentionRule.TheVariants as mention
use Rattle.pattern_rules.specs.declared.rule.Rule.{Rule}
use Rattle.pattern_rules.specs.declared.rule.Rule.TheVariants as rule
use Rattle.pattern_rules.specs.declared.rule.Fault.{Fault}
use Rattle.pattern_rules.specs.First.{first_some}
use Rattle.pattern_rules.specs.Fields.{known_fields}
use Rattle.pattern_rules.specs.Declarations.{twice_type, field_kinds}
use Rattle.pattern_rules.specs.Stages.{broken_in_stages, twice_stage, ends_with_not, not_after_optional, too_many_stages, too_many_states}
use Rattle.pattern_rules.specs.Mentioned.{broken_by_mention}
use Rattle.pattern_rules.specs.Kinds.{kind_clash}
use Rattle.pattern_rules.specs.Whole.{has_limit, bad_within, skip_name}

-- the rules in order, with their codes
abbrev pub rules : List (ℕ × Rule)
rules =
    (10, rule.TwiceType)
    ∷ (11, rule.FieldKinds)
    ∷ (12, rule.Stage stage.UnknownType)
    ∷ (13, rule.TwiceStage)
    ∷ (14, rule.EndsWithNot)
    ∷ (15, rule.NotAfterOptional)
    ∷ (16, rule.Stage stage.QuantifierOnNot)
    ∷ (17, rule.Stage stage.TwiceQuantifier)
    ∷ (18, rule.Stage stage.BadTimes)
    ∷ (19, rule.Stage stage.ModeWithoutLoop)
    ∷ (20, rule.Stage stage.TwoModes)
    ∷ (21, rule.Stage stage.UntilWithoutOpenLoop)
    ∷ (22, rule.Mention mention.UnknownField)
    ∷ (23, rule.KindClash)
    ∷ (24, rule.Mention mention.UnknownName)
    ∷ (25, rule.Mention mention.LaterName)
    ∷ (26, rule.Mention mention.NegatedName)
    ∷ (27, rule.BadWithin)
    ∷ (28, rule.SkipName)
    ∷ (29, rule.TooManyStages)
    ∷ (30, rule.TooManyStates)
    ∷ []

-- the first place where a rule is broken, with the fields that the file knows
abbrev pub broken_by : File → List Field → Rule → Option ℕ
broken_by file fields rule.TwiceType = twice_type file.types
broken_by file fields rule.FieldKinds = field_kinds fields file.types
broken_by file fields (rule.Stage asked) = broken_in_stages asked file.types file.openers
broken_by file fields rule.TwiceStage = twice_stage file.openers
broken_by file fields rule.EndsWithNot = ends_with_not (has_limit file) file.openers
broken_by file fields rule.NotAfterOptional = not_after_optional file.openers
broken_by file fields (rule.Mention asked) = broken_by_mention asked file fields
broken_by file fields rule.KindClash = kind_clash fields file
broken_by file fields rule.BadWithin = bad_within file
broken_by file fields rule.SkipName = skip_name file.openers file.skip
broken_by file fields rule.TooManyStages = too_many_stages file.openers
broken_by file fields rule.TooManyStates = too_many_states file.openers

abbrev pub fault_at : ℕ → Option ℕ → Option Fault
fault_at code None = None
fault_at code (Some place) = Some (record { place = place; code = code })

abbrev pub fault_by : File → List Field → ℕ × Rule → Option Fault
fault_by file fields (code, asked) = fault_at code (broken_by file fields asked)

-- the first rule that is broken, with the fields that the file knows
unfoldable pub fault_with : List Field → File → Option Fault
fault_with fields file = first_some (fault_by file fields) rules

-- the lowest code whose rule is broken, and its first place
abbrev pub fault_of : File → Option Fault
fault_of file = fault_with (known_fields file.types) file
