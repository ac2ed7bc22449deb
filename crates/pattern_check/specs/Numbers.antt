-- The numbers that stand for names in a plan. Numbers of types, fields and stages count from 0, those of stages the positive ones alone. This is this
-- project's own.
use Rattle.std.specs.Prelude.{ℕ, ℤ, pos, min, Bool, not, List, take, Option, Some, None}
use Rattle.std.specs.List.{count_by}
use Rattle.cep_event.specs.declared.event.Field.{Field}
use Rattle.cep_event.specs.declared.value.Kind.{Kind}
use Rattle.cep_token.specs.declared.token.TheConstants.{GREATEST_NUMBER}
use Rattle.cep_reading.specs.declared.name.Name.{Name}
use Rattle.cep_syntax.specs.declared.file.TypeDecl.{TypeDecl}
use Rattle.cep_syntax.specs.declared.file.Opener.{Opener}
use Rattle.pattern_rules.specs.declared.role.TheConstants.{MOST_TIMES}
use Rattle.pattern_rules.specs.Bounds.{is_negated}
use Rattle.pattern_rules.specs.Named.{type_number, opener_number, meaning}

-- a number of an expression; a file's numbers are below 2 ^ 63
abbrev pub whole : ℕ → ℤ
whole n = pos (min n GREATEST_NUMBER)

-- a number of a loop; those of an accepted file are at most 256
abbrev pub times : ℕ → ℕ
times n = min n MOST_TIMES

abbrev pub is_positive : Opener → Bool
is_positive o = not (is_negated o.how)

-- how many positive stages stand before the opener of this name
abbrev pub stages_before : List Opener → List ℕ → ℕ
stages_before openers name = count_by is_positive (take (opener_number openers name) openers)

abbrev pub number_in : Option (ℕ × Kind) → ℕ
number_in None = 0
number_in (Some (number, kind)) = number

abbrev pub field_number : List Field → List ℕ → ℕ
field_number fields name = number_in (meaning fields name)

abbrev pub of_number : List TypeDecl → Option Name → Option ℕ
of_number types None = None
of_number types (Some name) = Some (type_number types name.text)
