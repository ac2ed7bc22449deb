-- What names stand for in a file. This is this project's own.
use Rattle.std.specs.Prelude.{ℕ, Bool, List, Option, Some, None, if◌then◌else◌}
use Rattle.std.specs.List.{list_any, position_or_len}
use Rattle.std.specs.Str.{bytes_eq}
use Rattle.cep_event.specs.declared.event.Field.{Field}
use Rattle.cep_event.specs.declared.value.Kind.{Kind}
use Rattle.cep_syntax.specs.declared.file.FieldDecl.{FieldDecl}
use Rattle.cep_syntax.specs.declared.file.TypeDecl.{TypeDecl}
use Rattle.cep_syntax.specs.declared.file.Opener.{Opener}
use Rattle.pattern_rules.specs.First.{first_some}

-- a type has this name
abbrev pub is_type : List TypeDecl → List ℕ → Bool
is_type types name = list_any (λ d. bytes_eq d.name.text name) types

-- a stage, negated or not, has this name
abbrev pub is_stage : List Opener → List ℕ → Bool
is_stage openers name = list_any (λ o. bytes_eq o.name.text name) openers

-- a type's fields have this name among them
abbrev pub is_declared : List FieldDecl → List ℕ → Bool
is_declared fields name = list_any (λ f. bytes_eq f.name.text name) fields

-- the number of the type with this name, or how many types there are
abbrev pub type_number : List TypeDecl → List ℕ → ℕ
type_number types name = position_or_len (λ d. bytes_eq d.name.text name) types

-- the place of the stage with this name among all openers, or how many there are
abbrev pub opener_number : List Opener → List ℕ → ℕ
opener_number openers name = position_or_len (λ o. bytes_eq o.name.text name) openers

-- what a field's name means: its number and its kind
abbrev pub meaning_if : List ℕ → Field → Option (ℕ × Kind)
meaning_if name f = if bytes_eq f.name name then Some (f.number, f.kind) else None

abbrev pub meaning : List Field → List ℕ → Option (ℕ × Kind)
meaning fields name = first_some (meaning_if name) fields
