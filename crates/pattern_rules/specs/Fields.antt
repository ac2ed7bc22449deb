-- The distinct names of fields in the order of first declaration, each with its number in that order and the kind that it was first declared with.
-- This is this project's own.
use Rattle.std.specs.Prelude.{ℕ, Bool, length, List, [], ◌∷◌, ◌++◌, fold, if◌then◌else◌}
use Rattle.std.specs.List.{list_any}
use Rattle.std.specs.Str.{bytes_eq}
use Rattle.cep_event.specs.declared.event.Field.{Field}
use Rattle.cep_syntax.specs.declared.file.FieldDecl.{FieldDecl}
use Rattle.cep_syntax.specs.declared.file.TypeDecl.{TypeDecl}

-- some of the fields has the name
abbrev pub is_known : List Field → List ℕ → Bool
is_known fields name = list_any (λ f. bytes_eq f.name name) fields

-- the fields with one more, if its name is new
abbrev pub with_field : List Field → FieldDecl → List Field
with_field fields d = if is_known fields d.name.text then fields else fields ++ record { name = d.name.text; number = length fields; kind = d.kind } ∷ []

abbrev pub with_fields : List Field → List FieldDecl → List Field
with_fields fields more = fold with_field fields more

unfoldable pub known_fields : List TypeDecl → List Field
known_fields types = fold (λ fields d. with_fields fields d.fields) [] types
