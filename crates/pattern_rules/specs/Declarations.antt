-- Rules of declarations. They are this project's own.
use Rattle.std.specs.Prelude.{ℕ, Bool, true, false, not, ◌||◌, List, take, Option, Some, None}
use Rattle.cep_event.specs.declared.event.Field.{Field}
use Rattle.cep_event.specs.declared.value.Kind.{Kind}
use Rattle.cep_event.specs.declared.value.Kind.TheVariants as kind
use Rattle.cep_syntax.specs.declared.file.FieldDecl.{FieldDecl}
use Rattle.cep_syntax.specs.declared.file.TypeDecl.{TypeDecl}
use Rattle.pattern_rules.specs.First.{first_some, first_numbered, place_if}
use Rattle.pattern_rules.specs.Named.{is_type, is_declared, meaning}

abbrev pub same_kind : Kind → Kind → Bool
same_kind kind.Int kind.Int = true
same_kind kind.Text kind.Text = true
same_kind _ _ = false

-- a type's name was declared before
unfoldable pub twice_type : List TypeDecl → Option ℕ
twice_type types = first_numbered (λ k d. place_if (is_type (take k types) d.name.text) d.name.place) types

-- the name was first declared with another kind
abbrev pub is_other : Option (ℕ × Kind) → Kind → Bool
is_other None k = false
is_other (Some (number, first)) k = not (same_kind first k)

-- a field's name stands before it in its type, or was first declared with another kind
abbrev pub clashing_field : List Field → List FieldDecl → ℕ → FieldDecl → Option ℕ
clashing_field known fields k f = place_if (is_declared (take k fields) f.name.text || is_other (meaning known f.name.text) f.kind) f.name.place

abbrev pub clash_in_type : List Field → List FieldDecl → Option ℕ
clash_in_type known fields = first_numbered (clashing_field known fields) fields

-- a field's name stands twice in one type, or has another kind than before
unfoldable pub field_kinds : List Field → List TypeDecl → Option ℕ
field_kinds known types = first_some (λ d. clash_in_type known d.fields) types
