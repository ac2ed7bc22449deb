-- An index of types by name, for their fields. This is this project's own.
use Rattle.std.specs.Prelude.{◌≡◌, ℕ, Bool, false, List, Option, Some, None, String}
use Rattle.std.specs.Global.{Global}
use Rattle.std.specs.BTreeMap.{get_by_text}
use Rattle.std.specs.BTreeSet.{BTreeSet, contains_text}
use Rattle.cep_syntax.specs.declared.file.TypeDecl.{TypeDecl}
use Rattle.pattern_rules.specs.declared.type_fields.TypeFields.{TypeFields}
use Rattle.pattern_rules.specs.Mentioned.{has_field}

-- there is a set of names, and the name is in it
abbrev pub holds : Option (BTreeSet (String Global)) → List ℕ → Bool
holds None name = false
holds (Some names) name = contains_text names name

-- it finds the fields of the types of each name
abbrev pub AreFieldsOf : TypeFields → List TypeDecl → Type 0
AreFieldsOf fields types = (type name : List ℕ) → holds (get_by_text fields.types type) name ≡ has_field types type name
