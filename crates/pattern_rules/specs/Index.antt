-- An index of fields by name: it finds what the list of fields says. This is this project's own.
use Rattle.std.specs.Prelude.{◌≡◌, ℕ, List}
use Rattle.std.specs.BTreeMap.{get_by_text}
use Rattle.cep_event.specs.declared.event.Field.{Field}
use Rattle.pattern_rules.specs.declared.fields.KnownFields.TheInside.{Inside}
use Rattle.pattern_rules.specs.Named.{meaning}

abbrev pub fields_in : Inside → List Field
fields_in known = known.list

pub record IsIndexed (known : Inside) : Type 0 where
  pub found : (name : List ℕ) → get_by_text known.index name ≡ meaning known.list name
