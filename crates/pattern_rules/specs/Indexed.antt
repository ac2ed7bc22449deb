-- A file with indexes of its names: they find what the file says. This is this project's own.
use Rattle.std.specs.Prelude.{map}
use Rattle.cep_syntax.specs.declared.file.File.{File}
use Rattle.pattern_rules.specs.declared.indexed.IndexedFile.TheInside.{Inside}
use Rattle.pattern_rules.specs.Names.{IsIndexOf}
use Rattle.pattern_rules.specs.TypeFields.{AreFieldsOf}

abbrev pub file_in : Inside → File
file_in indexed = indexed.file.now

pub record IsIndexed (indexed : Inside) : Type 0 where
  pub types : IsIndexOf indexed.types (map (λ d. d.name.text) indexed.file.now.types)
  pub stages : IsIndexOf indexed.stages (map (λ o. o.name.text) indexed.file.now.openers)
  pub fields : AreFieldsOf indexed.fields indexed.file.now.types
