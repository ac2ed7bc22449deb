-- Two files are the same where they are equal but for their places. This is this project's own.
use Rattle.std.specs.Prelude.{◌≡◌, map, option_map}
use Rattle.cep_syntax.specs.declared.file.FieldDecl.{FieldDecl}
use Rattle.cep_syntax.specs.declared.file.TypeDecl.{TypeDecl}
use Rattle.cep_syntax.specs.declared.file.ModKind.{ModKind}
use Rattle.cep_syntax.specs.declared.file.ModKind.TheVariants.{Filter, Until, Times, TimesOrMore, OneOrMore, Optional, Consecutive, AllowCombinations}
use Rattle.cep_syntax.specs.declared.file.Modifier.{Modifier}
use Rattle.cep_syntax.specs.declared.file.Opener.{Opener}
use Rattle.cep_syntax.specs.declared.file.PlacedNumber.{PlacedNumber}
use Rattle.cep_syntax.specs.declared.file.SkipDecl.{SkipDecl}
use Rattle.cep_syntax.specs.declared.file.SkipDecl.TheVariants.{No, ToNext, PastLast, ToFirst, ToLast}
use Rattle.cep_syntax.specs.declared.file.File.{File}
use Rattle.cep_print.specs.Same.{unplaced_name, unplaced}

abbrev pub unplaced_field : FieldDecl → FieldDecl
unplaced_field f = record { name = unplaced_name f.name; kind = f.kind }

abbrev pub unplaced_type : TypeDecl → TypeDecl
unplaced_type d = record { name = unplaced_name d.name; fields = map unplaced_field d.fields }

abbrev pub unplaced_kind : ModKind → ModKind
unplaced_kind (Filter join e) = Filter join (unplaced e)
unplaced_kind (Until e) = Until (unplaced e)
unplaced_kind (Times from to) = Times from to
unplaced_kind (TimesOrMore from) = TimesOrMore from
unplaced_kind OneOrMore = OneOrMore
unplaced_kind Optional = Optional
unplaced_kind Consecutive = Consecutive
unplaced_kind AllowCombinations = AllowCombinations

abbrev pub unplaced_modifier : Modifier → Modifier
unplaced_modifier m = record { what = unplaced_kind m.what; place = 0 }

abbrev pub unplaced_stage : Opener → Opener
unplaced_stage o = record { how = o.how; name = unplaced_name o.name; of = option_map unplaced_name o.of; mods = map unplaced_modifier o.mods }

abbrev pub unplaced_limit : PlacedNumber → PlacedNumber
unplaced_limit n = record { value = n.value; place = 0 }

abbrev pub unplaced_skip : SkipDecl → SkipDecl
unplaced_skip No = No
unplaced_skip ToNext = ToNext
unplaced_skip PastLast = PastLast
unplaced_skip (ToFirst name) = ToFirst (unplaced_name name)
unplaced_skip (ToLast name) = ToLast (unplaced_name name)

-- each place is 0
abbrev pub unplaced_file : File → File
unplaced_file f = record {
  types = map unplaced_type f.types;
  openers = map unplaced_stage f.openers;
  within = option_map unplaced_limit f.within;
  within_gap = option_map unplaced_limit f.within_gap;
  skip = option_map unplaced_skip f.skip;
  select = option_map (map unplaced) f.select;
}

abbrev pub IsSameFile : File → File → Type 0
IsSameFile f g = unplaced_file f ≡ unplaced_file g
