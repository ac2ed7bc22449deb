-- What stands behind the dots of a pattern, one link after the other, and the stages that the links build.
use Rattle.std.specs.Prelude.{true, false, List, [], ◌∷◌, ◌++◌, Option, Some, None}
use Rattle.cep_reading.specs.declared.name.Name.{Name}
use Rattle.cep_syntax.specs.declared.file.OpenKind.{OpenKind}
use Rattle.cep_syntax.specs.declared.file.OpenKind.TheVariants.{Begin}
use Rattle.cep_syntax.specs.declared.file.Opener.{Opener}
use Rattle.cep_syntax.specs.declared.limit.Limits.{Limits}
use Rattle.cep_syntax.specs.declared.link.Building.{Building}
use Rattle.cep_syntax.specs.declared.link.Link.{Link}
use Rattle.cep_syntax.specs.declared.link.Link.TheVariants.{Of, Mod, Open}

-- a stage of which the rest is not read yet
abbrev pub opened : OpenKind → Name → Opener
opened how name = record { how = how; name = name; of = None; mods = [] }

abbrev pub started : Name → Building
started name = record { done = []; current = opened Begin name; fresh = true }

abbrev pub added : Building → Link → Building
added b (Of name) =
    record { done = b.done; current = record { how = b.current.how; name = b.current.name; of = Some name; mods = b.current.mods }; fresh = false }
added b (Mod m) =
    record {
      done = b.done;
      current =
          record { how = b.current.how; name = b.current.name; of = b.current.of; mods = b.current.mods ++ m ∷ [] };
      fresh = false;
    }
added b (Open how name) = record { done = b.done ++ b.current ∷ []; current = opened how name; fresh = true }

-- what bounds a pattern at whose end these limits stand, or none
abbrev pub limits_of : Option Limits → Limits
limits_of None = record { within = None; within_gap = None }
limits_of (Some limits) = limits

abbrev pub openers_of : Building → List Opener
openers_of b = b.done ++ b.current ∷ []
