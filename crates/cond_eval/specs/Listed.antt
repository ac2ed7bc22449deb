-- What a list of taken events stands for, as one that answers questions. This is this project's own.
use Rattle.std.specs.Prelude.{◌≡◌, List}
use Rattle.cep_event.specs.declared.event.EventType.{EventType}
use Rattle.cep_plan.specs.declared.item.Taken.{Taken}

-- the list, with the event types that tell where a field stands in an event
pub record Listed : Type 0 where
  pub types : List EventType
  pub list : List Taken

-- It stands for its own list, and for no other.
abbrev pub IsListed : Listed → List EventType → List Taken → Type 0
IsListed listed types list = (listed.types ≡ types) × (listed.list ≡ list)
