-- The taken events of a list that grows entry by entry. (This project's own.)
use Rattle.std.specs.Prelude.{◌≡◌, true, false, List, [], Option, Some, None}
use Rattle.cep_event.specs.declared.event.Event.{Event}
use Rattle.cep_plan.specs.declared.item.Taken.{Taken}
use Rattle.cep_plan.specs.declared.plan.Plan.{Plan}
use Rattle.cep_plan.specs.Entry.{Entry, taken_of}
use Rattle.cep_plan.specs.Partial.{extends_all}

-- Each entry may come next behind those before it, and the taken events are those of the list; or some entry may not.
abbrev pub IsGrown : Plan → List Event → List Entry → Option (List Taken) → Type 0
IsGrown plan events list None = extends_all plan events [] list ≡ false
IsGrown plan events list (Some taken) = (extends_all plan events [] list ≡ true) × (taken ≡ taken_of events list)
