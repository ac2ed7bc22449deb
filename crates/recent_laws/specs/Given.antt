-- The matches that ticks give are matches among all events. (This project's own.)
use Rattle.std.specs.Prelude.{◌≡◌, ⊤, true, List, [], ◌∷◌, ◌++◌}
use Rattle.std.specs.List.{AllByRecursion as Each}
use Rattle.cep_event.specs.declared.event.Event.{Event}
use Rattle.cep_plan.specs.declared.plan.Plan.{Plan}
use Rattle.cep_plan.specs.declared.item.Item.{Item}
use Rattle.cep_plan.specs.declared.item.Item.TheVariants.{Match, Timeout}
use Rattle.cep_plan.specs.Entry.{Entry, taken_of}
use Rattle.cep_plan.specs.Partial.{is_match}
use Rattle.cep_plan.specs.Tick.{Tick, events_of}
use Rattle.cep_plan.specs.History.{items_at}
use Rattle.recent_laws.specs.Law.{NeverFall}

-- a match among the events
abbrev pub IsMatchAmong : Plan → List Event → Item → Type 0
IsMatchAmong plan events (Match taken) = (list : List Entry) × (taken ≡ taken_of events list) × (is_match plan events list ≡ true)
IsMatchAmong plan events (Timeout taken) = ⊤

-- Where times don't fall, each match that a tick gives is a match among the events of all ticks.
abbrev pub GivesMatches : Type 0
GivesMatches = (plan : Plan) (before : List Tick) (tick : Tick) (later : List Tick) → NeverFall [] (before ++ tick ∷ later)
    → Each (IsMatchAmong plan (events_of (before ++ tick ∷ later))) (items_at plan before tick)
