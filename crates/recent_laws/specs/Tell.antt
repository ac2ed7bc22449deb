-- What is told of one key's events.
use Rattle.std.specs.Prelude.{ℕ, Bool, false, ◌≡◌, List, [], ◌∷◌, filter, Option, Some}
use Rattle.cep_event.specs.declared.value.Value.{Value}
use Rattle.cep_plan.specs.declared.plan.Plan.{Plan}
use Rattle.cep_plan.specs.declared.item.Taken.{Taken}
use Rattle.cep_plan.specs.Tick.{Tick}
use Rattle.cep_plan.specs.Skipping.{list_in}
use Rattle.cep_plan.specs.Keys.{key_of, same_key, ticks_of_key, kept_of, told_of}

-- the events have the key: they have one key, so the first one says it
abbrev pub has_key : Plan → Option Value → List Taken → Bool
has_key plan key [] = false
has_key plan key (first ∷ _) = same_key (key_of plan first.event) key

-- Where the pattern names a key: for each key, what is told of its events is what its own events and all marks give alone.
abbrev pub TellsAlone : Type 0
TellsAlone = (plan : Plan) (field : ℕ) (key : Option Value) (ticks : List Tick) → plan.by ≡ Some field
    → filter (λ item. has_key plan key (list_in item)) (told_of plan ticks) ≡ kept_of plan (ticks_of_key plan key ticks)
