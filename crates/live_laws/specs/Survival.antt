-- What one more event does to a list that waits for a stage. Each test sees the events taken before, the event and its position, and no others. These
-- tests are this project's own; that they say the same as the meaning of whole lists is proved.
use Rattle.std.specs.Prelude.{ℕ, Bool, true, ◌&&◌, List, [], ◌∷◌}
use Rattle.std.specs.Option.{option_map_or}
use Rattle.cep_event.specs.declared.event.Event.{Event}
use Rattle.cep_plan.specs.declared.plan.Plan.{Plan}
use Rattle.cep_plan.specs.declared.item.Taken.{Taken}
use Rattle.cep_plan.specs.Entry.{last_taken}
use Rattle.cep_plan.specs.Candidate.{comes_directly, fits}
use Rattle.cep_plan.specs.Gap.{spares}
use Rattle.cep_plan.specs.Limit.{limit_from, limit_of, is_below_limit}

-- The taken events go on waiting for the stage where the event at the position isn't taken. The empty list waits for ever.
unfoldable pub survives : Plan → List Taken → ℕ → Event → ℕ → Bool
survives plan taken stage event position =
    option_map_or (λ last. spares plan taken last.stage stage (comes_directly position last) event) (last_taken taken) true

-- The event is below the limit of the taken events. The event itself is the first one where none is taken.
abbrev pub comes_in_time : Plan → List Taken → Event → Bool
comes_in_time plan [] event = is_below_limit (limit_from plan event) event.ts
comes_in_time plan (first ∷ later) event = is_below_limit (limit_of plan (first ∷ later)) event.ts

-- The event at the position may be taken for the stage that the taken events wait for.
unfoldable pub takes : Plan → List Taken → ℕ → Event → ℕ → Bool
takes plan taken stage event position = fits plan taken stage event position && comes_in_time plan taken event
