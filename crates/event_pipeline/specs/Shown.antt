-- The sizes that a gauge is shown: how much is held after each tick of some records, but not after that of time End.
use Rattle.std.specs.Prelude.{◌≡◌, ℕ, List, [], ◌∷◌, ◌++◌, length, map, drop, Option, Result, Ok, Err}
use Rattle.cep_event.specs.declared.record.LineRecord.{LineRecord}
use Rattle.cep_event.specs.declared.record.Moment.TheVariants.{End}
use Rattle.cep_plan.specs.declared.plan.Plan.{Plan}
use Rattle.cep_plan.specs.EventTime.{arrivals_of, ticks_of, released}
use Rattle.cep_plan.specs.Tick.{event_tick}
use Rattle.shared_buffer.specs.declared.buffer.Held.{Held}
use Rattle.sharing_laws.specs.Sizes.{sizes_of, sizes_from, greatest_held}
use Rattle.told_list.specs.Grows.{Grows, GrowsPart}
use Rattle.event_pipeline.specs.declared.outputs.TellFault.{TellFault}

-- the sizes after each tick that a record adds which comes after others
abbrev pub sizes_added : Option ℕ → Plan → List LineRecord → LineRecord → List Held
sizes_added lag plan before next = drop (length (ticks_of lag before)) (sizes_of plan (ticks_of lag (before ++ next ∷ [])))

-- the sizes after each event that the end releases, where these records are all
abbrev pub sizes_at_end : Option ℕ → Plan → List LineRecord → List Held
sizes_at_end lag plan records = sizes_from plan (ticks_of lag records) (map event_tick (released (arrivals_of lag records) End))

-- these sizes were shown, and the answer is the greatest number of events among them; or a front of them was shown
abbrev pub Shows : Option (List Held) → Option (List Held) → List Held → Result ℕ TellFault → Type 0
Shows before now sizes (Ok greatest) = Grows before now sizes × (greatest ≡ greatest_held sizes)
Shows before now sizes (Err fault) = GrowsPart before now sizes
