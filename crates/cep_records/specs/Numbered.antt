-- Types and fields that can be numbered, as they are in a checked plan.
use Rattle.std.specs.Prelude.{ℕ, ◌≤◌, ◌<◌, List, length, get_or}
use Rattle.cep_event.specs.declared.event.EventType.{EventType}
use Rattle.cep_records.specs.Record.{no_type}

-- no more types than 16 bits can number, and no more fields in any of them
pub record AreNumbered (types : List EventType) : Type 0 where
  pub few : length types ≤ 65535
  pub fields : (place : ℕ) → place < length types → length (get_or types place no_type).fields ≤ 65535
