-- Ranges of positions. This is this project's own.
use Rattle.std.specs.Prelude.{ℕ, Bool, false, ◌==◌, if◌then◌else◌, Option, Some, None}
use Rattle.cep_plan.specs.declared.item.Taken.{Taken}
use Rattle.live_laws.specs.Starts.{is_from}

-- the position is in the range, from its start and below its end
abbrev pub is_in : Option (ℕ × ℕ) → ℕ → Bool
is_in None position = false
is_in (Some (from, to)) position = is_from from to position

-- the position of the event, where it was taken for the stage, and else the earlier one
abbrev pub newer : ℕ → Option ℕ → Taken → Option ℕ
newer stage earlier taken = if taken.stage == stage then Some taken.position else earlier
