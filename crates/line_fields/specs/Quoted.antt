-- Lines with fields in quotes that are lent as they stand.
use Rattle.std.specs.Prelude.{◌==◌, ◌||◌, ℕ, Option, Some, None, if◌then◌else◌}
use Rattle.line_fields.specs.declared.quoted.State.{State}
use Rattle.line_fields.specs.declared.quoted.State.TheVariants.{StartField, InField, InQuoted, AfterQuote}

-- the state after a byte, where the line may still be lent
abbrev pub next_state : State → ℕ → Option State
next_state StartField b =
    if b == 44 then Some StartField else if b == 34 then Some InQuoted else if (b == 13) || (b == 10) then None else Some InField
next_state InField b = if b == 44 then Some StartField else if (b == 34) || (b == 13) || (b == 10) then None else Some InField
next_state InQuoted b = if b == 34 then Some AfterQuote else Some InQuoted
next_state AfterQuote b = if b == 44 then Some StartField else None
