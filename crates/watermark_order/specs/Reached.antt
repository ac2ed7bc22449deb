-- What the greatest mark so far says of a time. There may be no mark yet. That a mark has reached its own time, so that an event of this time is
-- late, is this project's own rule.
use Rattle.std.specs.Prelude.{ℤ, int_lt, Bool, true, false, Option, Some, None}
use Rattle.cep_event.specs.declared.record.Moment.{Moment}
use Rattle.cep_event.specs.declared.record.Moment.TheVariants.{At, End}
use Rattle.cep_event.specs.Moment.{has_reached}

-- the greatest mark, if there is one, has reached the time
abbrev pub is_reached : Option Moment → ℤ → Bool
is_reached None time = false
is_reached (Some mark) time = has_reached mark time

-- the time is above the greatest mark, if there is one
abbrev pub is_above : Option Moment → ℤ → Bool
is_above None time = true
is_above (Some (At mark)) time = int_lt mark time
is_above (Some End) time = false
