-- The starts and the last positions whose time limit is open, and which of them is due first. That a limit is reached at the time of the event plus the
-- limit is as in the FlinkCEP chapter of the Flink manual; the exact bound, and that starts come first, is this project's own.
use Rattle.std.specs.Prelude.{ℕ, ℤ, pos, ◌+ℤ◌, int_le, ◌<◌, ◌≡◌, ⊤, Bool, true, false, if◌then◌else◌, List, [], ◌∷◌, Option, Some, None, option_map}
use Rattle.std.specs.List.{AllByRecursion as Each}
use Rattle.cep_event.specs.declared.record.Moment.{Moment}
use Rattle.cep_plan.specs.declared.item.Due.{Due}
use Rattle.cep_plan.specs.declared.item.Due.TheVariants.{Start, Last}
use Rattle.cep_plan.specs.Limit.{is_limit_reached}
use Rattle.time_limit.specs.declared.queue.Place.{Place}

-- the two time limits in milliseconds, those that there are, with the starts and the last positions that are kept
pub record Kept : Type 0 where
  pub within : Option ℕ
  pub gap : Option ℕ
  pub starts : List Place
  pub lasts : List Place

-- what is kept of the places: all of them where there is a limit, and none else
abbrev pub limited : Option ℕ → List Place → List Place
limited None places = []
limited (Some limit) places = places

-- the limit that the event there sets is reached at the moment
abbrev pub is_over : Option ℕ → Moment → Place → Bool
is_over limit now place = is_limit_reached (option_map (λ l. place.ts +ℤ pos l) limit) now

abbrev pub is_front_over : Option ℕ → Moment → List Place → Bool
is_front_over limit now [] = false
is_front_over limit now (place ∷ _) = is_over limit now place

-- the first position whose limit is reached
abbrev pub first_over : Option ℕ → Moment → List Place → Option ℕ
first_over limit now [] = None
first_over limit now (place ∷ later) = if is_over limit now place then Some place.position else first_over limit now later

-- the places without that one
abbrev pub without_first_over : Option ℕ → Moment → List Place → List Place
without_first_over limit now [] = []
without_first_over limit now (place ∷ later) = if is_over limit now place then later else place ∷ without_first_over limit now later

-- the start, and where there is none the last position
abbrev pub earlier_due : Option ℕ → Option ℕ → Option Due
earlier_due (Some start) last = Some (Start start)
earlier_due None (Some last) = Some (Last last)
earlier_due None None = None

-- what is due first at the moment: a start whose limit is reached, and where there is none a last position
abbrev pub first_due : Kept → Moment → Option Due
first_due kept now = earlier_due (first_over kept.within now kept.starts) (first_over kept.gap now kept.lasts)

-- what is kept without the first that is due, by the start that is
abbrev pub without_due_by : Kept → Moment → Option ℕ → Kept
without_due_by kept now (Some start) = record kept { starts = without_first_over kept.within now kept.starts }
without_due_by kept now None = record kept { lasts = without_first_over kept.gap now kept.lasts }

abbrev pub without_first_due : Kept → Moment → Kept
without_first_due kept now = without_due_by kept now (first_over kept.within now kept.starts)

-- positions rise, and times don't fall
abbrev pub AreInOrder : List Place → Type 0
AreInOrder [] = ⊤
AreInOrder (place ∷ later) = Each (λ p. (place.position < p.position) × (int_le place.ts p.ts ≡ true)) later × AreInOrder later

-- all places stand before the position, and their times aren't above the time
abbrev pub AreBefore : ℕ → ℤ → List Place → Type 0
AreBefore position time places = Each (λ p. (p.position < position) × (int_le p.ts time ≡ true)) places
