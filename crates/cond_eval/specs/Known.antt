-- Numbers that may be there or not. This is this project's own.
use Rattle.std.specs.Prelude.{ℕ, ℤ, List, Option, Some, None, ◌==◌, if◌then◌else◌}
use Rattle.cep_event.specs.declared.event.EventType.{EventType}
use Rattle.cep_plan.specs.declared.item.Taken.{Taken}
use Rattle.cep_plan.specs.Answer.{Answer, number, missing}
use Rattle.cep_plan.specs.Aggregate.{field_of, number_in}

-- the number, and else Missing
abbrev pub number_if_known : Option ℤ → Answer
number_if_known None = missing
number_if_known (Some n) = number n

-- two numbers drawn into one, where both are there
abbrev pub drawn : (ℤ → ℤ → ℤ) → Option ℤ → Option ℤ → Option ℤ
drawn pick None next = next
drawn pick (Some x) None = Some x
drawn pick (Some x) (Some y) = Some (pick x y)

-- the number that a taken event holds in a field, if it was taken for the stage
abbrev pub number_taken : List EventType → ℕ → ℕ → Taken → Option ℤ
number_taken types stage field taken = if taken.stage == stage then number_in (field_of types field taken.event) else None
