-- What is due at a moment, what is left, and the lists that are told due by due. (This project's own.)
use Rattle.std.specs.Prelude.{ℕ, not, Bool, List, [], ◌∷◌, ◌++◌, length, map, filter, Option}
use Rattle.std.specs.List.{range_with_len}
use Rattle.cep_event.specs.declared.event.Event.{Event}
use Rattle.cep_event.specs.declared.record.Moment.{Moment}
use Rattle.cep_plan.specs.declared.plan.Plan.{Plan}
use Rattle.cep_plan.specs.declared.item.Due.{Due}
use Rattle.cep_plan.specs.declared.item.Due.TheVariants.{Start, Last}
use Rattle.cep_plan.specs.Entry.{Entry, event_at}
use Rattle.live_laws.specs.Starts.{Scope, without_due}
use Rattle.time_limit.specs.declared.queue.Place.{Place}
use Rattle.time_limit.specs.Limits.{Kept, limited, is_over}

-- the positions whose limit is reached, in order
abbrev pub due_among : Option ℕ → Moment → List Place → List ℕ
due_among limit now places = map (λ p. p.position) (filter (is_over limit now) places)

-- the places whose limit isn't reached
abbrev pub left_among : Option ℕ → Moment → List Place → List Place
left_among limit now places = filter (λ p. not (is_over limit now p)) places

-- all that is due: the starts, and then the last positions
abbrev pub dues_of : Kept → Moment → List Due
dues_of kept now = map Start (due_among kept.within now kept.starts) ++ map Last (due_among kept.gap now kept.lasts)

-- what is left of what is kept
abbrev pub left_of : Kept → Moment → Kept
left_of kept now = record kept { starts = left_among kept.within now kept.starts; lasts = left_among kept.gap now kept.lasts }

-- What the dues tell, one after another: each tells of the lists that are open, and then its own are open no more.
abbrev pub told_along : (Scope → Due → List (List Entry)) → Scope → List Due → List (List Entry)
told_along tells scope [] = []
told_along tells scope (due ∷ dues) = tells scope due ++ told_along tells (without_due scope due) dues

-- the lists that are open once the dues are over
abbrev pub scope_after : Scope → List Due → Scope
scope_after scope [] = scope
scope_after scope (due ∷ dues) = scope_after (without_due scope due) dues

-- ---- what is kept of the positions that are open

-- the position with the time of its event
abbrev pub place_at : List Event → ℕ → Place
place_at events position = record { position = position; ts = (event_at events position).ts }

-- these positions among the events, in order, where there is a limit
abbrev pub places_among : Option ℕ → List Event → (ℕ → Bool) → List Place
places_among limit events test = limited limit (map (place_at events) (filter test (range_with_len 0 (length events))))

-- what is kept of the open starts and last positions
abbrev pub saved_for : Plan → List Event → Scope → Kept
saved_for plan events scope = record {
  within = plan.within;
  gap = plan.within_gap;
  starts = places_among plan.within events scope.starts;
  lasts = places_among plan.within_gap events scope.lasts;
}
