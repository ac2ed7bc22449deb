-- The starts of lists, which are the positions of their first events, and their last positions: which lists are open, which are due, and the open lists
-- that wait or close there. These words are this project's own.
use Rattle.std.specs.Prelude.{ℕ, ℤ, ◌≡◌, ◌<◌, Bool, true, false, not, ◌&&◌, ◌==◌, nat_le, nat_lt, ⊤, List, [], ◌∷◌, length, filter, Option, Some, None}
use Rattle.std.specs.List.{list_any, AllByRecursion as Each}
use Rattle.std.specs.Option.{option_map_or}
use Rattle.std.specs.Ordering.{is_eq}
use Rattle.cep_event.specs.declared.event.Event.{Event}
use Rattle.cep_event.specs.declared.record.Moment.{Moment}
use Rattle.cep_plan.specs.declared.plan.Plan.{Plan}
use Rattle.cep_plan.specs.declared.plan.Skip.{Skip}
use Rattle.cep_plan.specs.declared.item.Taken.{Taken}
use Rattle.cep_plan.specs.declared.item.Item.{Item}
use Rattle.cep_plan.specs.declared.item.Item.TheVariants.{Match, Timeout}
use Rattle.cep_plan.specs.declared.item.Due.{Due}
use Rattle.cep_plan.specs.declared.item.Due.TheVariants.{Start, Last}
use Rattle.cep_plan.specs.Entry.{Entry, event_at, entries_in, last_entry, stages_of}
use Rattle.cep_plan.specs.Order.{list_cmp, list_before}
use Rattle.cep_plan.specs.Follow.{end_stage, is_full}
use Rattle.cep_plan.specs.Limit.{limit_from, limit_behind, is_due, is_time_left, is_below_limit}
use Rattle.cep_plan.specs.Partial.{is_partial, is_open_for, is_live}
use Rattle.cep_plan.specs.History.{lists_within, ends_at}
use Rattle.cep_plan.specs.Skipping.{kills_start}

-- the limit that the first of the taken events sets
abbrev pub first_limit : Plan → List Taken → Option ℤ
first_limit plan [] = None
first_limit plan (first ∷ _) = limit_from plan first.event

-- no two elements are the same
abbrev pub AllApart : {X : Type 0} → List X → Type 0
AllApart [] = ⊤
AllApart (x ∷ xs) = Each (λ y. x ≡ y → ⊥) xs × AllApart xs

-- the list begins at one of these positions; the empty list may begin anywhere
abbrev pub begins_in : (ℕ → Bool) → List Entry → Bool
begins_in starts [] = true
begins_in starts (first ∷ _) = starts first.position

-- the taken events begin at one of these positions
abbrev pub starts_in : (ℕ → Bool) → List Taken → Bool
starts_in cut [] = false
starts_in cut (first ∷ _) = cut first.position

-- the position is from the one on and below the other
abbrev pub is_from : ℕ → ℕ → ℕ → Bool
is_from from to position = nat_le from position && nat_lt position to

-- the order of lists, of lists with their events
abbrev pub comes_earlier : List Taken → List Taken → Bool
comes_earlier a b = list_before (entries_in a) (entries_in b)

-- two lists have the same entries
abbrev pub ties : List Taken → List Taken → Bool
ties a b = is_eq (list_cmp (entries_in a) (entries_in b))

abbrev pub ties_with : List Taken → Option (List Taken) → Bool
ties_with list None = false
ties_with list (Some last) = ties list last

-- ---- open lists

-- the list ends at one of these positions; the empty list may end anywhere
abbrev pub ends_in : (ℕ → Bool) → List Entry → Bool
ends_in lasts list = option_map_or (λ last. lasts last.position) (last_entry list) true

-- Which lists are open: those that begin at one of these starts and end at one of these last positions.
pub record Scope : Type 0 where
  pub starts : ℕ → Bool
  pub lasts : ℕ → Bool

abbrev pub is_open : Scope → List Entry → Bool
is_open scope list = begins_in scope.starts list && ends_in scope.lasts list

-- the due is the list's: the list begins there, or ends there
abbrev pub is_due_of : Due → List Entry → Bool
is_due_of (Start position) [] = false
is_due_of (Start position) (first ∷ _) = first.position == position
is_due_of (Last position) list = ends_at position list

-- those that are open once the due is over
abbrev pub without_due : Scope → Due → Scope
without_due scope (Start position) = record scope { starts = λ p. scope.starts p && not (p == position) }
without_due scope (Last position) = record scope { lasts = λ p. scope.lasts p && not (p == position) }

-- those that are open once the starts from one position up to another, without the latter, are gone
abbrev pub without_range : Scope → ℕ → ℕ → Scope
without_range scope from to = record scope { starts = λ p. scope.starts p && not (is_from from to p) }

-- The event comes too late for lists that end elsewhere.
abbrev pub IsTooLate : Plan → List Event → (ℕ → Bool) → Event → Type 0
IsTooLate plan events lasts event =
    (position : ℕ) → position < length events → lasts position ≡ false → is_below_limit (limit_behind plan (event_at events position)) event.ts ≡ false

-- the list is live, and is neither full nor waits for the end: it is told as a timeout once its limit is reached
abbrev pub is_unfinished : Plan → List Event → List Entry → Bool
is_unfinished plan events list =
    is_live plan events list && not (is_full plan (stages_of list)) && not (is_open_for plan events list (end_stage plan))

-- the list is a partial match that waits for the end: it is told as a match once its limit is reached
abbrev pub is_closing_list : Plan → List Event → List Entry → Bool
is_closing_list plan events list = is_partial plan events list && is_open_for plan events list (end_stage plan)

-- the open lists of the due that are told as timeouts, in the order of lists
unfoldable pub waiting_at : Plan → List Event → Scope → Due → List (List Entry)
waiting_at plan events scope due =
    filter (λ list. is_open scope list && is_due_of due list && is_unfinished plan events list) (lists_within plan (length events))

-- the open lists of the due that are told as matches, in the order of lists
unfoldable pub closing_at : Plan → List Event → Scope → Due → List (List Entry)
closing_at plan events scope due =
    filter (λ list. is_open scope list && is_due_of due list && is_closing_list plan events list) (lists_within plan (length events))

-- ---- which starts and last positions are open

-- the item is a match that kills the lists which start at the position
abbrev pub item_kills_start : Skip → ℕ → Item → Bool
item_kills_start skip start (Match match) = kills_start skip match start
item_kills_start skip start (Timeout other) = false

-- no match among the items kills the lists which start at the position
abbrev pub is_start_alive : Skip → List Item → ℕ → Bool
is_start_alive skip items start = not (list_any (item_kills_start skip start) items)

-- the starts of lists that no kept match kills and that have time left
abbrev pub open_starts : Plan → List Event → List Item → Option Moment → ℕ → Bool
open_starts plan events items now start = is_start_alive plan.skip items start && is_time_left (limit_from plan (event_at events start)) now

-- the last positions of lists that have time left behind their last event
abbrev pub open_lasts : Plan → List Event → Option Moment → ℕ → Bool
open_lasts plan events now last = is_time_left (limit_behind plan (event_at events last)) now

-- the lists that are open, from the events so far, the items that were kept and the last time
abbrev pub open_scope : Plan → List Event → List Item → Option Moment → Scope
open_scope plan events items now = record { starts = open_starts plan events items now; lasts = open_lasts plan events now }

-- the starts among these whose time limit is reached now and wasn't before
abbrev pub due_starts : Plan → List Event → Option Moment → Moment → (ℕ → Bool) → ℕ → Bool
due_starts plan events before now starts start = is_due (limit_from plan (event_at events start)) before now && starts start

-- the last positions among these whose time limit is reached now and wasn't before
abbrev pub due_lasts : Plan → List Event → Option Moment → Moment → (ℕ → Bool) → ℕ → Bool
due_lasts plan events before now lasts last = is_due (limit_behind plan (event_at events last)) before now && lasts last
