-- The labels of lists. Where a list goes on in the same chain, its label stays; else the label gets a digit more for the stage, and where all events
-- may be let pass, one more for the event. After the Dewey numbers of the SIGMOD 2008 paper of Agrawal, Diao, Gyllstrom and Immerman; which digits
-- there are is this project's own.
use Rattle.std.specs.Prelude.{ℕ, ◌+◌, Bool, not, ◌&&◌, if◌then◌else◌, List, [], ◌∷◌, ◌++◌, None}
use Rattle.std.specs.List.{last_or, count_by, range_with_len}
use Rattle.cep_event.specs.declared.event.Event.{Event}
use Rattle.cep_plan.specs.declared.plan.Plan.{Plan}
use Rattle.cep_plan.specs.Entry.{Entry, stages_of}
use Rattle.cep_plan.specs.Follow.{end_stage, may_follow}
use Rattle.cep_plan.specs.Partial.{is_partial}
use Rattle.nfa_compile.specs.declared.nfa.Wait.{Wait}
use Rattle.nfa_compile.specs.Automaton.{is_chaining, is_same_chain, mode_behind}

-- The label of a list, and the first digit that the list hasn't given away yet.
pub record Mark : Type 0 where
  pub label : List ℕ
  pub next : ℕ

-- the step to the stage stays in the same chain
abbrev pub stays : Plan → List ℕ → ℕ → Bool
stays plan so_far stage = is_same_chain plan (last_or None so_far) stage

-- the stage may follow, and the step to it doesn't stay in the same chain
abbrev pub branches_off : Plan → List ℕ → ℕ → Bool
branches_off plan so_far stage = may_follow plan so_far stage && not (stays plan so_far stage)

-- the wait branches off
abbrev pub branches : Wait → Bool
branches wait = not wait.same_chain

-- how many stages below this one branch off
unfoldable pub branches_below : Plan → List ℕ → ℕ → ℕ
branches_below plan so_far stage = count_by (branches_off plan so_far) (range_with_len 0 stage)

-- how many branch off in all, the end stage among them
abbrev pub branches_in : Plan → List ℕ → ℕ
branches_in plan so_far = branches_below plan so_far (end_stage plan + 1)

-- how many events before this one could stand in its place
unfoldable pub earlier_takes : Plan → List Event → List Entry → Entry → ℕ
earlier_takes plan events list next =
    count_by (λ position. is_partial plan events (list ++ record { stage = next.stage; position = position } ∷ [])) (range_with_len 0 next.position)

-- the digit of the event, where all events may be let pass before it
abbrev pub event_digit : Plan → List Event → List Entry → Entry → List ℕ
event_digit plan events list next =
    if is_chaining (mode_behind plan (last_or None (stages_of list)) next.stage) then [] else earlier_takes plan events list next ∷ []

-- the digits of a step that branches off, from the first digit that isn't given away
abbrev pub step_digits : Plan → List Event → List Entry → Entry → ℕ → List ℕ
step_digits plan events list next digit = (digit + branches_below plan (stages_of list) next.stage) ∷ event_digit plan events list next

-- the mark of the list with one more entry
unfoldable pub mark_behind : Plan → List Event → List Entry → Mark → Entry → Mark
mark_behind plan events list mark next =
    if stays plan (stages_of list) next.stage
    then record { label = mark.label; next = mark.next + branches_in plan (stages_of list) }
    else record { label = mark.label ++ step_digits plan events list next mark.next; next = 0 }

-- the mark of the list with more entries
abbrev pub mark_from : Plan → List Event → List Entry → Mark → List Entry → Mark
mark_from plan events list mark [] = mark
mark_from plan events list mark (next ∷ later) = mark_from plan events (list ++ next ∷ []) (mark_behind plan events list mark next) later

-- the mark of the empty list
abbrev pub no_mark : Mark
no_mark = record { label = []; next = 0 }

abbrev pub mark_of : Plan → List Event → List Entry → Mark
mark_of plan events list = mark_from plan events [] no_mark list

abbrev pub label_of : Plan → List Event → List Entry → List ℕ
label_of plan events list = (mark_of plan events list).label
