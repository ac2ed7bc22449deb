-- What is asked of the next entry and of a gap, by the events taken so far. (This project's own.)
use Rattle.std.specs.Prelude.{ℕ, ℤ, Bool, true, false, ◌&&◌, nat_lt, List, [], ◌∷◌, length, map, pos, ◌+ℤ◌, Option, Some, None, option_map}
use Rattle.std.specs.List.Sorted.{IsPartitionedBy}
use Rattle.std.specs.Option.{option_map_or}
use Rattle.cep_event.specs.declared.event.Event.{Event}
use Rattle.cep_plan.specs.declared.item.Taken.{Taken}
use Rattle.cep_plan.specs.declared.plan.Plan.{Plan}
use Rattle.cep_plan.specs.Entry.{Entry, event_at, last_taken, stages_in}
use Rattle.cep_plan.specs.Follow.{may_follow, end_stage}
use Rattle.cep_plan.specs.Candidate.{fits}
use Rattle.cep_plan.specs.Gap.{spares, gap_spares, gap_between}
use Rattle.cep_plan.specs.Limit.{is_below_limit, limit_of, limit_from, limit_behind, lesser_limit}
use Rattle.cep_plan.specs.Partial.{count_before}
use Rattle.cep_audit.specs.declared.judged.Chosen.{Chosen}

-- the entries of a list that is given
abbrev pub entry_of : Chosen → Entry
entry_of chosen = record { stage = chosen.stage; position = chosen.position }

abbrev pub entries_of : List Chosen → List Entry
entries_of list = map entry_of list

-- the events below a limit stand before all others
abbrev pub NeverFall : List Event → Type 0
NeverFall events = (limit : ℤ) → IsPartitionedBy (λ e. is_below_limit (Some limit) e.ts) events

-- the events may stand in a gap; the first of them may follow the taken events directly
abbrev pub are_spared_from : Plan → List Taken → ℕ → ℕ → Bool → List Event → Bool
are_spared_from plan taken before stage directly [] = true
are_spared_from plan taken before stage directly (event ∷ later) =
    spares plan taken before stage directly event && are_spared_from plan taken before stage false later

-- the gap behind the taken events up to the position holds for the stage
abbrev pub gap_behind : Plan → List Event → List Taken → ℕ → ℕ → Bool
gap_behind plan events taken stage position =
    option_map_or (λ last. gap_spares plan taken last.stage stage (gap_between events last.position position)) (last_taken taken) true

-- the position is above the last one of the taken events
abbrev pub is_behind : List Taken → ℕ → Bool
is_behind taken position = option_map_or (λ last. nat_lt last.position position) (last_taken taken) true

-- the entry may come next behind the taken events
abbrev pub comes_next : Plan → List Event → List Taken → Entry → Bool
comes_next plan events taken next =
    may_follow plan (stages_in taken) next.stage && (nat_lt next.position (length events) && is_behind taken next.position)
    && fits plan taken next.stage (event_at events next.position) next.position && gap_behind plan events taken next.stage next.position

-- the taken events close
abbrev pub close : Plan → List Event → List Taken → Bool
close plan events taken =
    may_follow plan (stages_in taken) (end_stage plan)
    && option_map_or (λ limit. gap_behind plan events taken (end_stage plan) (count_before events limit)) (limit_of plan taken) false

-- there are taken events
abbrev pub has_taken : List Taken → Bool
has_taken [] = false
has_taken (_ ∷ _) = true

-- each of the events comes before the limit that the one before it sets, and the first of them before that of this time
abbrev pub near_behind : Plan → Option ℤ → List Taken → Bool
near_behind plan before [] = true
near_behind plan before (t ∷ later) =
    option_map_or (λ ts. is_below_limit (option_map (λ long. ts +ℤ pos long) plan.within_gap) t.event.ts) before true
    && near_behind plan (Some t.event.ts) later

-- the limit of taken events with this first and this last one
abbrev pub limit_by : Plan → Option Taken → Option Taken → Option ℤ
limit_by plan None last = None
limit_by plan (Some first) None = None
limit_by plan (Some first) (Some last) = lesser_limit (limit_from plan first.event) (limit_behind plan last.event)
