-- What `waiting` and `closing` show. (This project's own.)
use Rattle.std.specs.Prelude.{ℕ, ◌≡◌, ◌+◌, ◌<◌, ◌==◌, if◌then◌else◌, Bool, false, not, ◌&&◌, Option, Some, None, List, [], map, filter}
use Rattle.std.specs.List.{last_or, list_any, AllByRecursion as Each}
use Rattle.std.specs.List.Sorted.{IsPermutation, IsSortedBy}
use Rattle.std.specs.Option.{option_map_or}
use Rattle.std.specs.declared.cmp.Ordering.{Ordering}
use Rattle.std.specs.Ordering.{nat_cmp, ordering_then, is_lt, is_eq}
use Rattle.cep_event.specs.declared.event.Event.{Event}
use Rattle.cep_plan.specs.declared.plan.Plan.{Plan}
use Rattle.cep_plan.specs.declared.item.Due.{Due}
use Rattle.cep_plan.specs.declared.item.Taken.{Taken}
use Rattle.cep_plan.specs.Entry.{Entry, taken_of}
use Rattle.dewey_version.specs.Version.{version_cmp}
use Rattle.nfa_compile.specs.declared.nfa.Nfa.{Nfa}
use Rattle.nfa_compile.specs.declared.nfa.Took.{Took}
use Rattle.live_laws.specs.Starts.{Scope, comes_earlier, waiting_at, closing_at}
use Rattle.list_buffer.specs.Held.{Holder, held_by}
use Rattle.run_step.specs.declared.runs.Run.{Run}
use Rattle.run_step.specs.declared.runs.Tip.{Tip}
use Rattle.run_step.specs.Beginning.{full_in}
use Rattle.run_step.specs.Content.{Grouped, is_in_due}
use Rattle.run_step.specs.Runs.{Waiter, holder_of, AreTipsOf}

-- The tips, put in order, are those of these lists, each once. Each is held by one of those that wait.
pub record ShowsLists (plan : Plan) (events : List Event) (waiters : List Waiter) (told : List (List Entry)) (shown : List Tip) : Type 0 where
  pub holders : List Holder
  pub shown_are : AreTipsOf plan events holders shown
  pub lists :
      (made : List (List Taken)) → IsPermutation (map (λ holder. taken_of events holder.list) holders) made → IsSortedBy comes_earlier made
      → made ≡ map (taken_of events) told
  pub held : Each (λ holder. 0 < held_by (map holder_of waiters) holder.list holder.node) holders

-- the tips are those of the open lists of the due that are told as timeouts
abbrev pub ShowsWaiting : Plan → List Event → Scope → Due → List Waiter → List Tip → Type 0
ShowsWaiting plan events scope due waiters shown = ShowsLists plan events waiters (waiting_at plan events scope due) shown

-- the tips are those of the open lists of the due that are told as matches
abbrev pub ShowsClosing : Plan → List Event → Scope → Due → List Waiter → List Tip → Type 0
ShowsClosing plan events scope due waiters shown = ShowsLists plan events waiters (closing_at plan events scope due) shown

-- ---- the tips of runs

-- the run is the due's, and its list isn't full
abbrev pub is_shown : Nfa → Due → Run → Bool
is_shown nfa due run = is_in_due due run && not (full_in nfa run.wait.state)

-- the tip of the run's list
abbrev pub tip_of : Run → Tip
tip_of run = record { node = run.node; version = run.version }

-- the tips of the runs of a group that are shown, one for each run
abbrev pub shown_in : Nfa → Due → Grouped → List Tip
shown_in nfa due group = map tip_of (filter (is_shown nfa due) group.runs)

-- the same of the runs that wait for this stage
abbrev pub shown_for : Nfa → Due → ℕ → Grouped → List Tip
shown_for nfa due stage group = if group.stage == stage then shown_in nfa due group else []

abbrev pub stage_behind : Option Took → ℕ
stage_behind last = option_map_or (λ (took : Took). took.stage + 1) last 0

-- the number of stages: the last state is one of the last stage
abbrev pub end_in : Nfa → ℕ
end_in nfa = stage_behind (last_or None nfa.took)

-- tips in order: by their nodes, and then by their versions
abbrev pub tip_cmp : Tip → Tip → Ordering
tip_cmp a b = ordering_then (nat_cmp a.node b.node) (version_cmp a.version b.version)

abbrev pub comes_before : Tip → Tip → Bool
comes_before a b = is_lt (tip_cmp a b)

abbrev pub is_same_tip : Tip → Tip → Bool
is_same_tip a b = is_eq (tip_cmp a b)

-- the tip is the same as the last one
abbrev pub repeats_last : Tip → Option Tip → Bool
repeats_last tip None = false
repeats_last tip (Some last) = is_same_tip tip last

-- the tip is the same as one of these
abbrev pub is_among : List Tip → Tip → Bool
is_among tips tip = list_any (is_same_tip tip) tips
