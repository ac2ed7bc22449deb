-- What a run becomes that takes an event, by the wait of the automaton that it takes. (This project's own.)
use Rattle.std.specs.Prelude.{ℕ, ◌≡◌, ◌+◌, ◌-◌, ◌<◌, ◌^◌, if◌then◌else◌, List, [], ◌∷◌, ◌++◌, take, true, length, ⊤, Option, Some, None, count_by}
use Rattle.cep_event.specs.declared.event.Event.{Event}
use Rattle.cep_plan.specs.declared.plan.Plan.{Plan}
use Rattle.cep_plan.specs.Entry.{Entry, taken_of, event_at, stages_of}
use Rattle.cep_plan.specs.Partial.{waits}
use Rattle.nfa_compile.specs.declared.nfa.Wait.{Wait}
use Rattle.nfa_compile.specs.Automaton.{is_chaining, number_of_list, automaton_of}
use Rattle.nfa_compile.specs.State.{IsCompilable}
use Rattle.nfa_compile.specs.declared.nfa.Nfa.{Nfa}
use Rattle.run_step.specs.declared.runs.Run.{Run}
use Rattle.match_labels.specs.Label.{mark_of, label_of, branches}
use Rattle.list_buffer.specs.Held.{Holder}
use Rattle.run_judge.specs.Fate.{AreSumsOf}
use Rattle.run_step.specs.Runs.{Waiter, EndsWith, IsRunOf}
use Rattle.run_step.specs.declared.passing.Take.{Take}
use Rattle.run_step.specs.declared.passing.Grown.{Grown}

-- the digits that a take of the wait appends, after so many waits that branch off
abbrev pub digits_after : Wait → ℕ → ℕ → ℕ → List ℕ
digits_after wait next_digit before bump = (next_digit + before) ∷ (if is_chaining wait.mode then [] else bump ∷ [])

abbrev pub label_after : List Wait → ℕ → Wait → List ℕ → ℕ → ℕ → List ℕ
label_after waits number wait version next_digit bump =
    if wait.same_chain then version else version ++ digits_after wait next_digit (count_by branches (take number waits)) bump

abbrev pub digit_after : List Wait → Wait → ℕ → ℕ
digit_after waits wait next_digit = if wait.same_chain then next_digit + count_by branches waits else 0

-- where a list begins that goes on from this front with an entry
abbrev pub first_of : List Entry → Entry → Entry
first_of [] end = end
first_of (first ∷ _) end = first

-- the pred of an edge behind a list at a node: none behind the empty list
abbrev pub pred_of : List Entry → ℕ → Option ℕ
pred_of [] node = None
pred_of (_ ∷ _) node = Some node

-- The take is that of the waiter at the position of the last one of the events: its list gets one more entry.
abbrev pub taking : Waiter → ℕ → List Entry
taking waiter position = waiter.list ++ record { stage = waiter.stage; position = position } ∷ []

pub record IsTakeOf (plan : Plan) (events : List Event) (position : ℕ) (waiter : Waiter) (taken : Take) : Type 0 where
  pub stage_is : taken.stage ≡ waiter.stage
  pub state_is : taken.state ≡ number_of_list plan (stages_of (taking waiter position))
  pub pred_is : taken.pred ≡ pred_of waiter.list waiter.node
  pub version_is : taken.version ≡ label_of plan events (taking waiter position)
  pub digit_is : taken.next_digit ≡ (mark_of plan events (taking waiter position)).next
  pub start_is : taken.start ≡ (first_of waiter.list (record { stage = waiter.stage; position = position })).position
  pub time_is : taken.start_ts ≡ (event_at events (first_of waiter.list (record { stage = waiter.stage; position = position })).position).ts
  pub ends : EndsWith events (taking waiter position) taken.last
  pub sums : AreSumsOf plan (taken_of events (taking waiter position)) taken.sums

abbrev pub AreTakesOf : Plan → List Event → ℕ → List Waiter → List Take → Type 0
AreTakesOf plan events position [] [] = ⊤
AreTakesOf plan events position [] (_ ∷ _) = ⊥
AreTakesOf plan events position (_ ∷ _) [] = ⊥
AreTakesOf plan events position (waiter ∷ waiters) (taken ∷ takes) = IsTakeOf plan events position waiter taken × AreTakesOf plan events position waiters takes

-- the same once its edge stands, with one hold
pub record IsGrownOf (plan : Plan) (events : List Event) (holder : Holder) (grown : Grown) : Type 0 where
  pub state_is : grown.state ≡ number_of_list plan (stages_of holder.list)
  pub node_is : grown.node ≡ holder.node
  pub version_is : grown.version ≡ label_of plan events holder.list
  pub digit_is : grown.next_digit ≡ (mark_of plan events holder.list).next
  pub first : Entry
  pub later : List Entry
  pub parts : holder.list ≡ first ∷ later
  pub start_is : grown.start ≡ first.position
  pub time_is : grown.start_ts ≡ (event_at events first.position).ts
  pub ends : EndsWith events holder.list grown.last
  pub sums : AreSumsOf plan (taken_of events holder.list) grown.sums

abbrev pub AreGrownOf : Plan → List Event → List Holder → List Grown → Type 0
AreGrownOf plan events [] [] = ⊤
AreGrownOf plan events [] (_ ∷ _) = ⊥
AreGrownOf plan events (_ ∷ _) [] = ⊥
AreGrownOf plan events (holder ∷ holders) (one ∷ grown) = IsGrownOf plan events holder one × AreGrownOf plan events holders grown

-- The run is that of a list that waits, over the plan's automaton, and the position is that of the next event.
pub record CanTakeRun (plan : Plan) (events : List Event) (position : ℕ) (waiter : Waiter) (run : Run) (nfa : Nfa) : Type 0 where
  pub fit : IsCompilable plan
  pub automaton : nfa ≡ automaton_of plan
  pub at : position ≡ length events
  pub small : position < 2 ^ 32 - 1
  pub waiting : waits plan events waiter.list waiter.stage ≡ true
  pub run_is : IsRunOf plan events waiter run

pub record CanTakeSome (plan : Plan) (position : ℕ) (run : Run) (nfa : Nfa) : Type 0 where
  pub events : List Event
  pub waiter : Waiter
  pub can : CanTakeRun plan events position waiter run nfa
