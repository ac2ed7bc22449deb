-- The buffer in the midst of a step: which takes can still be put, and which runs hold what. (This project's own.)
use Rattle.std.specs.Prelude.{ℕ, ◌≡◌, ◌+◌, ◌<◌, ◌≤◌, ◌^◌, true, ⊤, List, [], ◌∷◌, ◌++◌, length, map, Some}
use Rattle.std.specs.List.{AllByRecursion as Each}
use Rattle.cep_event.specs.declared.event.Event.{Event}
use Rattle.cep_plan.specs.declared.plan.Plan.{Plan}
use Rattle.cep_plan.specs.Entry.{Entry}
use Rattle.cep_plan.specs.Partial.{is_partial}
use Rattle.nfa_compile.specs.State.{IsCompilable}
use Rattle.match_labels.specs.Label.{label_of}
use Rattle.live_laws.specs.Starts.{AllApart}
use Rattle.shared_buffer.specs.Slots.{slot_at}
use Rattle.shared_buffer.specs.Content.{Content as BufferContent}
use Rattle.shared_buffer.specs.declared.node.Standing.{Standing}
use Rattle.list_buffer.specs.Held.{Holder, Holds, held_by, both_hold, with_hold}
use Rattle.list_buffer.specs.Listed.{HoldsLists, HasEdgeOf}
use Rattle.run_step.specs.declared.runs.Run.{Run}
use Rattle.run_step.specs.declared.passing.Take.{Take}
use Rattle.run_step.specs.declared.passing.Grown.{Grown}
use Rattle.run_step.specs.Runs.{Waiter}
use Rattle.run_step.specs.Taking.{taking, IsTakeOf, AreTakesOf, IsGrownOf, AreGrownOf}

-- ---- puts

-- the waiter's list takes the event at the position: with it it is a partial match, and before it is empty or held
pub record CanTake (plan : Plan) (events : List Event) (position : ℕ) (held : Holds) (nodes : BufferContent) (waiter : Waiter) : Type 0 where
  pub partial : is_partial plan events (taking waiter position) ≡ true
  pub carried : (first : Entry) (later : List Entry) → waiter.list ≡ first ∷ later → HasEdgeOf plan events nodes.nodes waiter.list waiter.node
  pub below : Each (λ entry. entry.position < position) waiter.list
  pub small : (key : ℕ) → held waiter.list key ≤ 2 ^ 62
  pub new : (key : ℕ) → held (taking waiter position) key ≡ 0

-- The buffer holds lists, and each of the waiters can be put, one after the other: the event is the last one, and stands.
pub record CanPutAll (plan : Plan) (events : List Event) (position event : ℕ) (waiters : List Waiter) (held : Holds) (buffer : BufferContent) : Type 0 where
  pub fit : IsCompilable plan
  pub has : HoldsLists plan events held buffer
  pub row : Standing
  pub found : slot_at buffer.events event ≡ Some row
  pub at : row.position ≡ position
  pub top : position + 1 ≡ length events
  pub can : Each (CanTake plan events position held buffer) waiters
  pub apart : AllApart (map (λ waiter. taking waiter position) waiters)

-- the same for some lists, of which the first is the take's
pub record CanPutSome (event : ℕ) (taken : Take) (buffer : BufferContent) : Type 0 where
  pub plan : Plan
  pub events : List Event
  pub position : ℕ
  pub waiter : Waiter
  pub waiters : List Waiter
  pub held : Holds
  pub can : CanPutAll plan events position event (waiter ∷ waiters) held buffer
  pub take_is : IsTakeOf plan events position waiter taken

-- the holder of the list that the waiter becomes
abbrev pub grown_holder : Waiter → ℕ → ℕ → Holder
grown_holder waiter position node = record { list = taking waiter position; node = node }

-- the take was put
pub record HasPut (plan : Plan) (events : List Event) (position event : ℕ) (waiter : Waiter) (waiters : List Waiter) (held : Holds) (grown : Grown) (buffer : BufferContent) : Type 0 where
  pub can : CanPutAll plan events position event waiters (with_hold (grown_holder waiter position grown.node) held) buffer
  pub grown_is : IsGrownOf plan events (grown_holder waiter position grown.node) grown

-- all takes were put: each list is held once more
pub record HasPutAll (plan : Plan) (events : List Event) (position : ℕ) (waiters : List Waiter) (held : Holds) (grown : List Grown) (buffer : BufferContent) : Type 0 where
  pub holders : List Holder
  pub lists : map (λ holder. holder.list) holders ≡ map (λ waiter. taking waiter position) waiters
  pub grown_are : AreGrownOf plan events holders grown
  pub has : HoldsLists plan events (both_hold held (held_by holders)) buffer

-- ---- runs that end

-- the run has the node and the version of the holder's list
pub record IsHeldRun (plan : Plan) (events : List Event) (holder : Holder) (run : Run) : Type 0 where
  pub node_is : run.node ≡ holder.node
  pub version_is : run.version ≡ label_of plan events holder.list

abbrev pub AreHeldRuns : Plan → List Event → List Holder → List Run → Type 0
AreHeldRuns plan events [] [] = ⊤
AreHeldRuns plan events [] (_ ∷ _) = ⊥
AreHeldRuns plan events (_ ∷ _) [] = ⊥
AreHeldRuns plan events (holder ∷ holders) (run ∷ runs) = IsHeldRun plan events holder run × AreHeldRuns plan events holders runs

-- the run can end: its list is held
pub record CanEnd (plan : Plan) (events : List Event) (holder : Holder) (held : Holds) (run : Run) (buffer : BufferContent) : Type 0 where
  pub has : HoldsLists plan events held buffer
  pub is_held : 0 < held holder.list holder.node
  pub run_is : IsHeldRun plan events holder run

pub record CanEndSome (run : Run) (buffer : BufferContent) : Type 0 where
  pub plan : Plan
  pub events : List Event
  pub holder : Holder
  pub held : Holds
  pub can : CanEnd plan events holder held run buffer

-- The buffer holds the lists of the runs besides others, so all of the runs can end.
pub record CanEndAll (plan : Plan) (events : List Event) (holders : List Holder) (held : Holds) (runs : List Run) (buffer : BufferContent) : Type 0 where
  pub has : HoldsLists plan events (both_hold held (held_by holders)) buffer
  pub runs_are : AreHeldRuns plan events holders runs

pub record CanEndAllSome (runs : List Run) (buffer : BufferContent) : Type 0 where
  pub plan : Plan
  pub events : List Event
  pub holders : List Holder
  pub held : Holds
  pub can : CanEndAll plan events holders held runs buffer

-- the takes can be put, one after the other, for some lists
pub record CanPutAllSome (event : ℕ) (takes : List Take) (buffer : BufferContent) : Type 0 where
  pub plan : Plan
  pub events : List Event
  pub position : ℕ
  pub waiters : List Waiter
  pub held : Holds
  pub can : CanPutAll plan events position event waiters held buffer
  pub takes_are : AreTakesOf plan events position waiters takes

-- in the midst of the ends: these holders are left, of those at first
pub record Ending (plan : Plan) (events : List Event) (held : Holds) (runs : List Run) (buffer : BufferContent) : Type 0 where
  pub holders : List Holder
  pub can : CanEndAll plan events holders held runs buffer

-- in the midst of the puts: the holders so far, and the waiters that are left
pub record PuttingSome (plan : Plan) (events : List Event) (position event : ℕ) (waiters : List Waiter) (held : Holds) (grown : List Grown) (takes : List Take) (buffer : BufferContent) : Type 0 where
  pub done : List Waiter
  pub rest : List Waiter
  pub parts : waiters ≡ done ++ rest
  pub holders : List Holder
  pub lists : map (λ holder. holder.list) holders ≡ map (λ waiter. taking waiter position) done
  pub grown_are : AreGrownOf plan events holders grown
  pub can : CanPutAll plan events position event rest (both_hold held (held_by holders)) buffer
  pub takes_are : AreTakesOf plan events position rest takes
