-- The runs of lists that took an event. (This project's own.)
use Rattle.std.specs.Prelude.{ℕ, zero, suc, ◌≡◌, ◌<◌, ◌≤◌, ◌+◌, ◌^◌, Bool, false, if◌then◌else◌, List, [], ◌∷◌, ◌++◌, length, map, flat_map, filter, slice_get, Some}
use Rattle.std.specs.Option.{option_map_or}
use Rattle.std.specs.List.{AllByRecursion as Each}
use Rattle.nfa_compile.specs.State.{IsCompilable}
use Rattle.nfa_compile.specs.declared.nfa.Nfa.{Nfa}
use Rattle.nfa_compile.specs.declared.nfa.Took.{Took}
use Rattle.live_laws.specs.Starts.{AllApart}
use Rattle.cep_event.specs.declared.event.Event.{Event}
use Rattle.cep_plan.specs.declared.plan.Plan.{Plan}
use Rattle.cep_plan.specs.Entry.{Entry, last_entry, stages_of}
use Rattle.cep_plan.specs.Follow.{is_full}
use Rattle.nfa_compile.specs.declared.nfa.Wait.{Wait}
use Rattle.nfa_compile.specs.Automaton.{waits_of, automaton_of}
use Rattle.shared_buffer.specs.Content.{Content as BufferContent}
use Rattle.list_buffer.specs.Held.{Holder, Holds, held_by, both_hold, with_hold, without_hold}
use Rattle.list_buffer.specs.Listed.{HoldsLists}
use Rattle.run_step.specs.declared.runs.WaitKey.{WaitKey}
use Rattle.run_step.specs.declared.runs.Tip.{Tip}
use Rattle.run_step.specs.declared.passing.Grown.{Grown}
use Rattle.run_step.specs.declared.begun.Fresh.{Fresh}
use Rattle.run_step.specs.Content.{Staged, staged}
use Rattle.run_step.specs.Runs.{Waiter, holder_of, IsKeyOf, IsRunOf, AreRunsOf, AreTipsOf}
use Rattle.run_step.specs.Taking.{IsGrownOf, AreGrownOf}

-- the holder's list, as it waits for a stage
abbrev pub waiting_for : Holder → ℕ → Waiter
waiting_for holder stage = record { list = holder.list; stage = stage; node = holder.node }

-- one waiter for each stage that the list waits for
abbrev pub waiters_of : Plan → Holder → List Waiter
waiters_of plan holder = map (λ wait. waiting_for holder wait.stage) (waits_of plan (stages_of holder.list))

-- those whose lists are full
abbrev pub full_ones : Plan → List Holder → List Holder
full_ones plan holders = filter (λ holder. is_full plan (stages_of holder.list)) holders

-- a new run with its stage
abbrev pub fresh_run : Fresh → Staged
fresh_run fresh = staged fresh.stage fresh.run

-- The list ends at the last event and is held, so it can get a run for the wait of the key.
pub record CanBegin (plan : Plan) (events : List Event) (holder : Holder) (held : Holds) (grown : Grown) (stage : ℕ) (key : WaitKey) (buffer : BufferContent) : Type 0 where
  pub has : HoldsLists plan events held buffer
  pub is_held : 0 < held holder.list holder.node
  pub few : held holder.list holder.node ≤ 2 ^ 62
  pub grown_is : IsGrownOf plan events holder grown
  pub key_is : IsKeyOf plan holder.list stage key
  pub end : Entry
  pub last : last_entry holder.list ≡ Some end
  pub top : end.position + 1 ≡ length events

pub record CanBeginSome (grown : Grown) (stage : ℕ) (key : WaitKey) (buffer : BufferContent) : Type 0 where
  pub plan : Plan
  pub events : List Event
  pub holder : Holder
  pub held : Holds
  pub can : CanBegin plan events holder held grown stage key buffer

-- the run was begun, with a hold of its own
pub record HasBegun (plan : Plan) (events : List Event) (holder : Holder) (held : Holds) (stage : ℕ) (fresh : Fresh) (buffer : BufferContent) : Type 0 where
  pub has : HoldsLists plan events (with_hold holder held) buffer
  pub stage_is : fresh.stage ≡ stage
  pub run_is : IsRunOf plan events (waiting_for holder stage) fresh.run

-- all runs of these lists were begun, and those that are full are shown
pub record HasBegunAll (plan : Plan) (events : List Event) (holders : List Holder) (held : Holds) (fresh : List Fresh) (tips : List Tip) (buffer : BufferContent) : Type 0 where
  pub runs : AreRunsOf plan events (flat_map (waiters_of plan) holders) (map fresh_run fresh)
  pub shown : AreTipsOf plan events (full_ones plan holders) tips
  pub has :
      HoldsLists plan events (both_hold held (both_hold (held_by (map holder_of (flat_map (waiters_of plan) holders)))
      (held_by (full_ones plan holders)))) buffer

-- The lists of the holders end at the last event, each is held once for its put, and they are different.
pub record CanBeginAll (plan : Plan) (events : List Event) (nfa : Nfa) (holders : List Holder) (held : Holds) (grown : List Grown) (buffer : BufferContent) : Type 0 where
  pub fit : IsCompilable plan
  pub automaton : nfa ≡ automaton_of plan
  pub has : HoldsLists plan events (both_hold held (held_by holders)) buffer
  pub grown_are : AreGrownOf plan events holders grown
  pub ends : Each (λ holder. (end : Entry) × (last_entry holder.list ≡ Some end) × (end.position + 1 ≡ length events)) holders
  pub new : Each (λ holder. (key : ℕ) → held holder.list key ≡ 0) holders
  pub apart : AllApart (map (λ holder. holder.list) holders)

pub record CanBeginAllSome (nfa : Nfa) (grown : List Grown) (buffer : BufferContent) : Type 0 where
  pub plan : Plan
  pub events : List Event
  pub holders : List Holder
  pub held : Holds
  pub can : CanBeginAll plan events nfa holders held grown buffer

-- ---- the waits of one list

-- The list ends at the last event and is held, so it can get a run for each of its waits.
pub record CanBeginWaits (plan : Plan) (events : List Event) (holder : Holder) (held : Holds) (grown : Grown) (waits : List Wait) (buffer : BufferContent) : Type 0 where
  pub fit : IsCompilable plan
  pub has : HoldsLists plan events held buffer
  pub is_held : 0 < held holder.list holder.node
  pub few : held holder.list holder.node + 65 ≤ 2 ^ 62
  pub grown_is : IsGrownOf plan events holder grown
  pub waits_are : waits ≡ waits_of plan (stages_of holder.list)
  pub end : Entry
  pub last : last_entry holder.list ≡ Some end
  pub top : end.position + 1 ≡ length events

pub record CanBeginWaitsSome (grown : Grown) (waits : List Wait) (buffer : BufferContent) : Type 0 where
  pub plan : Plan
  pub events : List Event
  pub holder : Holder
  pub held : Holds
  pub can : CanBeginWaits plan events holder held grown waits buffer

-- one waiter for each of these waits
abbrev pub waiters_for : Holder → List Wait → List Waiter
waiters_for holder waits = map (λ wait. waiting_for holder wait.stage) waits

-- a run was begun for each of these waits, behind those before
pub record HasBegunWaits (plan : Plan) (events : List Event) (holder : Holder) (held : Holds) (waits : List Wait) (old new : List Fresh) (buffer : BufferContent) : Type 0 where
  pub more : List Fresh
  pub added : new ≡ old ++ more
  pub runs : AreRunsOf plan events (waiters_for holder waits) (map fresh_run more)
  pub has : HoldsLists plan events (both_hold held (held_by (map holder_of (waiters_for holder waits)))) buffer

-- ---- full lists

-- whether the lists of the state with this number are full, where 0 is the number of the start
abbrev pub full_in : Nfa → ℕ → Bool
full_in nfa zero = false
full_in nfa (suc before) = option_map_or (λ (took : Took). took.full) (slice_get nfa.took before) false

-- the list is held, and may be shown
pub record CanShow (plan : Plan) (events : List Event) (holder : Holder) (held : Holds) (grown : Grown) (buffer : BufferContent) : Type 0 where
  pub has : HoldsLists plan events held buffer
  pub is_held : 0 < held holder.list holder.node
  pub grown_is : IsGrownOf plan events holder grown

pub record CanShowSome (grown : Grown) (buffer : BufferContent) : Type 0 where
  pub plan : Plan
  pub events : List Event
  pub holder : Holder
  pub held : Holds
  pub can : CanShow plan events holder held grown buffer

-- a list that is full is shown with its hold, and the hold of another one goes
pub record HasShown (plan : Plan) (events : List Event) (holder : Holder) (held : Holds) (full : Bool) (old new : List Tip) (buffer : BufferContent) : Type 0 where
  pub more : List Tip
  pub added : new ≡ old ++ more
  pub shown : AreTipsOf plan events (if full then holder ∷ [] else []) more
  pub has : HoldsLists plan events (if full then held else without_hold holder held) buffer

-- in the midst of the lists: those so far, and those that are left
pub record BeginningSome (plan : Plan) (events : List Event) (holders : List Holder) (held : Holds) (fresh : List Fresh) (tips : List Tip) (grown : List Grown) (buffer : BufferContent) : Type 0 where
  pub done : List Holder
  pub rest : List Holder
  pub parts : holders ≡ done ++ rest
  pub runs : AreRunsOf plan events (flat_map (waiters_of plan) done) (map fresh_run fresh)
  pub shown : AreTipsOf plan events (full_ones plan done) tips
  pub has :
      HoldsLists plan events (both_hold (both_hold held
      (both_hold (held_by (map holder_of (flat_map (waiters_of plan) done))) (held_by (full_ones plan done)))) (held_by rest)) buffer
  pub grown_are : AreGrownOf plan events rest grown
