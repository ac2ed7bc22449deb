-- What the runs and the buffer stand for between two ticks, and after one more event. (This project's own.)
use Rattle.std.specs.Prelude.{ℕ, ◌≡◌, Bool, false, not, ◌&&◌, List, [], ◌∷◌, ◌++◌, map, filter, Some}
use Rattle.cep_event.specs.declared.event.Event.{Event}
use Rattle.cep_plan.specs.declared.plan.Plan.{Plan}
use Rattle.cep_plan.specs.declared.item.Taken.{Taken}
use Rattle.cep_plan.specs.Entry.{taken_of}
use Rattle.cep_plan.specs.History.{matches_at}
use Rattle.nfa_compile.specs.declared.nfa.Nfa.{Nfa}
use Rattle.nfa_compile.specs.State.{IsCompilable}
use Rattle.nfa_compile.specs.Automaton.{automaton_of}
use Rattle.live_laws.specs.Starts.{Scope, begins_in}
use Rattle.list_runs.specs.Runs.{Admits}
use Rattle.shared_buffer.specs.Slots.{slot_at}
use Rattle.shared_buffer.specs.Content.{Content as BufferContent}
use Rattle.shared_buffer.specs.declared.node.Standing.{Standing}
use Rattle.run_step.specs.Content.{Content}
use Rattle.run_step.specs.Runs.{StandsNow}

-- no event has a pin
abbrev pub IsSettled : BufferContent → Type 0
IsSettled buffer = (key : ℕ) (row : Standing) → slot_at buffer.events key ≡ Some row → row.pinned ≡ false

-- The runs and the buffer stand for the events and the scope. Nothing is held but by runs, and the buffer knows of no later event and of no pin.
pub record RunsStand (plan : Plan) (events : List Event) (scope : Scope) (content : Content) (buffer : BufferContent) : Type 0 where
  pub now : StandsNow plan events scope [] content buffer
  pub settled : IsSettled buffer

-- those that are open without these starts
abbrev pub without_starts : Scope → (ℕ → Bool) → Scope
without_starts scope gone = record scope { starts = λ p. scope.starts p && not (gone p) }

-- the same for some plan, events and scope
pub record RunsStandSome (content : Content) (buffer : BufferContent) : Type 0 where
  pub plan : Plan
  pub events : List Event
  pub scope : Scope
  pub stands : RunsStand plan events scope content buffer

-- for some events and scope that the event may come next to
pub record CanAdvance (plan : Plan) (event : Event) (content : Content) (buffer : BufferContent) : Type 0 where
  pub events : List Event
  pub scope : Scope
  pub admits : Admits plan events scope event
  pub stands : RunsStand plan events scope content buffer

-- The event was taken in: these lists are the matches that end at it and begin at an open start, and the runs and the buffer stand for the events with it.
pub record HasAdvanced (plan : Plan) (events : List Event) (event : Event) (scope : Scope) (lists : List (List Taken)) (content : Content)
    (buffer : BufferContent) : Type 0 where
  pub matches : lists ≡ map (taken_of (events ++ event ∷ [])) (filter (begins_in scope.starts) (matches_at plan events event))
  pub stands : RunsStand plan (events ++ event ∷ []) scope content buffer

-- the runs and the buffer stand for some plan of this automaton, some events and some scope
pub record CanShow (nfa : Nfa) (content : Content) (buffer : BufferContent) : Type 0 where
  pub plan : Plan
  pub events : List Event
  pub scope : Scope
  pub fit : IsCompilable plan
  pub automaton : nfa ≡ automaton_of plan
  pub stands : RunsStand plan events scope content buffer
